-- What the files may give enters a network by its edge ports, and is short and not too much; and their program can be spelled.
use Rattle.std.proofs.Common.{◌≡◌, ℕ, ◌≤◌, List, length, map, sym, subst, arith}
use Rattle.std.specs.List.{All}
use Rattle.network_run.specs.NetworkRun.{longest_frame}
use Rattle.network_file.specs.Network.{Network, Port}
use Rattle.path_runner.specs.Conditions.{IsAtEdge}
use Rattle.case_file.specs.Case.{Case}
use Rattle.p4_printer.specs.CanSpell.{CanSpell}
use Rattle.job_course.specs.Course.{and_then}
use Rattle.program_course.proofs.Spelling.{can_be_spelled}
use Rattle.case_course.specs.Packets.{Packets}
use Rattle.case_course.specs.Course.{Ground, ground_course, packets_course}
use Rattle.case_course.proofs.PlaceLemmas.{IsPlace, are_places}
use Rattle.case_course.proofs.CaptureLemmas.{captures_are_short, captures_are_few, few_arrive, all_arrive}

-- captures enter the network by edge ports
pub ground_is_placed : (name : List ℕ) (c : Case) (g : Ground) → (ground_course name c).may g → All (IsPlace g.network) g.places
unfolding ground_course and_then
ground_is_placed name c g (p, a, (n, b, (ps, places, is))) =
    subst (λ (h : Ground). All (IsPlace h.network) h.places) (sym is) (are_places n c.captures ps places)

-- some tokens spell the program
pub ground_is_spelled : (name : List ℕ) (c : Case) (g : Ground) → (ground_course name c).may g → CanSpell g.program
unfolding ground_course and_then
ground_is_spelled name c g (p, a, (n, b, (ps, places, is))) =
    subst (λ (h : Ground). CanSpell h.program) (sym is) (can_be_spelled c.program p a)

module _ (name : List ℕ) (c : Case) (places : List Port) (ps : Packets) where
  pub packets_are_few : (packets_course name c places).may ps → length ps.arrivals ≤ 100000
  unfolding packets_course and_then
  packets_are_few (cs, may, is) =
      let few = captures_are_few name c.room c.hops (map (λ x. x.file) c.captures) cs may in
      let less = few_arrive places cs in
      subst (λ (q : Packets). length q.arrivals ≤ 100000) (sym is) (omega (arith, few, less))

  pub packets_arrive : (n : Network) → All (IsPlace n) places → (packets_course name c places).may ps → All (IsAtEdge n longest_frame) ps.arrivals
  unfolding packets_course and_then
  packets_arrive n h (cs, may, is) =
      subst (λ (q : Packets). All (IsAtEdge n longest_frame) q.arrivals) (sym is) (all_arrive n places cs h (captures_are_short name c.room c.hops (map (λ x. x.file) c.captures) cs may))
