-- A net at its end shows the run of the job.
use Rattle.std.proofs.Common.{◌≡◌, ℕ, ◌≤◌, List, [], ◌++◌, length, map, get_or, Some, All, ap, sym, ◌∙◌, subst, arith}
use Rattle.std.proofs.lemmas.List.{length-map}
use Rattle.p4_tree.specs.Tree.{Program}
use Rattle.p4_meaning.specs.Parts.{parts_of}
use Rattle.p4_meaning.specs.Pass.{Kept, Queued, kept_before}
use Rattle.p4_tables.specs.Named.{tables_in}
use Rattle.indus_tree.specs.State.{Contents, members}
use Rattle.network_run.specs.Events.{closing}
use Rattle.network_run.specs.Network.{Sent, Net}
use Rattle.network_run.specs.NetworkRun.{Limits, run_of_halves}
use Rattle.network_run.specs.World.{first_place, first_net, limits_of, steps}
use Rattle.run_limits.proofs.Within.{run_within}
use Rattle.network_file.specs.Wiring.{wiring_of}
use Rattle.switch_machines.specs.Programs.{Controls, Programs, machine_of, machine_with}
use Rattle.path_runner.specs.Conditions.{most_packets}
use Rattle.path_runner.specs.Nets.{Switch, State, Shows, RunsTo, AreKept, IsSame, run_in}
use Rattle.path_runner.specs.Starts.{Starts}
use Rattle.path_runner.proofs.Running.{runs_then}
use Rattle.forward_run.specs.Job.{Job}
use Rattle.forward_run.specs.Run.{programs_of, world_of, run_of}
use Rattle.forward_run.specs.Switches.{switch_before, IsEnd, IsEndOf}
use Rattle.forward_run.proofs.Starting.{start_of, start_unmapped, controls_are, before_are}

-- the frame is one that captures hold
abbrev pub IsShort : Sent → Type 0
IsShort x = length x.frame ≤ 65535

-- the run puts no other out
pub edges_short : (j : Job) → All IsShort (run_of j).edges
unfolding run_of
edges_short j = (run_within (machine_of {C = Contents} (programs_of j)) (wiring_of j.network) (limits_of (world_of j) 0) (world_of j) (steps (world_of j))).edges

-- and no more of them than there are packets
pub edges_few : (j : Job) → length (run_of j).edges ≤ length j.packets
unfolding run_of
edges_few j = (run_within (machine_of {C = Contents} (programs_of j)) (wiring_of j.network) (limits_of (world_of j) 0) (world_of j) (steps (world_of j))).few

-- whatever its limits
other_limits : (p : Programs) (s : State) (l : Limits) (w : Net Kept Queued Contents) → Shows p s w → Shows p (record s { limits = l }) w
other_limits p s l w h =
    record {
      switches = h.switches;
      packets = h.packets;
      wires = h.wires;
      edges = h.edges;
      told = h.told;
      dropped = h.dropped;
      lost = h.lost;
    }

module _ (j : Job) (s t u : State) (is : s ≡ start_of j) (starts : Starts (map (switch_before j.program) j.tables) j.packets s) (same : IsSame s t) (runs : RunsTo s j.events t) (ends : RunsTo t (closing t.limits.hops 0 (length t.places)) u) where
  count : length t.places ≡ length j.packets
  count = same.packets ∙ ap (λ (x : State). length x.places) is ∙ length-map j.packets (λ a. first_place {Q = Queued} (Some a))

  hops : t.limits.hops ≡ j.hops
  hops = ap (λ (l : Limits). l.hops) same.limits ∙ ap (λ (x : State). x.limits.hops) is

  -- the schedule, and then the closing phase
  whole : RunsTo s (j.events ++ closing j.hops 0 (length j.packets)) u
  whole =
      runs_then s t u j.events (closing j.hops 0 (length j.packets)) same runs
      (subst (λ (n : ℕ). RunsTo t (closing j.hops 0 n) u) count (subst (λ (n : ℕ). RunsTo t (closing n 0 (length t.places)) u) hops ends))

  shown : Shows (programs_of j) u (run_of j)
  unfolding run_of
  shown =
      let p = programs_of j in
      let w = first_net (machine_of p) (world_of j) in
      let first : Shows p s w = starts p (λ s. kept_before (parts_of j.program) (tables_in (parts_of j.program) (get_or j.tables s []))) (λ s v. members []) (before_are j) in
      let es = j.events ++ closing j.hops 0 (length j.packets) in
      let alone : run_in p s w es ≡ run_of_halves (machine_of p) (wiring_of s.network) s.limits w es =
      ap (λ (c : (switch : ℕ) → Controls Contents). run_of_halves (machine_with c p) (wiring_of s.network) s.limits w es) (controls_are s (start_unmapped j s is)) in
      subst (λ (v : Net Kept Queued Contents). Shows p u v) (alone ∙ ap (λ (x : State). run_of_halves (machine_of p) (wiring_of x.network) x.limits w es) is) (whole p w first)

  module _ (kept : AreKept t u) (names : length j.tables ≡ length j.network.names) (few : length j.packets ≤ most_packets) (l : Limits) where
    network : u.network ≡ j.network
    network = kept.network ∙ same.kept.network ∙ ap (λ (x : State). x.network) is

    programs : map (λ (x : Switch). x.program) u.switches ≡ map (λ (x : Switch). x.program) (map (switch_before j.program) j.tables)
    programs = kept.programs ∙ same.kept.programs ∙ ap (λ (x : State). map (λ (y : Switch). y.program) x.switches) is

    switches : length u.switches ≡ length j.network.names
    switches =
        sym (length-map u.switches (λ (x : Switch). x.program)) ∙ ap (λ (ps : List Program). length ps) programs
        ∙ length-map (map (switch_before j.program) j.tables) (λ (x : Switch). x.program) ∙ length-map j.tables (switch_before j.program) ∙ names

    pub end_is : IsEnd j.program (record u { limits = l })
    end_is =
        record {
          switches = switches ∙ ap (λ n. length n.names) (sym network);
          programs = shown.switches.programs;
          short = subst (All IsShort) shown.edges (edges_short j);
          few = subst (λ (xs : List Sent). length xs ≤ most_packets) shown.edges (let fewer = edges_few j in omega (arith, fewer, few));
        }

    pub end_of : IsEndOf j (record u { limits = l })
    end_of = record { shows = other_limits (programs_of j) u l (run_of j) shown; network = network }
