-- The closing phase.
use Rattle.std.proofs.Common.{◌≡◌, ℕ, zero, suc, ◌+◌, ◌<◌, ◌≤◌, List, [], ◌++◌, length, get_or, true, refl, ap, sym, ◌∙◌, subst, arith, append_assoc, append-nil, inl, inr}
use Rattle.std.specs.List.{list_all}
use Rattle.std.proofs.lemmas.List.{get_or_past}
use Rattle.std.proofs.lemmas.Bool.Decides.{nat_tests, leb_tells}
use Rattle.p4_meaning.specs.Pass.{Kept, Queued}
use Rattle.indus_tree.specs.State.{Contents}
use Rattle.network_run.specs.Network.{Place, Flying, Waiting, Over, Net}
use Rattle.network_run.specs.Events.{Event, to_its_end, closing}
use Rattle.network_run.specs.NetworkRun.{Limits}
use Rattle.network_run.specs.RunLaws.{IsOver, HasPassedFewer}
use Rattle.network_run.proofs.Ends.{all_end}
use Rattle.network_file.specs.Wiring.{wiring_of}
use Rattle.switch_machines.specs.Programs.{Programs, machine_with}
use Rattle.path_runner.specs.Nets.{Switch, State, controls_of, Traffic, Shows, RunsTo, IsSame, run_in}
use Rattle.path_runner.specs.Sound.{is_within}
use Rattle.path_runner.proofs.Lists.{passes_at}
use Rattle.path_runner.proofs.Running.{runs_then}

-- one packet more
closing-suc : (hops i n : ℕ) → closing {C = Contents} hops i (suc n) ≡ closing hops i n ++ to_its_end (i + n) hops
closing-suc hops i zero = let e : i + 0 ≡ i = omega arith in append-nil (to_its_end i hops) ∙ ap (λ k. to_its_end k hops) (sym e)
closing-suc hops i (suc n) =
    let e : i + 1 + n ≡ i + suc n = omega arith in
    ap (λ (es : List (Event Contents)). to_its_end i hops ++ es) (closing-suc hops (i + 1) n)
    ∙ sym (append_assoc (to_its_end i hops) (closing hops (i + 1) n) (to_its_end (i + 1 + n) hops))
    ∙ ap (λ k. (to_its_end i hops ++ closing hops (i + 1) n) ++ to_its_end k hops) e

pub closing_more :
    (s t u : State) (k : ℕ) → IsSame s t → RunsTo s (closing s.limits.hops 0 k) t → RunsTo t (to_its_end k t.limits.hops) u → RunsTo s (closing s.limits.hops 0 (k + 1)) u
closing_more s t u k same runs more =
    let hops = s.limits.hops in
    let next : RunsTo t (to_its_end k hops) u = subst (λ (l : Limits). RunsTo t (to_its_end k l.hops) u) same.limits more in
    let all : RunsTo s (closing hops 0 k ++ to_its_end k hops) u = runs_then s t u (closing hops 0 k) (to_its_end k hops) same runs next in
    let is : k + 1 ≡ suc k = omega arith in
    let none : 0 + k ≡ k = omega arith in
    subst (λ (es : List (Event Contents)). RunsTo s es u) (sym (ap (closing hops 0) is ∙ closing-suc hops 0 k ∙ ap (λ j. closing hops 0 k ++ to_its_end j hops) none)) all

fewer_at : (count : ℕ) (l : Limits) (x : Place Queued) → is_within count l x ≡ true → HasPassedFewer l.hops x
fewer_at count l (Flying s port frame n) h = grind (arith, nat_tests)
fewer_at count l (Waiting s port q n) h = grind (arith, nat_tests)
fewer_at count l Over h = tt

over_is : (x : Place Queued) → IsOver x → x ≡ Over
over_is (Flying s port frame n) o = absurd o
over_is (Waiting s port q n) o = absurd o
over_is Over o = refl

split : {A : Type 0} (i n : ℕ) → (i < n → A) → (n ≤ i → A) → A
split i n here past = elim (leb_tells n i) [ inl h ↦ past h.1 | inr h ↦ here h.1 ]

module _ (s t : State) (count : ℕ) (within : list_all (is_within count s.limits) s.places ≡ true) (same : IsSame s t) (runs : RunsTo s (closing s.limits.hops 0 (length s.places)) t) where
  -- no packet has passed as many switches as it may
  fewer : (p : Programs) (w : Net Kept Queued Contents) → Shows p s w → (i : ℕ) → HasPassedFewer s.limits.hops (w.packets i)
  fewer p w h i =
      let here : i < length s.places → HasPassedFewer s.limits.hops (get_or s.places i Over) = λ there. fewer_at count s.limits (get_or s.places i Over) (passes_at (is_within count s.limits) s.places i Over there within) in
      let past : length s.places ≤ i → HasPassedFewer s.limits.hops (get_or s.places i Over) = λ far. subst (HasPassedFewer s.limits.hops) (sym (get_or_past s.places i Over far)) tt in
      subst (HasPassedFewer s.limits.hops) (sym (h.packets i)) (split i (length s.places) here past)

  -- every packet is at its end
  pub all_over : (p : Programs) (w : Net Kept Queued Contents) → Shows p s w → (i : ℕ) → (run_in p s w (closing s.limits.hops 0 (length s.places))).packets i ≡ Over
  all_over p w h i =
      let after = runs p w h in
      let here : i < length s.places → (run_in p s w (closing s.limits.hops 0 (length s.places))).packets i ≡ Over =
      λ there. over_is _ (all_end (machine_with (controls_of s) p) (wiring_of s.network) s.limits w (length s.places) i (fewer p w h) there) in
      let past : length s.places ≤ i → (run_in p s w (closing s.limits.hops 0 (length s.places))).packets i ≡ Over =
      λ far. after.packets i ∙ get_or_past t.places i Over (omega (arith, far, same.packets)) in
      split i (length s.places) here past

  -- so that a log without packets stands for the end
  pub log_runs : (n : _) (xs : List Switch) (u : Traffic) → n ≡ t.network → xs ≡ t.switches → u ≡ t.traffic → RunsTo s (closing s.limits.hops 0 (length s.places)) (record { network = n; limits = s.limits; switches = xs; maps = []; places = []; traffic = u })
  log_runs n xs u by_network by_switches by_traffic p w h =
      let after = runs p w h in
      record {
        switches = rw by_switches after.switches;
        packets = all_over p w h;
        wires = rw by_traffic after.wires;
        edges = rw by_traffic after.edges;
        told = rw by_traffic after.told;
        dropped = rw by_traffic after.dropped;
        lost = rw by_traffic after.lost;
      }
