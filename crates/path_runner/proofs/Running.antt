-- Events one behind the other.
use Rattle.std.proofs.Common.{◌≡◌, ℕ, zero, suc, ◌+◌, ◌-◌, ◌≤◌, List, [], ◌∷◌, ◌++◌, get_or, refl, ap, ap₂, sym, ◌∙◌, subst, arith}
use Rattle.p4_meaning.specs.Pass.{Kept, Queued}
use Rattle.indus_tree.specs.State.{Contents}
use Rattle.network_run.specs.Network.{Place, Over, Net}
use Rattle.network_run.specs.Events.{Event, Enter, Leave, to_its_end}
use Rattle.network_run.proofs.Ends.{run_append}
use Rattle.network_run.specs.NetworkRun.{Limits, enters, leaves, run_of_halves}
use Rattle.network_file.specs.Wiring.{wiring_of}
use Rattle.switch_machines.specs.Programs.{Controls, Programs, machine_with}
use Rattle.path_runner.specs.Nets.{State, controls_in, controls_of, Shows, RunsTo, AreKept, IsSame, run_in}

pub kept_then : (s t u : State) → AreKept s t → AreKept t u → AreKept s u
kept_then s t u a b = record { network = b.network ∙ a.network; programs = b.programs ∙ a.programs; shapes = b.shapes ∙ a.shapes }

pub same_then : (s t u : State) → IsSame s t → IsSame t u → IsSame s u
same_then s t u a b = record { kept = kept_then s t u a.kept b.kept; maps = b.maps ∙ a.maps; limits = b.limits ∙ a.limits; packets = b.packets ∙ a.packets }

-- a run in the same network, within the same limits
run_same : (p : Programs) (s t : State) (w : Net Kept Queued Contents) (es : List (Event Contents)) → IsSame s t → run_in p t w es ≡ run_in p s w es
run_same p s t w es same =
    ap (λ (c : (switch : ℕ) → Controls Contents). run_of_halves (machine_with c p) (wiring_of t.network) t.limits w es) (ap₂ controls_in same.kept.programs same.maps)
    ∙ (ap (λ n. run_of_halves (machine_with (controls_of s) p) (wiring_of n) t.limits w es) same.kept.network
    ∙ ap (λ (l : Limits). run_of_halves (machine_with (controls_of s) p) (wiring_of s.network) l w es) same.limits)

pub runs_then : (s t u : State) (es fs : List (Event Contents)) → IsSame s t → RunsTo s es t → RunsTo t fs u → RunsTo s (es ++ fs) u
runs_then s t u es fs same one other p w h =
    let behind : Shows p u (run_in p t (run_in p s w es) fs) = other p (run_in p s w es) (one p w h) in
    subst (λ (v : Net Kept Queued Contents). Shows p u v)
    (run_same p s t (run_in p s w es) fs same ∙ sym (run_append (machine_with (controls_of s) p) (wiring_of s.network) s.limits es fs w)) behind

-- one switch more on the way of a packet to its end
ends_more : (i n : ℕ) → to_its_end {C = Contents} i (suc n) ≡ to_its_end i n ++ (Enter i ∷ Leave i ∷ [])
ends_more i zero = refl
ends_more i (suc n) = ap (λ (es : List (Event Contents)). Leave i ∷ Enter i ∷ es) (ends_more i n)

pub end_more :
    (s t u v : State) (i n : ℕ) → IsSame s t → RunsTo s (to_its_end i n) t → IsSame t u → RunsTo t (Enter i ∷ []) u → RunsTo u (Leave i ∷ []) v →
    RunsTo s (to_its_end i (n + 1)) v
end_more s t u v i n same runs same' enters leaves =
    let both : RunsTo t (Enter i ∷ Leave i ∷ []) v = runs_then t u v (Enter i ∷ []) (Leave i ∷ []) same' enters leaves in
    let all : RunsTo s (to_its_end i n ++ (Enter i ∷ Leave i ∷ [])) v = runs_then s t v (to_its_end i n) (Enter i ∷ Leave i ∷ []) same runs both in
    let is : n + 1 ≡ suc n = omega arith in
    subst (λ (es : List (Event Contents)). RunsTo s es v) (sym (ap (to_its_end i) is ∙ ends_more i n)) all

-- a packet that is at its end stays where it is
over_enters : (t : State) (i : ℕ) → get_or t.places i Over ≡ Over → RunsTo t (Enter i ∷ []) t
over_enters t i over p w h =
    let m = machine_with (controls_of t) p in
    let at : w.packets i ≡ Over = h.packets i ∙ over in
    subst (λ (x : Place Queued). Shows p t (enters m (wiring_of t.network) t.limits w i x)) (sym at) h

over_leaves : (t : State) (i : ℕ) → get_or t.places i Over ≡ Over → RunsTo t (Leave i ∷ []) t
over_leaves t i over p w h =
    let m = machine_with (controls_of t) p in
    let at : w.packets i ≡ Over = h.packets i ∙ over in
    subst (λ (x : Place Queued). Shows p t (leaves m (wiring_of t.network) t.limits w i x)) (sym at) h

same_self : (t : State) → IsSame t t
same_self t = record { kept = record { network = refl; programs = refl; shapes = refl }; maps = refl; limits = refl; packets = refl }

-- so that what is left of its way changes nothing
over_more :
    (s t : State) (i n k : ℕ) → IsSame s t → RunsTo s (to_its_end i n) t → get_or t.places i Over ≡ Over →
    RunsTo s (to_its_end i (k + n)) t
over_more s t i n zero same runs over =
    let is : n ≡ 0 + n = omega arith in
    subst (λ j. RunsTo s (to_its_end i j) t) is runs
over_more s t i n (suc k) same runs over =
    let before = over_more s t i n k same runs over in
    let is : k + n + 1 ≡ suc k + n = omega arith in
    subst (λ j. RunsTo s (to_its_end i j) t) is
    (end_more s t t t i (k + n) same before (same_self t) (over_enters t i over) (over_leaves t i over))

pub over_ends :
    (s t : State) (i n m : ℕ) → n ≤ m → IsSame s t → RunsTo s (to_its_end i n) t → get_or t.places i Over ≡ Over →
    RunsTo s (to_its_end i m) t
over_ends s t i n m most same runs over =
    let is : m - n + n ≡ m = omega (arith, most) in
    subst (λ j. RunsTo s (to_its_end i j) t) is (over_more s t i n (m - n) same runs over)
