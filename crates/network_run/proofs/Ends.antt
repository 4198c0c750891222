-- Events keep the number of switches passed below the limit, and the closing phase ends every
-- packet.
--
-- A packet that may still pass k switches is over after its last steps for k, since each exit half
-- uses up one. The steps of one packet leave the places of the others alone.
use Rattle.std.proofs.Common.{◌≡◌, ◌≢◌, ℕ, zero, suc, ◌+◌, ◌<◌, ◌≤◌, List, [], ◌∷◌, ◌++◌, length, take, Bool, true, false, Option, Some, None, refl, sym, subst, arith, inl, inr}
use Rattle.std.specs.Prelude.{nat_lt, slice_get}
use Rattle.std.proofs.lemmas.Bool.Decides.{nat_tests, eqb_tells}
use Rattle.network_run.specs.Machine.{Machine}
use Rattle.network_run.specs.Network.{Wiring, Place, Flying, Waiting, Over, Net}
use Rattle.network_run.specs.Events.{Event, Enter, Leave, Set, to_its_end, closing}
use Rattle.network_run.specs.NetworkRun.{Limits, enters, leaves, happens, run_of_halves}
use Rattle.network_run.specs.World.{Arrival, World, steps, limits_of, first_place, first_net, net_after, net_at_end}
use Rattle.network_run.specs.RunLaws.{IsOver, HasPassedFewer, AllHavePassedFewer}
use Rattle.network_run.proofs.Places.{entered_places, left_places}

module _ {E S Q C : Type 0} (m : Machine E S Q C) (net : Wiring) (limits : Limits) where
  enters_fewer : (w : Net S Q C) (i : ℕ) (x : Place Q) → w.packets i ≡ x → AllHavePassedFewer limits.hops w → AllHavePassedFewer limits.hops (enters m net limits w i x)
  enters_fewer w i (Flying s port f n) e all =
      entered_places net limits i (λ j. HasPassedFewer limits.hops) w s port n (m.enter s (w.switches s) port f) tt (λ q. subst (HasPassedFewer limits.hops) e (all i)) (λ j other. all j)
  enters_fewer w i (Waiting s port q n) e all = all
  enters_fewer w i Over e all = all

  leaves_fewer : (w : Net S Q C) (i : ℕ) (x : Place Q) → AllHavePassedFewer limits.hops w → AllHavePassedFewer limits.hops (leaves m net limits w i x)
  leaves_fewer w i (Flying s port f n) all = all
  leaves_fewer w i (Waiting s port q n) all =
      left_places net limits i (λ j. HasPassedFewer limits.hops) w s port n (m.leave s (w.switches s) q) tt (λ far frame few. grind (arith, nat_tests, few)) (λ j other. all j)
  leaves_fewer w i Over all = all

  happens_fewer : (w : Net S Q C) (e : Event C) → AllHavePassedFewer limits.hops w → AllHavePassedFewer limits.hops (happens m net limits w e)
  happens_fewer w (Enter i) all = enters_fewer w i (w.packets i) refl all
  happens_fewer w (Leave i) all = leaves_fewer w i (w.packets i) all
  happens_fewer w (Set s v c) all = all

  -- events keep the number of switches passed below the limit
  pub run_fewer : (w : Net S Q C) (es : List (Event C)) → AllHavePassedFewer limits.hops w → AllHavePassedFewer limits.hops (run_of_halves m net limits w es)
  run_fewer w [] all = all
  run_fewer w (e ∷ es) all = run_fewer (happens m net limits w e) es (happens_fewer w e all)

  -- a half of packet i leaves the other packets alone
  enters_other : (w : Net S Q C) (i : ℕ) (x : Place Q) (j : ℕ) → j ≢ i → (enters m net limits w i x).packets j ≡ w.packets j
  enters_other w i (Flying s port f n) j =
      entered_places net limits i (λ j x. j ≢ i → x ≡ w.packets j) w s port n (m.enter s (w.switches s) port f) (λ other. absurd (other refl)) (λ q other. absurd (other refl)) (λ j other o. refl) j
  enters_other w i (Waiting s port q n) j = λ other. refl
  enters_other w i Over j = λ other. refl

  leaves_other : (w : Net S Q C) (i : ℕ) (x : Place Q) (j : ℕ) → j ≢ i → (leaves m net limits w i x).packets j ≡ w.packets j
  leaves_other w i (Flying s port f n) j = λ other. refl
  leaves_other w i (Waiting s port q n) j =
      left_places net limits i (λ j x. j ≢ i → x ≡ w.packets j) w s port n (m.leave s (w.switches s) q) (λ other. absurd (other refl)) (λ far frame few other. absurd (other refl)) (λ j other o. refl) j
  leaves_other w i Over j = λ other. refl

  -- a packet that is over stays over
  enters_over : (w : Net S Q C) (i : ℕ) (x : Place Q) → w.packets i ≡ x → IsOver x → IsOver ((enters m net limits w i x).packets i)
  enters_over w i (Flying s port f n) e o = absurd o
  enters_over w i (Waiting s port q n) e o = absurd o
  enters_over w i Over e o = subst IsOver (sym e) o

  leaves_over : (w : Net S Q C) (i : ℕ) (x : Place Q) → w.packets i ≡ x → IsOver x → IsOver ((leaves m net limits w i x).packets i)
  leaves_over w i (Flying s port f n) e o = absurd o
  leaves_over w i (Waiting s port q n) e o = absurd o
  leaves_over w i Over e o = subst IsOver (sym e) o

  happens_over : (w : Net S Q C) (e : Event C) (j : ℕ) → IsOver (w.packets j) → IsOver ((happens m net limits w e).packets j)
  happens_over w (Enter i) j o =
      elim (eqb_tells j i) [
        | inl h ↦ (let here = subst (λ k. IsOver (w.packets k)) h.1 o in subst (λ k. IsOver ((enters m net limits w i (w.packets i)).packets k)) (sym h.1) (enters_over w i (w.packets i) refl here))
        | inr h ↦ subst IsOver (sym (enters_other w i (w.packets i) j h.1)) o
      ]
  happens_over w (Leave i) j o =
      elim (eqb_tells j i) [
        | inl h ↦ (let here = subst (λ k. IsOver (w.packets k)) h.1 o in subst (λ k. IsOver ((leaves m net limits w i (w.packets i)).packets k)) (sym h.1) (leaves_over w i (w.packets i) refl here))
        | inr h ↦ subst IsOver (sym (leaves_other w i (w.packets i) j h.1)) o
      ]
  happens_over w (Set s v c) j o = o

  pub run_over : (w : Net S Q C) (es : List (Event C)) (j : ℕ) → IsOver (w.packets j) → IsOver ((run_of_halves m net limits w es).packets j)
  run_over w [] j o = o
  run_over w (e ∷ es) j o = run_over (happens m net limits w e) es j (happens_over w e j o)

  -- packet i has at most k switches to pass: before its exit half, and before its entry half
  abbrev BeforeLeave : ℕ → Place Q → Type 0
  BeforeLeave k (Flying s port f n) = (n < limits.hops) × (limits.hops ≤ n + k)
  BeforeLeave k (Waiting s port q n) = limits.hops ≤ n + 1 + k
  BeforeLeave k Over = Unit {0}

  abbrev BeforeEnter : ℕ → Place Q → Type 0
  BeforeEnter k (Flying s port f n) = (n < limits.hops) × (limits.hops ≤ n + k)
  BeforeEnter k (Waiting s port q n) = ⊥
  BeforeEnter k Over = Unit {0}

  leave_near : (w : Net S Q C) (i k : ℕ) (x : Place Q) → w.packets i ≡ x → BeforeLeave k x → BeforeEnter k ((leaves m net limits w i x).packets i)
  leave_near w i k (Flying s port f n) e h = subst (BeforeEnter k) (sym e) h
  leave_near w i k (Waiting s port q n) e h =
      left_places net limits i (λ j x. j ≡ i → BeforeEnter k x) w s port n (m.leave s (w.switches s) q) (λ e. tt)
      (λ far frame few e. let below : n + 1 < limits.hops = grind (arith, nat_tests, few) in (below, h))
      (λ j other e. absurd (other e)) i refl
  leave_near w i k Over e h = subst (BeforeEnter k) (sym e) tt

  enter_near : (w : Net S Q C) (i k : ℕ) (x : Place Q) → w.packets i ≡ x → BeforeEnter (suc k) x → BeforeLeave k ((enters m net limits w i x).packets i)
  enter_near w i k (Flying s port f n) e h =
      entered_places net limits i (λ j x. j ≡ i → BeforeLeave k x) w s port n (m.enter s (w.switches s) port f) (λ e. tt)
      (λ q e. let b = h.1 in omega (arith, b))
      (λ j other e. absurd (other e)) i refl
  enter_near w i k (Waiting s port q n) e h = absurd h
  enter_near w i k Over e h = subst (BeforeLeave k) (sym e) tt

  over_now : (x : Place Q) → BeforeEnter 0 x → IsOver x
  over_now (Flying s port f n) h = let a = h.0 in let b = h.1 in omega (arith, a, b)
  over_now (Waiting s port q n) h = h
  over_now Over h = tt

  -- a packet that has at most k switches to pass is over after its last steps
  ends : (k i : ℕ) (w : Net S Q C) → BeforeLeave k (w.packets i) → IsOver ((run_of_halves m net limits w (to_its_end i k)).packets i)
  ends zero i w h = over_now _ (leave_near w i 0 (w.packets i) refl h)
  ends (suc k) i w h =
      let w1 = leaves m net limits w i (w.packets i) in
      ends k i (enters m net limits w1 i (w1.packets i)) (enter_near w1 i k (w1.packets i) refl (leave_near w i (suc k) (w.packets i) refl h))

  near : (x : Place Q) → HasPassedFewer limits.hops x → BeforeLeave limits.hops x
  near (Flying s port f n) h = (h, omega arith)
  near (Waiting s port q n) h = omega arith
  near Over h = tt

  pub run_append : (xs ys : List (Event C)) (w : Net S Q C) → run_of_halves m net limits w (xs ++ ys) ≡ run_of_halves m net limits (run_of_halves m net limits w xs) ys
  run_append [] ys w = refl
  run_append (x ∷ xs) ys w = run_append xs ys (happens m net limits w x)

  -- the closing phase of packets i, i + 1 and so on ends them, and those that were over before stay
  -- so
  closing_ends : (n i : ℕ) (w : Net S Q C) → AllHavePassedFewer limits.hops w → (j : ℕ) → j < i + n → (j < i → IsOver (w.packets j)) → IsOver ((run_of_halves m net limits w (closing limits.hops i n)).packets j)
  closing_ends zero i w few j h before = before (omega (arith, h))
  closing_ends (suc n) i w few j h before =
      let last = to_its_end i limits.hops in
      let w1 = run_of_halves m net limits w last in
      let rest = closing_ends n (i + 1) w1 (run_fewer w last few) j (omega (arith, h))
      (λ l. elim (eqb_tells j i) [
        | inl e ↦ subst (λ k. IsOver (w1.packets k)) (sym e.1) (ends limits.hops i w (near (w.packets i) (few i)))
        | inr e ↦ (let other = e.1 in run_over w last j (before (omega (arith, l, other))))
      ]) in
      subst (λ z. IsOver (z.packets j)) (sym (run_append last (closing limits.hops (i + 1) n) w)) rest

  -- after the closing phase of the first `count` packets these are over
  pub all_end : (w : Net S Q C) (count i : ℕ) → AllHavePassedFewer limits.hops w → i < count → IsOver ((run_of_halves m net limits w (closing limits.hops 0 count)).packets i)
  all_end w count i few h = closing_ends count 0 w few i (omega (arith, h)) (λ l. absurd (omega (arith, l)))

module _ {E S Q C : Type 0} (m : Machine E S Q C) (net : Wiring) (telemetry : ℕ) (w : World E C) where
  first_fewer : 0 < w.hops → AllHavePassedFewer w.hops (first_net m w)
  first_fewer some i = place (slice_get w.packets i)
    where
      place : (o : Option Arrival) → HasPassedFewer {Q = Q} w.hops (first_place o)
      place None = tt
      place (Some a) = some

  -- in every world the number of switches passed is below the limit, after every number of steps
  pub world_fewer : (k : ℕ) → 0 < w.hops → AllHavePassedFewer w.hops (net_after m net telemetry w k)
  world_fewer k some = run_fewer m net (limits_of w telemetry) (first_net m w) (take k (steps w)) (first_fewer some)

  -- a packet that the world does not have is over from the start
  beyond : (xs : List Arrival) (i : ℕ) → length xs ≤ i → IsOver {Q = Q} (first_place (slice_get xs i))
  beyond [] i h = tt
  beyond (x ∷ xs) zero h = absurd (omega (arith, h))
  beyond (x ∷ xs) (suc i) h = beyond xs i (omega (arith, h))

  -- in every world every packet is over at the end
  pub world_ends : (i : ℕ) → 0 < w.hops → IsOver ((net_at_end m net telemetry w).packets i)
  world_ends i some =
      let limits = limits_of w telemetry in
      let before = run_of_halves m net limits (first_net m w) w.events in
      let last = closing w.hops 0 (length w.packets) in
      let few : AllHavePassedFewer w.hops before = run_fewer m net limits (first_net m w) w.events (first_fewer some) in
      let go : (b : Bool) → nat_lt i (length w.packets) ≡ b → IsOver ((run_of_halves m net limits before last).packets i) =
      λ b. elim b as (λ b. nat_lt i (length w.packets) ≡ b → IsOver ((run_of_halves m net limits before last).packets i)) [
        | true ↦ λ e. all_end m net limits before (length w.packets) i few (grind (arith, nat_tests, e))
        | false ↦ λ e. run_over m net limits before last i (run_over m net limits (first_net m w) w.events i (beyond w.packets i (grind (arith, nat_tests, e))))
      ] in
      subst (λ z. IsOver (z.packets i)) (sym (run_append m net limits w.events last (first_net m w))) (go (nat_lt i (length w.packets)) refl)
