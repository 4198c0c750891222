-- In a run over whole hops no packet is queued between two events.
use Rattle.std.proofs.Common.{◌≡◌, ◌≢◌, ℕ, List, [], ◌∷◌, refl, sym, subst, inl, inr}
use Rattle.std.proofs.lemmas.Bool.Decides.{eqb_tells}
use Rattle.network_run.specs.Machine.{Machine}
use Rattle.network_run.specs.Network.{Wiring, Place, Flying, Waiting, Over, Net}
use Rattle.network_run.specs.Events.{Set, WholeEvent, Hop, Update}
use Rattle.network_run.specs.NetworkRun.{Limits, enters, leaves, happens, run_of_hops}
use Rattle.network_run.specs.RunLaws.{IsMoving, NoneWaits}
use Rattle.network_run.proofs.Places.{entered_places, left_places}

module _ {E S Q C : Type 0} (m : Machine E S Q C) (net : Wiring) (limits : Limits) where
  -- after an entry half of packet i no other packet is queued
  enters_moving : (w : Net S Q C) (i : ℕ) (x : Place Q) → NoneWaits w → (j : ℕ) → j ≢ i → IsMoving ((enters m net limits w i x).packets j)
  enters_moving w i (Flying s port f n) none j =
      entered_places net limits i (λ j x. j ≢ i → IsMoving x) w s port n (m.enter s (w.switches s) port f) (λ other. tt) (λ q other. absurd (other refl)) (λ j other o. none j) j
  enters_moving w i (Waiting s port q n) none j = λ other. none j
  enters_moving w i Over none j = λ other. none j

  -- a packet that is not queued, and the others
  all_moving : (w : Net S Q C) (i : ℕ) (x : Place Q) → w.packets i ≡ x → IsMoving x → ((j : ℕ) → j ≢ i → IsMoving (w.packets j)) → NoneWaits w
  all_moving w i x e here others j =
      elim (eqb_tells j i) [
        | inl h ↦ subst (λ k. IsMoving (w.packets k)) (sym h.1) (subst IsMoving (sym e) here)
        | inr h ↦ others j h.1
      ]

  -- and after its exit half it is not queued either
  leaves_moving : (w : Net S Q C) (i : ℕ) (x : Place Q) → w.packets i ≡ x → ((j : ℕ) → j ≢ i → IsMoving (w.packets j)) → (j : ℕ) → IsMoving ((leaves m net limits w i x).packets j)
  leaves_moving w i (Flying s port f n) e others = all_moving w i (Flying s port f n) e tt others
  leaves_moving w i (Waiting s port q n) e others =
      left_places net limits i (λ j. IsMoving) w s port n (m.leave s (w.switches s) q) tt (λ far frame few. tt) others
  leaves_moving w i Over e others = all_moving w i Over e tt others

  pub hops_moving : (w : Net S Q C) (es : List (WholeEvent C)) → NoneWaits w → NoneWaits (run_of_hops m net limits w es)
  hops_moving w [] none = none
  hops_moving w (Hop i ∷ es) none =
      let w1 = enters m net limits w i (w.packets i) in
      hops_moving (leaves m net limits w1 i (w1.packets i)) es (leaves_moving w1 i (w1.packets i) refl (enters_moving w i (w.packets i) none))
  hops_moving w (Update s v c ∷ es) none = hops_moving (happens m net limits w (Set s v c)) es none
