-- Places of two programs that are one: slots that are the one's are the other's.
use Rattle.std.proofs.Common.{◌≡◌, List, sym, ap, subst}
use Rattle.std.proofs.Math.Logic.{∥∥₁_elim}
use Rattle.std.proofs.Props.{props}
use Rattle.std.specs.Coded.{Coded-set, codes}
use Rattle.std.specs.Prelude.{ℕ}
use Rattle.p4_tree.specs.Tree.{Program}
use Rattle.p4_meaning.specs.Parts.{parts_of}
use Rattle.p4_meaning.specs.Pass.{Queued}
use Rattle.slot_terms.specs.Places.{Places}
use Rattle.slot_terms.specs.States.{State}
use Rattle.slot_packets.specs.Queued.{store_in}
use Rattle.slot_metadata.specs.Laws.{IsStored}
use Rattle.slot_passages.specs.Laws.{HasSize}
use Rattle.p4_slots.specs.SlotPlaces.{places_for}

queued_set : IsSet Queued
queued_set = hlevel (Coded-set, codes)

size_prop : (m : Places) (s : State) → IsProp (HasSize m s)
size_prop m s = hlevel props

stored_prop : (m : Places) (s : State) → IsProp (IsStored m s)
stored_prop m s = hlevel (Coded-set, codes, props)

module _ (p q : Program) (same : ∥ q ≡ p ∥₁) where
  pub size_along : (s : State) → HasSize (places_for (parts_of p)) s → HasSize (places_for (parts_of q)) s
  size_along s h = ∥∥₁_elim same (size_prop (places_for (parts_of q)) s) (λ e. subst (λ (z : Program). HasSize (places_for (parts_of z)) s) (sym e) h)

  pub size_back : (s : State) → HasSize (places_for (parts_of q)) s → HasSize (places_for (parts_of p)) s
  size_back s h = ∥∥₁_elim same (size_prop (places_for (parts_of p)) s) (λ e. subst (λ (z : Program). HasSize (places_for (parts_of z)) s) e h)

  pub stored_along : (s : State) → IsStored (places_for (parts_of p)) s → IsStored (places_for (parts_of q)) s
  stored_along s h = ∥∥₁_elim same (stored_prop (places_for (parts_of q)) s) (λ e. subst (λ (z : Program). IsStored (places_for (parts_of z)) s) (sym e) h)

  pub stored_back : (s : State) → IsStored (places_for (parts_of q)) s → IsStored (places_for (parts_of p)) s
  stored_back s h = ∥∥₁_elim same (stored_prop (places_for (parts_of p)) s) (λ e. subst (λ (z : Program). IsStored (places_for (parts_of z)) s) e h)

  -- what is queued by the one is queued by the other
  pub queued_along : (s : State) (rest : List ℕ) → (let x : Queued = record { store = store_in (places_for (parts_of q)) s.slots s.valid; rest = rest } in x) ≡ (let x : Queued = record { store = store_in (places_for (parts_of p)) s.slots s.valid; rest = rest } in x)
  queued_along s rest = ∥∥₁_elim same (queued_set _ _) (ap (λ (z : Program). (let x : Queued = record { store = store_in (places_for (parts_of z)) s.slots s.valid; rest = rest } in x)))
