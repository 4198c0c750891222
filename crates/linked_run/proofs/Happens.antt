-- What can happen is an event of the net, and leaves what the definition says.
use Rattle.std.proofs.Common.{◌≡◌, ◌<◌, List, ◌∷◌, length, refl, sym, ap₂, ◌∙◌, subst}
use Rattle.std.proofs.lemmas.List.{length-map}
use Rattle.indus_tree.specs.State.{Contents}
use Rattle.network_run.specs.Events.{Event, Enter, Leave, Set}
use Rattle.path_runner.specs.Nets.{Switch, State, IsSame, tables_of, tables_after}
use Rattle.path_runner.specs.Conditions.{IsEvent}
use Rattle.linked_run.specs.Happening.{IsPossible, held_behind, CanHappen}

pub is_event : (s : State) (e : Event Contents) → IsPossible (length s.places) s.maps (tables_of s) e → IsEvent s e
is_event s (Enter i) h = h
is_event s (Leave i) h = h
is_event s (Set k v c) h = (subst (λ n. k < n) (length-map s.switches (λ (x : Switch). x.tables)) h.0, h.1)

pub held_after : (s : State) (e : Event Contents) → tables_after s e ≡ held_behind (length s.places) s.maps (tables_of s) e
held_after s (Enter i) = refl
held_after s (Leave i) = refl
held_after s (Set k v c) = refl

-- ---- at a moment of a run: s is the net before, t the net now

pub possible : (s t : State) (e : Event Contents) → IsSame s t → IsPossible (length s.places) s.maps (tables_of t) e → IsEvent t e
possible s t e same h =
    is_event t e
    (subst (λ n. IsPossible n t.maps (tables_of t) e) (sym same.packets)
    (subst (λ ms. IsPossible (length s.places) ms (tables_of t) e) (sym same.maps) h))

-- what can happen behind the event can happen where it has happened
pub behind :
    (s t u : State) (e : Event Contents) (es : List (Event Contents)) → IsSame s t → tables_of u ≡ tables_after t e →
    CanHappen (length s.places) s.maps (tables_of t) (e ∷ es) → CanHappen (length s.places) s.maps (tables_of u) es
behind s t u e es same held h =
    let now : tables_of u ≡ held_behind (length s.places) s.maps (tables_of t) e =
    held ∙ (held_after t e ∙ ap₂ (λ n ms. held_behind n ms (tables_of t) e) same.packets same.maps) in
    subst (λ sts. CanHappen (length s.places) s.maps sts es) (sym now) h.1
