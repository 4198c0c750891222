-- The events of a job can happen one after the other in a net that is started.
use Rattle.std.proofs.Common.{◌≡◌, ◌<◌, List, [], ◌∷◌, ◌++◌, length, map, refl, sym, ap, ◌∙◌, subst}
use Rattle.std.specs.Prelude.{get_or}
use Rattle.std.proofs.lemmas.List.{length-map, append_assoc}
use Rattle.p4_tables.specs.State.{Held}
use Rattle.indus_tree.specs.State.{Contents}
use Rattle.network_run.specs.Events.{Event, Enter, Leave, Set}
use Rattle.control_maps.specs.Numbers.{IsSettable}
use Rattle.path_runner.specs.Nets.{Switch, State, tables_of, tables_after}
use Rattle.path_runner.specs.Conditions.{IsEvent}
use Rattle.linked_jobs.specs.Job.{Job}
use Rattle.linked_jobs.specs.Run.{Linked}
use Rattle.event_room.specs.Jobs.{IsOfJob, AreHeld, EventsHaveRoom}
use Rattle.linked_run.specs.Happening.{IsPossible, held_behind, CanHappen}

module _ (j : Job) (l : Linked) (room : EventsHaveRoom j l) where
  -- a switch whose tables hold this, and else anything
  abbrev with_tables : List Held → Switch
  with_tables st = record { program = l.programs 0; tables = st; cells = λ x. [] }

  abbrev state_with : State → List (List Held) → State
  state_with s sts = record s { switches = map with_tables sts }

  tables_with : (sts : List (List Held)) → map (λ (x : Switch). x.tables) (map with_tables sts) ≡ sts
  tables_with [] = refl
  tables_with (st ∷ sts) = ap (λ xs. st ∷ xs) (tables_with sts)

  possible_with : (s : State) (sts : List (List Held)) (e : Event Contents) → IsEvent (state_with s sts) e → IsPossible (length s.places) s.maps sts e
  possible_with s sts (Enter i) h = h
  possible_with s sts (Leave i) h = h
  possible_with s sts (Set k v c) h =
      (subst (λ n. k < n) (length-map sts with_tables) h.0, subst (λ xs. IsSettable (get_or xs k []) (get_or s.maps k []) v c) (tables_with sts) h.1)

  after_with : (s : State) (sts : List (List Held)) (e : Event Contents) → tables_after (state_with s sts) e ≡ held_behind (length s.places) s.maps sts e
  after_with s sts (Enter i) = tables_with sts
  after_with s sts (Leave i) = tables_with sts
  after_with s sts (Set k v c) = ap (λ xs. held_behind (length s.places) s.maps xs (Set k v c)) (tables_with sts)

  of_job : (s : State) (sts : List (List Held)) → IsOfJob j l s → length sts ≡ length j.network.names → IsOfJob j l (state_with s sts)
  of_job s sts of count = record { switches = length-map sts with_tables ∙ count; maps = of.maps; packets = of.packets }

  pub can_happen :
      (s : State) (sts : List (List Held)) (done rest : List (Event Contents)) → j.events ≡ done ++ rest → IsOfJob j l s → AreHeld j l done sts →
      CanHappen (length s.places) s.maps sts rest
  can_happen s sts done [] same of held = tt
  can_happen s sts done (e ∷ rest) same of held =
      let t = state_with s sts in
      let of_t = of_job s sts of held.switches in
      let held_t : AreHeld j l done (tables_of t) = subst (AreHeld j l done) (sym (tables_with sts)) held in
      let next : AreHeld j l (done ++ e ∷ []) (held_behind (length s.places) s.maps sts e) =
      subst (AreHeld j l (done ++ e ∷ [])) (after_with s sts e) (room.after t done rest e same of_t held_t) in (
        possible_with s sts e (room.event t done rest e same of_t held_t),
        can_happen s (held_behind (length s.places) s.maps sts e) (done ++ e ∷ []) rest (same ∙ sym (append_assoc done (e ∷ []) rest)) of next,
      )
