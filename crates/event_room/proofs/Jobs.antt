-- Each event of a job can happen.
use Rattle.std.proofs.Common.{◌≡◌, ◌≢◌, ℕ, zero, suc, ◌<◌, ◌≤◌, List, [], ◌∷◌, ◌++◌, map, length, get_or, Bool, true, cond, nat_eq, Option, Some, None, refl, sym, ap, ◌∙◌, subst, append_assoc, arith, All}
use Rattle.std.specs.Prelude.{slice_get, slice_set, option_map}
use Rattle.std.specs.List.{AllByRecursion}
use Rattle.std.proofs.lemmas.Bool.{eqb-true}
use Rattle.std.proofs.lemmas.Option.{slice_get-get_or, slice_get-map}
use Rattle.std.proofs.lemmas.List.{length-map, length-set, get_or-map}
use Rattle.std.proofs.lemmas.List.Elements.{All-head, All-tail}
use Rattle.std.proofs.lemmas.List.FromFn.{length-map-range_with_len, get_or-map-range_with_len}
use Rattle.p4_tree.specs.Tree.{Program}
use Rattle.p4_meaning.specs.Parts.{parts_of}
use Rattle.p4_tables.specs.State.{Held, entries_in}
use Rattle.indus_tree.specs.Tree.{Shape, Decl}
use Rattle.indus_tree.specs.State.{Contents}
use Rattle.network_run.specs.Events.{Event, Enter, Leave, Set}
use Rattle.network_run.specs.NetworkRun.{put}
use Rattle.network_run.proofs.Numbers.{nat_eq_self, nat_eq_other}
use Rattle.whole_properties.specs.Whole.{Given}
use Rattle.linked_properties.specs.Linked.{given_in}
use Rattle.linked_properties.proofs.Linked.{faultless_is_given}
use Rattle.control_maps.specs.Numbers as numbers
use Rattle.control_maps.specs.Numbers.{Numbered, set_in, HasShape, IsSettable}
use Rattle.path_runner.specs.Nets.{Switch, State, tables_of, tables_after}
use Rattle.path_runner.specs.Conditions.{IsEvent}
use Rattle.event_room.proofs.Places.{at_set}
use Rattle.loaded_tables.specs.Rows.{Row, numbered_rows}
use Rattle.loaded_tables.specs.Loading.{AreTaken}
use Rattle.read_contents.specs.Fits.{FitsVariable, IsFitEvent}
use Rattle.linked_jobs.specs.Job.{Job, IsReady}
use Rattle.linked_jobs.specs.Run.{Linked, IsLinked, programs_of, world_of}
use Rattle.event_room.specs.Contents.{contents_behind, contents_after}
use Rattle.event_room.specs.Room.{IsWithin}
use Rattle.event_room.specs.Holding.{Holds}
use Rattle.event_room.specs.Jobs.{map_at, entries_at, contents_at, IsOfJob, IsStarted, AreHeld, JobsHaveRoom}
use Rattle.event_room.proofs.Room.{contents_are_taken, declared_there}
use Rattle.event_room.proofs.Holding.{tables_hold}

-- ---- what variables hold, event by event

after_one : (s : ℕ) (c : ℕ → Contents) (done : List (Event Contents)) (e : Event Contents) → contents_after s c (done ++ e ∷ []) ≡ contents_behind s (contents_after s c done) e
after_one s c [] e = refl
after_one s c (d ∷ done) e = after_one s (contents_behind s c d) done e

-- the variables of a map with the shapes that are declared for them
shapes_of_rows :
    (q : Program) (ds : List Decl) (v : ℕ) (x : Contents) → FitsVariable ds v x → (rows : List Row)
    → AllByRecursion (λ n. nat_eq n.variable v ≡ true → HasShape n.shape x) (numbered_rows q ds rows)
shapes_of_rows q ds v x is [] = tt
shapes_of_rows q ds v x is (r ∷ rows) = (
  (λ own.
      let same : r.2 ≡ v = eqb-true r.2 v own in
      subst (λ (s : Shape). HasShape s x) (sym (declared_there ds r.2 is.decl (ap (slice_get ds) same ∙ is.declared))) is.fits.shape.shape),
  shapes_of_rows q ds v x is rows,
)

settable :
    (st : List Held) (all ns : List Numbered) (v : ℕ) (x : Contents) → AllByRecursion (λ n. nat_eq n.variable v ≡ true → HasShape n.shape x) ns
    → numbers.AreUnequal (numbers.keys_of x) → entries_in (set_in all v x st) ≤ 65536
    → AllByRecursion (λ n. nat_eq n.variable v ≡ true → numbers.AreTaken st all v x n) ns
settable st all [] v x shapes keys few = tt
settable st all (n ∷ ns) v x shapes keys few = ((λ own. record { shape = shapes.0 own; keys = keys; few = few }), settable st all ns v x shapes.1 keys few)

at_place : {A B : Type 0} (f : A → B) (xs : List A) (i : ℕ) (d : A) → i < length xs → slice_get (map f xs) i ≡ Some (f (get_or xs i d))
at_place f [] i d lt = absurd (omega (arith, lt))
at_place f (x ∷ xs) zero d lt = refl
at_place f (x ∷ xs) (suc i) d lt = at_place f xs i d (omega (arith, lt))

in_middle : {A : Type 0} (P : A → Type 0) (done : List A) (e : A) (rest : List A) → All P (done ++ e ∷ rest) → P e
in_middle P [] e rest h = All-head P e rest h
in_middle P (d ∷ done) e rest h = in_middle P done e rest (All-tail P d (done ++ e ∷ rest) h)

module _ (j : Job) (l : Linked) (ready : IsReady j) (linked : IsLinked j l) where
  abbrev g : Given
  g = given_in j.property j.program linked.linked.controls

  abbrev first : (switch : ℕ) → ℕ → Contents
  first s = (world_of j).contents s

  is_within : IsWithin g l.rows (map entries_in j.tables) j.contents j.events
  is_within =
      record {
        given = faultless_is_given j.property j.program j.room ready.linkable linked.linked.controls;
        mapped = linked.linked.tables;
        within = ready.items;
      }

  map_is : (s : ℕ) → s < length j.network.names → map_at j l s ≡ numbered_rows (l.programs s) j.property.decls l.rows
  map_is s lt =
      get_or-map (λ (p : Program). numbered_rows p j.property.decls l.rows) (programs_of j l) s (l.programs s) [] (let long = length-map-range_with_len l.programs 0 (length j.network.names) in omega (arith, long, lt))
      ∙ ap (λ (p : Program). numbered_rows p j.property.decls l.rows) (get_or-map-range_with_len l.programs 0 (length j.network.names) s s (l.programs s) lt (omega arith))

  taken :
      (done rest : List (Event Contents)) → j.events ≡ done ++ rest → (s : ℕ) → s < length j.network.names
      → AreTaken (entries_at j l s) (map_at j l s) (contents_at j l done s)
  taken done rest whole s lt =
      subst (λ (ns : List Numbered). AreTaken (entries_at j l s) ns (contents_at j l done s)) (sym (map_is s lt))
      (contents_are_taken g l.rows (map entries_in j.tables) j.contents j.events is_within ready.contents (length j.packets) (length j.network.names) ready.events s (entries_at j l s)
      (at_place entries_in j.tables s [] (let n = ready.tables.count in omega (arith, n, lt)))
      (let n = ready.switches in omega (arith, n, lt)) done rest whole (l.programs s))

  -- ---- at the start

  -- what the tables of a switch hold after some events
  abbrev HoldsAt : List (Event Contents) → (switch : ℕ) → List Held → Type 0
  HoldsAt done k st = Holds (parts_of (l.programs k)) (entries_at j l k) (map_at j l k) (contents_at j l done k) st

  from_switch : (k : ℕ) (st : List Held) (o : Option Switch) → option_map (λ (x : Switch). x.tables) o ≡ Some st → ((x : Switch) → o ≡ Some x → IsStarted j l k x) → HoldsAt [] k st
  from_switch k st None e is = absurd (cc e)
  from_switch k st (Some x) e is =
      let it = is x refl in
      let same : x.tables ≡ st = cc e in
      subst (HoldsAt [] k) same
      (subst (λ (p : Program). Holds (parts_of p) (entries_at j l k) (map_at j l k) (first k) x.tables) it.program
      (tables_hold.loaded x (entries_at j l k) (map_at j l k) ((world_of j).entries k) (first k) it.map it.loaded it.few))

  module _ (s : State) (of : IsOfJob j l s) where
    started : ((k : ℕ) (x : Switch) → slice_get s.switches k ≡ Some x → IsStarted j l k x) → AreHeld j l [] (tables_of s)
    started is =
        record {
          switches = length-map s.switches (λ (x : Switch). x.tables) ∙ of.switches;
          held = λ k st at. from_switch k st (slice_get s.switches k) (sym (slice_get-map (λ (x : Switch). x.tables) s.switches k) ∙ at) (is k);
        }

    -- ---- an event

    module _ (done rest : List (Event Contents)) (held : AreHeld j l done (tables_of s)) where
      -- a switch that the event leaves alone
      still_holds : (e : Event Contents) (k : ℕ) (st : List Held) → contents_behind k (contents_at j l done k) e ≡ contents_at j l done k → slice_get (tables_of s) k ≡ Some st → HoldsAt (done ++ e ∷ []) k st
      still_holds e k st same at =
          subst (λ (c : ℕ → Contents). Holds (parts_of (l.programs k)) (entries_at j l k) (map_at j l k) c st) (sym (after_one k (first k) done e ∙ same)) (held.held k st at)

      module _ (k v : ℕ) (x : Contents) (fit : IsFitEvent (length j.packets) (length j.network.names) j.property.decls (Set k v x)) where
        abbrev now : List Held
        now = get_or (tables_of s) k []

        abbrev new : List Held
        new = set_in (get_or s.maps k []) v x now

        own_map : get_or s.maps k [] ≡ map_at j l k
        own_map = ap (λ (ms : List (List Numbered)). get_or ms k []) of.maps

        shapes_fit : AllByRecursion (λ n. nat_eq n.variable v ≡ true → HasShape n.shape x) (map_at j l k)
        shapes_fit =
            subst (AllByRecursion (λ (n : Numbered). nat_eq n.variable v ≡ true → HasShape n.shape x)) (sym (map_is k fit.0))
            (shapes_of_rows (l.programs k) j.property.decls v x fit.1 l.rows)

        new_holds : HoldsAt (done ++ Set k v x ∷ []) k new
        new_holds =
            (let here : slice_get (tables_of s) k ≡ Some now = slice_get-get_or (tables_of s) k [] (let n = held.switches in let lt = fit.0 in omega (arith, n, lt)) in
            let set_now = tables_hold.set (parts_of (l.programs k)) (entries_at j l k) (map_at j l k) (contents_at j l done k) now (held.held k now here) v x shapes_fit in
            let contents : put (contents_at j l done k) v x ≡ contents_at j l (done ++ Set k v x ∷ []) k =
            ap (λ (b : Bool). cond b (put (contents_at j l done k) v x) (contents_at j l done k)) (sym (nat_eq_self k)) ∙ sym (after_one k (first k) done (Set k v x)) in
            subst (λ (ns : List Numbered). HoldsAt (done ++ Set k v x ∷ []) k (set_in ns v x now)) (sym own_map)
            (subst (λ (c : ℕ → Contents). Holds (parts_of (l.programs k)) (entries_at j l k) (map_at j l k) c (set_in (map_at j l k) v x now)) contents set_now))

        others_hold : (i : ℕ) (st : List Held) → i ≢ k → slice_get (tables_of s) i ≡ Some st → HoldsAt (done ++ Set k v x ∷ []) i st
        others_hold i st other at =
            still_holds (Set k v x) i st (ap (λ (b : Bool). cond b (put (contents_at j l done i) v x) (contents_at j l done i)) (nat_eq_other k i (λ q. other (sym q)))) at

        after_set : AreHeld j l (done ++ Set k v x ∷ []) (slice_set (tables_of s) k new)
        after_set =
            record {
              switches = length-set (tables_of s) k new ∙ held.switches;
              held = at_set (HoldsAt (done ++ Set k v x ∷ [])) (tables_of s) k new new_holds others_hold;
            }

        set_settable : j.events ≡ done ++ Set k v x ∷ rest → IsSettable now (get_or s.maps k []) v x
        set_settable whole =
            (let room = taken (done ++ Set k v x ∷ []) rest (whole ∙ sym (append_assoc done (Set k v x ∷ []) rest)) k fit.0 in
            let few = new_holds.total in
            let most = room.few in
            settable now (get_or s.maps k []) (get_or s.maps k []) v x (subst (AllByRecursion (λ (n : Numbered). nat_eq n.variable v ≡ true → HasShape n.shape x)) (sym own_map) shapes_fit) fit.1.fits.shape.keys
            (omega (arith, few, most)))

      after_event : (e : Event Contents) → IsFitEvent (length j.packets) (length j.network.names) j.property.decls e → AreHeld j l (done ++ e ∷ []) (tables_after s e)
      after_event (Enter i) fit = record { switches = held.switches; held = λ k st at. still_holds (Enter i) k st refl at }
      after_event (Leave i) fit = record { switches = held.switches; held = λ k st at. still_holds (Leave i) k st refl at }
      after_event (Set k v x) fit = after_set k v x fit

      next_event : (e : Event Contents) → IsFitEvent (length j.packets) (length j.network.names) j.property.decls e → j.events ≡ done ++ e ∷ rest → IsEvent s e
      next_event (Enter i) fit whole = let n = of.packets in omega (arith, n, fit)
      next_event (Leave i) fit whole = let n = of.packets in omega (arith, n, fit)
      next_event (Set k v x) fit whole = ((let n = of.switches in let lt = fit.0 in omega (arith, n, lt)), set_settable k v x fit whole)

  -- the events fit
  fits_here : (done rest : List (Event Contents)) (e : Event Contents) → j.events ≡ done ++ e ∷ rest → IsFitEvent (length j.packets) (length j.network.names) j.property.decls e
  fits_here done rest e whole = in_middle (IsFitEvent (length j.packets) (length j.network.names) j.property.decls) done e rest (subst (All (IsFitEvent (length j.packets) (length j.network.names) j.property.decls)) whole ready.events)

pub jobs_have_room : JobsHaveRoom
jobs_have_room j l ready linked =
    record {
      taken = taken j l ready linked;
      started = λ s of is. started j l ready linked s of is;
      after = λ s done rest e whole of held. after_event j l ready linked s of done rest held e (fits_here j l ready linked done rest e whole);
      event = λ s done rest e whole of held. next_event j l ready linked s of done rest held e (fits_here j l ready linked done rest e whole) whole;
    }
