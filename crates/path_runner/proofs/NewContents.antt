-- What a net shows, and what stays of it, after new contents of a control variable.
use Rattle.std.proofs.Common.{◌≡◌, ℕ, List, [], ◌∷◌, map, get_or, set, true, Some, sym, ap, ◌∙◌, subst}
use Rattle.std.specs.Prelude.{nat_eq, slice_get}
use Rattle.std.specs.List.{AllByRecursion}
use Rattle.std.specs.Option.{option_map}
use Rattle.std.proofs.lemmas.List.{map-set, get_or-set_same}
use Rattle.std.proofs.lemmas.Option.{slice_get-map, slice_get_within}
use Rattle.p4_tree.specs.Tree.{Program}
use Rattle.p4_meaning.specs.Parts.{parts_of}
use Rattle.p4_meaning.specs.Pass.{Kept}
use Rattle.p4_tables.specs.State.{Held, held_at}
use Rattle.p4_tables.specs.Named.{tables_in}
use Rattle.indus_tree.specs.State.{Contents}
use Rattle.network_run.specs.NetworkRun.{put}
use Rattle.network_run.specs.Events.{Set}
use Rattle.network_run.proofs.Numbers.{put_same}
use Rattle.control_maps.specs.Maps.{Lookup, sets}
use Rattle.control_maps.specs.Numbers.{Numbered, HasShape, IsMapOf, AreTaken, IsSettable, set_in}
use Rattle.control_maps.proofs.Names.{numbers_are_names}
use Rattle.path_runner.specs.Nets.{Switch, kept_of, State, lookups_of, controls_of, RunsTo, OthersHold, OthersStay}
use Rattle.path_runner.specs.Conditions.{AreMapped}
use Rattle.path_runner.proofs.Lists.{at_set, get_set_other}
use Rattle.path_runner.proofs.Standing.{view_there, view_at}
use Rattle.path_runner.proofs.Shown.{kept_parts, put_other}

-- ---- maps

-- the map of a switch, by names
pub lookups_at : (xs : List Switch) (k : ℕ) (x : Switch) (ns : List Numbered) → slice_get xs k ≡ Some x → lookups_of (slice_get (map (λ (z : Switch). z.program) xs) k) ns ≡ lookups_of (Some x.program) ns
lookups_at xs k x ns here = ap (λ o. lookups_of o ns) (slice_get-map (λ (z : Switch). z.program) xs k ∙ ap (option_map (λ (z : Switch). z.program)) here)

-- the maps stay maps where a switch runs the same program, and its map stays one
mapped_after : (xs : List Switch) (maps : List (List Numbered)) (k : ℕ) (x y : Switch) → y.program ≡ x.program → IsMapOf (parts_of x.program) y.tables (get_or maps k []) → AreMapped xs maps → AreMapped (set xs k y) maps
mapped_after xs maps k x y program new are =
    at_set (λ j (z : Switch). IsMapOf (parts_of z.program) z.tables (get_or maps j [])) xs k y
    (subst (λ (p : Program). IsMapOf (parts_of p) y.tables (get_or maps k [])) (sym program) new) (λ j z other e. are j z e)

-- as items of the program
module _ {X : Type 0} (f : X → Switch) (items : List X) (maps : List (List Numbered)) (k : ℕ) (x y : X) (here : slice_get items k ≡ Some x) (program : (f y).program ≡ (f x).program) (are : AreMapped (map f items) maps) where
  pub mapped_set : IsMapOf (parts_of (f x).program) (f y).tables (get_or maps k []) → AreMapped (map f (set items k y)) maps
  mapped_set new = subst (λ (xs : List Switch). AreMapped xs maps) (sym (map-set f items k y)) (mapped_after (map f items) maps k (f x) (f y) program new are)

  -- so they do where the tables stay
  pub mapped_kept : (f y).tables ≡ (f x).tables → AreMapped (map f (set items k y)) maps
  mapped_kept tables = mapped_set (subst (λ (st : List Held). IsMapOf (parts_of (f x).program) st (get_or maps k [])) (sym tables) (are k (f x) (view_there f items k x here)))

-- ---- the event

-- contents that tables take have their shape
have_shape : (st : List Held) (all ns : List Numbered) (v : ℕ) (c : Contents) → AllByRecursion (λ n. nat_eq n.variable v ≡ true → AreTaken st all v c n) ns → AllByRecursion (λ n. nat_eq n.variable v ≡ true → HasShape n.shape c) ns
have_shape st all [] v c h = tt
have_shape st all (n ∷ ns) v c h = ((λ own. (h.0 own).shape), have_shape st all ns v c h.1)

module _ (s : State) (k v : ℕ) (c : Contents) (x y : Switch) (here : slice_get s.switches k ≡ Some x) (program : y.program ≡ x.program) (cells : y.cells ≡ x.cells) (tables : y.tables ≡ set_in (get_or s.maps k []) v c x.tables) (mapped : IsMapOf (parts_of x.program) x.tables (get_or s.maps k [])) (settable : IsSettable x.tables (get_or s.maps k []) v c) where
  -- what the tables hold then, by names
  tables_now : tables_in (parts_of y.program) y.tables ≡ (controls_of s k).set v c (tables_in (parts_of x.program) x.tables)
  tables_now =
      ap (λ (q : Program). tables_in (parts_of q) y.tables) program
      ∙ (ap (tables_in (parts_of x.program)) tables
      ∙ (numbers_are_names.sets (parts_of x.program) x.tables (get_or s.maps k []) v c mapped (have_shape x.tables (get_or s.maps k []) (get_or s.maps k []) v c settable)
      ∙ sym (ap (λ (ls : List Lookup). sets ls v c (tables_in (parts_of x.program) x.tables)) (lookups_at s.switches k x (get_or s.maps k []) here))))

  -- what the program does is the event
  pub set_runs : RunsTo s (Set k v c ∷ []) (record s { switches = set s.switches k y })
  set_runs p w h =
      let new : Kept = record (w.switches k) { tables = (controls_of s k).set v c (w.switches k).tables } in
      let new_is : new ≡ kept_of y = ap (λ (a : Kept). record a { tables = (controls_of s k).set v c a.tables }) (h.switches.kept k x here) ∙ kept_parts x.cells y.cells _ _ (sym cells) (sym tables_now) in
      record {
        switches = record {
          programs = at_set (λ j z. p.program j ≡ parts_of z.program) s.switches k y (h.switches.programs k x here ∙ ap parts_of (sym program)) (λ j z other e. h.switches.programs j z e);
          kept = at_set (λ j z. put w.switches k new j ≡ kept_of z) s.switches k y (put_same w.switches k new ∙ new_is) (λ j z other e. put_other w.switches k j new other ∙ h.switches.kept j z e);
        };
        packets = h.packets;
        wires = h.wires;
        edges = h.edges;
        told = h.told;
        dropped = h.dropped;
        lost = h.lost;
      }

-- ---- the switch among others

module _ {X : Type 0} (f : X → Switch) (items : List X) (k : ℕ) (x : X) (here : slice_get items k ≡ Some x) where
  pub held_before : get_or (map (λ (z : Switch). z.tables) (map f items)) k [] ≡ (f x).tables
  held_before = view_at (λ (z : Switch). z.tables) (map f items) k (f x) [] (view_there f items k x here)

module _ {X : Type 0} (f : X → Switch) (items : List X) (k : ℕ) (x y : X) (here : slice_get items k ≡ Some x) (v : ℕ) (ns : List Numbered) where
  held_then : map (λ (z : Switch). z.tables) (map f (set items k y)) ≡ set (map (λ (z : Switch). z.tables) (map f items)) k (f y).tables
  held_then = ap (map (λ (z : Switch). z.tables)) (map-set f items k y) ∙ map-set (λ (z : Switch). z.tables) (map f items) k (f y)

  pub others_stay : OthersHold ns v (f x).tables (f y).tables → OthersStay ns k v (map (λ (z : Switch). z.tables) (map f items)) (map (λ (z : Switch). z.tables) (map f (set items k y)))
  others_stay hold =
      let old = map (λ (z : Switch). z.tables) (map f items) in
      subst (OthersStay ns k v old) (sym held_then)
      (record {
        switches = λ j other. get_set_other old k j (f y).tables other;
        tables = λ n other.
            ap (λ (st : List Held). held_at st n) (get_or-set_same old k (f y).tables [] (slice_get_within old k (f x).tables (view_there (λ (z : Switch). z.tables) (map f items) k (f x) (view_there f items k x here))))
            ∙ (hold n other ∙ ap (λ (st : List Held). held_at st n) (sym (held_before f items k x here)));
      })

  pub tables_then : (c : Contents) → (f y).tables ≡ set_in ns v c (f x).tables → map (λ (z : Switch). z.tables) (map f (set items k y)) ≡ set (map (λ (z : Switch). z.tables) (map f items)) k (set_in ns v c (get_or (map (λ (z : Switch). z.tables) (map f items)) k []))
  tables_then c is = held_then ∙ ap (set (map (λ (z : Switch). z.tables) (map f items)) k) (is ∙ ap (set_in ns v c) (sym (held_before f items k x here)))
