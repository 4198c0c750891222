-- Before contents are loaded, the tables of a map are as the program has them at first: none of them was carried.
use Rattle.std.proofs.Common.{◌≡◌, ℕ, ◌<◌, List, [], ◌∷◌, length, sym, ap, ◌∙◌, subst, arith}
use Rattle.std.specs.List.{AllByRecursion}
use Rattle.p4_tree.specs.Tree.{Program}
use Rattle.p4_meaning.specs.Parts.{Parts, parts_of}
use Rattle.p4_tables.specs.State.{Held, held_at, entries_in}
use Rattle.p4_tables.specs.Named.{action_name, named_act}
use Rattle.p4_tables.specs.Programs.{state_before, shapes}
use Rattle.p4_tables.specs.Carried.{AreRefilled}
use Rattle.p4_tables.proofs.Refilled.{as_many}
use Rattle.p4_tables.proofs.Started.{no_entries}
use Rattle.indus_tree.specs.Tree.{Decl}
use Rattle.control_maps.specs.Numbers.{Numbered, HasForm, IsOfForm, IsMapOf}
use Rattle.loaded_tables.specs.Rows.{Row, row_name, row_place, numbered_rows, IsNumberedMap}
use Rattle.loaded_tables.specs.Loading.{AreNew}
use Rattle.loaded_tables.specs.Steps.{AreEmpty}
use Rattle.loaded_tables.proofs.Placed.{all_apart, none_at}

module _ (f : Parts) (old now : List Held) (same : shapes now ≡ shapes old) where
  form_stays : (n : Numbered) → held_at now n.table ≡ held_at old n.table → IsOfForm f old n → IsOfForm f now n
  form_stays n at is =
      record {
        long = as_many now old same ∙ is.long;
        there = is.there;
        named = is.named;
        form = subst (λ (h : Held). HasForm h.shape n.action n.shape) (sym at) is.form;
        misses = λ m. ap (λ (h : Held). named_act (action_name f.actions) h.default) at ∙ is.misses m;
      }

  map_stays : (ns : List Numbered) → AllByRecursion (λ n. held_at now n.table ≡ held_at old n.table) ns → IsMapOf f old ns → IsMapOf f now ns
  map_stays [] at is = tt
  map_stays (n ∷ ns) at is = (form_stays n at.0 is.0, (is.1.0, map_stays ns at.1 is.1.1))

  none_stays : entries_in old ≡ 0 → (ns : List Numbered) → AllByRecursion (λ n. held_at now n.table ≡ held_at old n.table) ns → AllByRecursion (λ n. (held_at now n.table).listed ≡ []) ns
  none_stays none [] at = tt
  none_stays none (n ∷ ns) at = (ap (λ (h : Held). h.listed) at.0 ∙ none_at old n.table none, none_stays none ns at.1)

module _ (given program : Program) (held now : List Held) (ds : List Decl) (carried : AreRefilled (parts_of given) held (parts_of program) (state_before program) now) where
  rows_stay : (rows : List Row) → IsMapOf (parts_of program) (state_before program) (numbered_rows program ds rows) → AreNew (parts_of given).tables rows → AllByRecursion (λ n. held_at now n.table ≡ held_at (state_before program) n.table) (numbered_rows program ds rows)
  rows_stay [] is new = tt
  rows_stay (r ∷ rows) is new = (
    carried.others (row_place (parts_of program).tables r) (all_apart (parts_of given).tables (parts_of program).tables (row_name r) is.0.there new.0),
    rows_stay rows is.1.1 new.1,
  )

  pub map_before : (rows : List Row) → shapes now ≡ shapes (state_before program) → IsNumberedMap program ds rows → AreNew (parts_of given).tables rows → IsMapOf (parts_of program) now (numbered_rows program ds rows)
  map_before rows same is new = map_stays (parts_of program) (state_before program) now same (numbered_rows program ds rows) (rows_stay rows is.map new) is.map

  pub empty_before : (rows : List Row) → shapes now ≡ shapes (state_before program) → IsNumberedMap program ds rows → AreNew (parts_of given).tables rows → AreEmpty now (numbered_rows program ds rows)
  empty_before rows same is new =
      record {
        parts = parts_of program;
        map = map_before rows same is new;
        empty = none_stays (parts_of program) (state_before program) now same (no_entries program) (numbered_rows program ds rows) (rows_stay rows is.map new);
      }

-- their variables are declared
pub declared_before : (program : Program) (ds : List Decl) (m : ℕ) (rows : List Row) → length ds ≡ m → AllByRecursion (λ r. r.2 < length ds) rows → AllByRecursion (λ n. n.variable < m) (numbered_rows program ds rows)
declared_before program ds m [] e h = tt
declared_before program ds m (r ∷ rows) e h = ((let lt = h.0 in omega (arith, lt, e)), declared_before program ds m rows e h.1)
