-- Rows that stand for lookups, and their tables by name.
use Rattle.std.proofs.Common.{◌≡◌, ℕ, ◌<◌, List, [], ◌∷◌, ◌++◌, map, length, get_or, Bool, true, false, cond, ◌||◌, Option, Some, None, refl, sym, ap, ap₂, ◌∙◌}
use Rattle.std.specs.Prelude.{slice_get, is_some}
use Rattle.std.specs.List.{AllByRecursion}
use Rattle.std.specs.Option.{option_map}
use Rattle.std.proofs.lemmas.List.{map-append}
use Rattle.lex_text.specs.Names.{same_text}
use Rattle.indus_tree.specs.Tree.{Decl, Property}
use Rattle.indus_tree.specs.Hops.{variable_number}
use Rattle.p4_tree.specs.Tree.{Program}
use Rattle.p4_meaning.specs.Scope.{full}
use Rattle.p4_meaning.specs.Tables.{Table, table_named}
use Rattle.p4_meaning.specs.Parts.{parts_of}
use Rattle.packet_lengths.specs.Lengths.{plain_table}
use Rattle.table_shapes.specs.Shapes.{ActionShape}
use Rattle.p4_tables.specs.State.{no_table, held_at}
use Rattle.p4_tables.specs.Named.{table_place}
use Rattle.p4_tables.specs.Programs.{shapes, state_before}
use Rattle.p4_tables.specs.Carried.{is_table}
use Rattle.lookup_names.specs.Names as plain
use Rattle.lowered_code.specs.Names as code
use Rattle.lowered_code.specs.Statements.{block_lookups}
use Rattle.lookup_tables.specs.Tables.{Lookup, table_for}
use Rattle.whole_properties.specs.Whole.{Given, decls, tele, check, tele_first, check_first, lookups}
use Rattle.whole_properties.proofs.Numbering.{lookup_of}
use Rattle.lower_blocks.specs.Trees.{mapped, entry_lookups, exit_lookups}
use Rattle.control_maps.specs.Numbers.{Numbered, IsMapOf}
use Rattle.carried_entries.specs.Forms.{number_or}
use Rattle.carried_entries.proofs.Forms.{row_of}
use Rattle.loaded_tables.specs.Rows.{Row, row_name, row_place, first_action, declared_shape, numbered_row, numbered_rows}
use Rattle.loaded_tables.specs.Loading.{AreNew}
use Rattle.loaded_tables.proofs.Placed.{shape_at}
use Rattle.linked_starts.specs.Starts.{found_row, AreRowsOf}
use Rattle.linked_starts.proofs.Lookups.{IsFound, shape_there, number_within}

-- ---- rows of lookups

-- what a property's map has for a lookup
abbrev wanted : Property → Lookup → List ℕ × (List ℕ × Option ℕ)
wanted p l = (l.control, (plain.table_name l.number, variable_number p.decls l.decl.name))

wanted_are : (p : Property) (c : List ℕ) (ls : List (ℕ × Decl)) → mapped p c ls ≡ map (wanted p) (map (lookup_of c) ls)
wanted_are p c [] = refl
wanted_are p c (l ∷ ls) = ap (λ (rs : List (List ℕ × (List ℕ × Option ℕ))). wanted p (lookup_of c l) ∷ rs) (wanted_are p c ls)

mapped_is : (g : Given) → mapped g.property g.ingress (entry_lookups g) ++ mapped g.property g.egress (exit_lookups g) ≡ map (wanted g.property) (lookups g)
mapped_is g =
    ap₂ (λ (a b : List (List ℕ × (List ℕ × Option ℕ))). a ++ b) (wanted_are g.property g.ingress (entry_lookups g))
    (wanted_are g.property g.egress (exit_lookups g)
    ∙ ap (map (wanted g.property)) (map-append (lookup_of g.egress) (block_lookups (decls g) (tele g) (tele_first g)) (block_lookups (decls g) (check g) (check_first g))))
    ∙ sym (map-append (wanted g.property) (map (lookup_of g.ingress) (entry_lookups g)) (map (lookup_of g.egress) (block_lookups (decls g) (tele g) (tele_first g)) ++ map (lookup_of g.egress) (block_lookups (decls g) (check g) (check_first g))))

-- a row stands for a lookup
pub record IsRow (p : Property) (l : Lookup) (r : Row) : Type 0 where
  pub named : row_name r ≡ code.table_name l.control l.number
  pub number : variable_number p.decls l.decl.name ≡ Some r.2

abbrev pub AreRows : Property → List Lookup → List Row → Type 0
AreRows p [] [] = Unit {0}
AreRows p [] (r ∷ rows) = ⊥
AreRows p (l ∷ ls) [] = ⊥
AreRows p (l ∷ ls) (r ∷ rows) = IsRow p l r × AreRows p ls rows

one_row : (p : Property) (l : Lookup) (r : Row) → found_row r ≡ wanted p l → IsRow p l r
one_row p l r e =
    record {
      named = ap (λ (t : List ℕ × (List ℕ × Option ℕ)). full t.0 (t.1).0) e;
      number = sym (ap (λ (t : List ℕ × (List ℕ × Option ℕ)). (t.1).1) e);
    }

same_rows : (p : Property) (ls : List Lookup) (rows : List Row) → map found_row rows ≡ map (wanted p) ls → AreRows p ls rows
same_rows p [] [] e = tt
same_rows p [] (r ∷ rows) e = absurd (cc e)
same_rows p (l ∷ ls) [] e = absurd (cc e)
same_rows p (l ∷ ls) (r ∷ rows) e = (let head : found_row r ≡ wanted p l = cc e in let tail : map found_row rows ≡ map (wanted p) ls = cc e in (one_row p l r head, same_rows p ls rows tail))

pub rows_stand : (g : Given) (rows : List Row) → AreRowsOf g rows → AreRows g.property (lookups g) rows
rows_stand g rows e = same_rows g.property (lookups g) rows (e ∙ mapped_is g)

-- ---- rows by numbers

first_there : (as' : List ActionShape) (a : ActionShape) → slice_get as' 0 ≡ Some a → get_or (map (λ (b : ActionShape). b.number) as') 0 0 ≡ a.number
first_there [] a e = absurd (cc e)
first_there (b ∷ bs) a e = (let one : b ≡ a = cc e in ap (λ (c : ActionShape). c.number) one)

module _ (q : Program) (p : Property) where
  abbrev at : Row → Numbered
  at r = numbered_row (parts_of q).tables (shapes (state_before q)) p.decls r

  one_numbered : (l : Lookup) (r : Row) → IsFound p.decls l → IsRow p l r → first_action (held_at (state_before q) (row_of (parts_of q) p l).table).shape ≡ (row_of (parts_of q) p l).action → at r ≡ row_of (parts_of q) p l
  one_numbered l r found is first =
      (let place : row_place (parts_of q).tables r ≡ (row_of (parts_of q) p l).table = ap (table_place (parts_of q).tables) is.named in
      let action : first_action (get_or (shapes (state_before q)) (row_place (parts_of q).tables r) no_table.shape) ≡ (row_of (parts_of q) p l).action =
      ap (λ (n : ℕ). first_action (get_or (shapes (state_before q)) n no_table.shape)) place ∙ (ap first_action (shape_at (state_before q) (row_of (parts_of q) p l).table) ∙ first) in
      let variable : r.2 ≡ (row_of (parts_of q) p l).variable = ap number_or (sym is.number) in
      let shape : declared_shape p.decls r.2 ≡ l.decl.shape = shape_there p.decls l.decl.name l.decl r.2 found is.number in
      λ i. record { table = place i; action = action i; variable = variable i; shape = shape i })

  pub all_numbered : (ls : List Lookup) (rows : List Row) → AllByRecursion (IsFound p.decls) ls → AreRows p ls rows → IsMapOf (parts_of q) (state_before q) (map (row_of (parts_of q) p) ls) → numbered_rows q p.decls rows ≡ map (row_of (parts_of q) p) ls
  all_numbered [] [] f r m = refl
  all_numbered [] (r ∷ rows) f is m = absurd is
  all_numbered (l ∷ ls) [] f is m = absurd is
  all_numbered (l ∷ ls) (r ∷ rows) f is m = ap₂ (λ (n : Numbered) (ns : List Numbered). n ∷ ns) (one_numbered l r f.0 is.0 (first_there _ _ m.0.form.first)) (all_numbered ls rows f.1 is.1 m.1.1)

pub all_declared : (p : Property) (ls : List Lookup) (rows : List Row) → AreRows p ls rows → AllByRecursion (λ (r : Row). r.2 < length p.decls) rows
all_declared p [] [] is = tt
all_declared p [] (r ∷ rows) is = absurd is
all_declared p (l ∷ ls) [] is = tt
all_declared p (l ∷ ls) (r ∷ rows) is = (number_within p.decls l.decl.name r.2 is.0.number, all_declared p ls rows is.1)

-- ---- tables by name

-- a table of a name is there where one is found by it
pub there_if_found : (ts : List Table) (x : List ℕ) → is_table ts x ≡ is_some (table_named ts x)
there_if_found [] x = refl
there_if_found (t ∷ ts) x = go (same_text t.name x) (there_if_found ts x)
  where
    go : (b : Bool) → is_table ts x ≡ is_some (table_named ts x) → (b || is_table ts x) ≡ is_some (cond b (Some t) (table_named ts x))
    go true e = refl
    go false e = e

pub some_plain : (o : Option Table) → is_some (option_map plain_table o) ≡ is_some o
some_plain None = refl
some_plain (Some t) = refl

-- where no row has the name, none of the tables of the lookups has it
pub none_looked_up : (p : Property) (ls : List Lookup) (rows : List Row) (x : List ℕ) → AreRows p ls rows → AllByRecursion (λ (r : Row). same_text (row_name r) x ≡ false) rows → table_named (map table_for ls) x ≡ None
none_looked_up p [] rows x is h = refl
none_looked_up p (l ∷ ls) [] x is h = absurd is
none_looked_up p (l ∷ ls) (r ∷ rows) x is h =
    ap (λ (b : Bool). cond b (Some (table_for l)) (table_named (map table_for ls) x)) (ap (λ (y : List ℕ). same_text y x) (sym is.0.named) ∙ h.0)
    ∙ none_looked_up p ls rows x is.1 h.1

-- where no table has the name of a lookup's, the rows are new
pub all_new : (p : Property) (ts : List Table) → ((l : Lookup) → is_table ts (code.table_name l.control l.number) ≡ false) → (ls : List Lookup) (rows : List Row) → AreRows p ls rows → AreNew ts rows
all_new p ts none [] [] is = tt
all_new p ts none [] (r ∷ rows) is = absurd is
all_new p ts none (l ∷ ls) [] is = tt
all_new p ts none (l ∷ ls) (r ∷ rows) is = (ap (is_table ts) is.0.named ∙ none l, all_new p ts none ls rows is.1)
