-- What the loaded tables hold by their names.
use Rattle.std.proofs.Common.{◌≡◌, ◌≢◌, ℕ, List, [], ◌∷◌, map, Bool, true, false, cond, refl, sym, ap, ◌∙◌, subst, arith}
use Rattle.std.specs.List.{AllByRecursion}
use Rattle.std.proofs.lemmas.List.{length-map}
use Rattle.lex_text.specs.Names.{same_text}
use Rattle.p4_tree.specs.Tree.{Program}
use Rattle.p4_meaning.specs.Tables.{Tables}
use Rattle.p4_meaning.specs.Parts.{Parts, parts_of}
use Rattle.p4_typing_laws.proofs.CallCounts.{text_is}
use Rattle.table_laws.proofs.Puts.{unlisted}
use Rattle.p4_tables.specs.State.{Held}
use Rattle.p4_tables.specs.Named.{action_name, tables_in, table_place}
use Rattle.p4_tables.specs.Programs.{state_before, shapes}
use Rattle.p4_tables.specs.Carried.{is_table, HoldsCarried, StandsIn}
use Rattle.p4_tables.proofs.Refilled.{before_long}
use Rattle.indus_tree.specs.Tree.{Decl}
use Rattle.indus_tree.specs.State.{Contents}
use Rattle.control_maps.specs.Maps.{Lookup, held_for, put_named, loads, Misses}
use Rattle.control_maps.specs.Numbers.{Numbered, table_name, named_in, load_in, HasShape, IsOfForm, IsMapOf}
use Rattle.control_maps.proofs.Names.{numbers_are_names, maps_stay, others_are_left}
use Rattle.path_runner.specs.Starts.{IsLoaded}
use Rattle.loaded_tables.specs.Rows.{Row, row_name, numbered_rows}
use Rattle.loaded_tables.specs.Loading.{IsOfShape, AddsOnly, carried_entries, switch_before}
use Rattle.loaded_tables.proofs.Placed.{name_there, text_same, stands_there}

-- ---- the map's tables

-- no two names are one
abbrev AreApart : List Lookup → Type 0
AreApart [] = Unit {0}
AreApart (l ∷ ls) = Misses l.table ls × AreApart ls

each_loaded : (ls : List Lookup) (c : ℕ → Contents) (held : Tables) → AreApart ls → AllByRecursion (λ (l : Lookup). loads ls c held l.table ≡ held_for l.action (c l.variable)) ls
each_loaded [] c held apart = tt
each_loaded (l ∷ ls) c held apart = (
  others_are_left.loads ls c (put_named l (c l.variable) held) l.table apart.0
      ∙ ap (λ (b : Bool). cond b (held_for l.action (c l.variable)) (held l.table)) (text_same l.table l.table refl),
  each_loaded ls c (put_named l (c l.variable) held) apart.1,
)

module _ (f : Parts) (st : List Held) where
  apart_from : (n : Numbered) → IsOfForm f st n → (ns : List Numbered) → AllByRecursion (λ k. k.table ≢ n.table) ns → IsMapOf f st ns → Misses (table_name f.tables n.table) (map (named_in f) ns)
  apart_from n form [] apart is = tt
  apart_from n form (k ∷ ns) apart is = (go (same_text (table_name f.tables k.table) (table_name f.tables n.table)) refl, apart_from n form ns apart.1 is.1.1)
    where
      go : (b : Bool) → same_text (table_name f.tables k.table) (table_name f.tables n.table) ≡ b → b ≡ false
      go true e = absurd (apart.0 (sym is.0.named ∙ (ap (table_place f.tables) (text_is (table_name f.tables k.table) (table_name f.tables n.table) e) ∙ form.named)))
      go false e = refl

  map_apart : (ns : List Numbered) → IsMapOf f st ns → AreApart (map (named_in f) ns)
  map_apart [] is = tt
  map_apart (n ∷ ns) is = (apart_from n is.0 ns is.1.0 is.1.1, map_apart ns is.1.1)

have_shapes : (ns : List Numbered) (c : ℕ → Contents) → AllByRecursion (λ n. IsOfShape n.shape (c n.variable)) ns → AllByRecursion (λ n. HasShape n.shape (c n.variable)) ns
have_shapes [] c h = tt
have_shapes (n ∷ ns) c h = (h.0.shape, have_shapes ns c h.1)

-- ---- other tables

-- what a name is of a list of rows' tables, that misses the map
module _ (program : Program) (ds : List Decl) where
  misses_rows : (st : List Held) (rows : List Row) (x : List ℕ) → IsMapOf (parts_of program) st (numbered_rows program ds rows) → Misses x (map (named_in (parts_of program)) (numbered_rows program ds rows)) → AllByRecursion (λ r. same_text (row_name r) x ≡ false) rows
  misses_rows st [] x is m = tt
  misses_rows st (r ∷ rows) x is m = (
    ap (λ (y : List ℕ). same_text y x) (sym (name_there (parts_of program).tables (row_name r) is.0.there)) ∙ m.0,
    misses_rows st rows x is.1.1 m.1,
  )

module _ (given program : Program) (held : List Held) (stands : StandsIn given program) where
  -- a name that is none of the program's is none of the given one's
  none_given : (x : List ℕ) → is_table (parts_of program).tables x ≡ false → is_table (parts_of given).tables x ≡ false
  none_given x none = go (is_table (parts_of given).tables x) refl
    where
      go : (b : Bool) → is_table (parts_of given).tables x ≡ b → b ≡ false
      go true e =
          (let long = before_long given in
          let many = length-map (state_before given) (λ (h : Held). h.shape) in
          let there : is_table (parts_of program).tables x ≡ true = stands_there (parts_of given).actions program (parts_of given).tables (shapes (state_before given)) x (omega (arith, long, many)) stands.tables e in
          absurd (cc))
      go false e = refl

  carried_at : (now : List Held) (x : List ℕ) → HoldsCarried given held program now → tables_in (parts_of program) now x ≡ carried_entries given held program x
  carried_at now x is = go (is_table (parts_of program).tables x) refl
    where
      go : (b : Bool) → is_table (parts_of program).tables x ≡ b → tables_in (parts_of program) now x ≡ carried_entries given held program x
      go true e = is.held x e
      go false e =
          unlisted (action_name (parts_of program).actions) (parts_of program).tables now x e
          ∙ (sym (unlisted (action_name (parts_of program).actions) (parts_of program).tables (state_before program) x e)
          ∙ ap (λ b. cond b (tables_in (parts_of given) held x) (tables_in (parts_of program) (state_before program) x)) (sym (none_given x e)))

  -- where the program adds the rows' tables alone, it is what the given one holds
  own_at : (rows : List Row) (x : List ℕ) → AddsOnly (parts_of given).tables (parts_of program).tables rows → AllByRecursion (λ r. same_text (row_name r) x ≡ false) rows → carried_entries given held program x ≡ tables_in (parts_of given) held x
  own_at rows x adds other = go (is_table (parts_of given).tables x) refl
    where
      none : (b : Bool) → is_table (parts_of given).tables x ≡ false → is_table (parts_of program).tables x ≡ b → b ≡ false
      none true e f = absurd (let own : is_table (parts_of given).tables x ≡ true = adds x other f in cc)
      none false e f = refl

      go : (b : Bool) → is_table (parts_of given).tables x ≡ b → cond b (tables_in (parts_of given) held x) (tables_in (parts_of program) (state_before program) x) ≡ tables_in (parts_of given) held x
      go true e = refl
      go false e =
          unlisted (action_name (parts_of program).actions) (parts_of program).tables (state_before program) x (none (is_table (parts_of program).tables x) e refl)
          ∙ sym (unlisted (action_name (parts_of given).actions) (parts_of given).tables held x e)

  -- ---- the switch

  module _ (ds : List Decl) (rows : List Row) (c : ℕ → Contents) (now after : List Held) (map_now : IsMapOf (parts_of program) now (numbered_rows program ds rows)) (carried : HoldsCarried given held program now) (shaped : AllByRecursion (λ n. IsOfShape n.shape (c n.variable)) (numbered_rows program ds rows)) (is : after ≡ load_in (numbered_rows program ds rows) c now) where
    names_now : tables_in (parts_of program) after ≡ loads (map (named_in (parts_of program)) (numbered_rows program ds rows)) c (tables_in (parts_of program) now)
    names_now = ap (tables_in (parts_of program)) is ∙ numbers_are_names.loads (parts_of program) now (numbered_rows program ds rows) c map_now (have_shapes (numbered_rows program ds rows) c shaped)

    pub map_then : IsMapOf (parts_of program) after (numbered_rows program ds rows)
    map_then = subst (λ (st : List Held). IsMapOf (parts_of program) st (numbered_rows program ds rows)) (sym is) (maps_stay.loads (parts_of program) now (numbered_rows program ds rows) c map_now (have_shapes (numbered_rows program ds rows) c shaped)).0

    pub is_loaded : IsLoaded (switch_before program after) (numbered_rows program ds rows) (carried_entries given held program) c
    is_loaded =
        record {
          cells = refl;
          controls = subst (λ (t : Tables). AllByRecursion (λ (l : Lookup). t l.table ≡ held_for l.action (c l.variable)) (map (named_in (parts_of program)) (numbered_rows program ds rows))) (sym names_now)
              (each_loaded (map (named_in (parts_of program)) (numbered_rows program ds rows)) c (tables_in (parts_of program) now) (map_apart (parts_of program) now (numbered_rows program ds rows) map_now));
          others = λ x m.
              ap (λ (t : Tables). t x) names_now
              ∙ (others_are_left.loads (map (named_in (parts_of program)) (numbered_rows program ds rows)) c (tables_in (parts_of program) now) x m ∙ carried_at now x carried);
        }

    pub is_own : AddsOnly (parts_of given).tables (parts_of program).tables rows → IsLoaded (switch_before program after) (numbered_rows program ds rows) (tables_in (parts_of given) held) c
    is_own adds =
        let l = is_loaded in
        record { cells = l.cells; controls = l.controls; others = λ x m. l.others x m ∙ own_at rows x adds (misses_rows program ds now rows x map_now m) }
