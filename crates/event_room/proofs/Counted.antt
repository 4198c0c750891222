-- The rows of a map look a variable up no more often than the property's text.
use Rattle.std.proofs.Common.{◌≡◌, ℕ, zero, suc, ◌+◌, ◌≤◌, ◌^◌, List, [], ◌∷◌, map, length, Bool, true, false, cond, nat_eq, Some, refl, sym, ap, ◌∙◌, subst, arith}
use Rattle.std.specs.Prelude.{slice_get}
use Rattle.std.specs.List.{AllByRecursion}
use Rattle.std.proofs.lemmas.Bool.{eqb-true, lt-ltb}
use Rattle.std.proofs.lemmas.Option.{slice_get_within}
use Rattle.lex_text.specs.Names.{same_text}
use Rattle.indus_tree.specs.Tree.{Decl, Property}
use Rattle.indus_tree.specs.State.{lookup}
use Rattle.indus_tree.specs.Hops.{variable_number_from}
use Rattle.indus_types.specs.Sums.{is_v, lookups as text_lookups, named_lookups}
use Rattle.table_items.specs.Items.{reads_of}
use Rattle.lower_lists.specs.Names.{is_plain}
use Rattle.flat_laws.specs.Numbered.{ArePlain}
use Rattle.flat_laws.proofs.NameLemmas.{same_self}
use Rattle.flat_laws.proofs.Lookups.{number_bounds}
use Rattle.lookup_tables.specs.Tables.{Lookup}
use Rattle.whole_properties.specs.Whole.{Given, lookups}
use Rattle.whole_properties.specs.Few.{lookups_of}
use Rattle.whole_properties.specs.Asked.{IsGiven}
use Rattle.whole_properties.proofs.Few.{tables_are_few}
use Rattle.map_runs.proofs.Known.{IsOwn, own_lookups}
use Rattle.loaded_tables.specs.Rows.{Row}
use Rattle.linked_starts.specs.Starts.{AreRowsOf}
use Rattle.linked_starts.proofs.Rows.{IsRow, AreRows, rows_stand}
use Rattle.event_room.proofs.Sums.{IsControlAt, one_at, times_in}

-- the numbers of the rows' variables
abbrev pub variables : List Row → List ℕ
variables rows = map (λ r. r.2) rows

-- what is declared by a name stands at the name's number
number_at : (ds : List Decl) (n i : ℕ) (x : List ℕ) (d : Decl) (v : ℕ) → lookup ds x ≡ Some d → variable_number_from n ds x ≡ Some v → v ≡ n + i → slice_get ds i ≡ Some d
number_at [] n i x d v e k at = absurd (cc e)
number_at (c ∷ cs) n i x d v e k at = go (same_text c.name x) e k i at (λ j. number_at cs (n + 1) j x d v)
  where
    behind : (i : ℕ) → v ≡ n + i → n + 1 ≤ v → ((j : ℕ) → v ≡ n + 1 + j → slice_get cs j ≡ Some d) → slice_get (c ∷ cs) i ≡ Some d
    behind zero at low more = absurd (omega (arith, at, low))
    behind (suc j) at low more = more j (omega (arith, at))

    go :
        (b : Bool) → cond b (Some c) (lookup cs x) ≡ Some d → cond b (Some n) (variable_number_from (n + 1) cs x) ≡ Some v → (i : ℕ) → v ≡ n + i
        → ((j : ℕ) → lookup cs x ≡ Some d → variable_number_from (n + 1) cs x ≡ Some v → v ≡ n + 1 + j → slice_get cs j ≡ Some d) → slice_get (c ∷ cs) i ≡ Some d
    go true e k i at more =
        (let one : c ≡ d = cc e in
        let number : n ≡ v = cc k in
        let first : 0 ≡ i = omega (arith, number, at) in
        subst (λ (j : ℕ). slice_get (c ∷ cs) j ≡ Some d) first (ap (λ (a : Decl). Some a) one))
    go false e k i at more = behind i at (number_bounds cs (n + 1) x v k).0 (λ j. more j e k)

module _ (p : Property) where
  declared_at : (l : Lookup) (r : Row) → IsOwn p l.decl → IsRow p l r → slice_get p.decls r.2 ≡ Some l.decl
  declared_at l r own is = number_at p.decls 0 r.2 l.decl.name l.decl r.2 own.found is.number (omega arith)

  row_declared : (l : Lookup) (r : Row) → IsOwn p l.decl → IsRow p l r → IsControlAt p.decls r.2
  row_declared l r own is = record { decl = l.decl; declared = declared_at l r own is; control = own.control }

  rows_declared : (ls : List Lookup) (rows : List Row) → AllByRecursion (λ l. IsOwn p l.decl) ls → AreRows p ls rows → AllByRecursion (IsControlAt p.decls) (variables rows)
  rows_declared [] [] own is = tt
  rows_declared [] (r ∷ rows) own is = absurd is
  rows_declared (l ∷ ls) [] own is = tt
  rows_declared (l ∷ ls) (r ∷ rows) own is = (row_declared l r own.0 is.0, rows_declared ls rows own.1 is.1)

  module _ (w : ℕ) (d : Decl) (at : slice_get p.decls w ≡ Some d) where
    one_counts : (l : Lookup) (r : Row) → IsOwn p l.decl → IsRow p l r → one_at r.2 w ≤ is_v d.name l.decl.name
    one_counts l r own is = go (nat_eq r.2 w) refl
      where
        go : (b : Bool) → nat_eq r.2 w ≡ b → cond b 1 0 ≤ is_v d.name l.decl.name
        go true e =
            (let there : slice_get p.decls w ≡ Some l.decl = ap (slice_get p.decls) (sym (eqb-true r.2 w e)) ∙ declared_at l r own is in
            let same : l.decl ≡ d = cc (at, there) in
            let named : same_text l.decl.name d.name ≡ true = subst (λ (c : Decl). same_text c.name d.name ≡ true) (sym same) (same_self d.name) in
            let one : is_v d.name l.decl.name ≡ 1 = ap (λ (t : Bool). cond t 1 0) named in
            omega (arith, one))
        go false e = omega arith

    rows_count : (ls : List Lookup) (rows : List Row) → AllByRecursion (λ l. IsOwn p l.decl) ls → AreRows p ls rows → times_in (variables rows) w ≤ lookups_of d.name ls
    rows_count [] [] own is = omega arith
    rows_count [] (r ∷ rows) own is = absurd is
    rows_count (l ∷ ls) [] own is = omega arith
    rows_count (l ∷ ls) (r ∷ rows) own is =
        let one = one_counts l r own.0 is.0 in
        let rest = rows_count ls rows own.1 is.1 in
        omega (arith, one, rest)

plain_at : (ds : List Decl) (i : ℕ) (d : Decl) → ArePlain ds → slice_get ds i ≡ Some d → is_plain d.name ≡ true
plain_at [] i d plain e = absurd (cc e)
plain_at (c ∷ ds) zero d plain e = let same : c ≡ d = cc e in subst (λ (x : Decl). is_plain x.name ≡ true) same plain.0
plain_at (c ∷ ds) (suc i) d plain e = plain_at ds i d plain.1 e

-- a variable of 32 bits is read as often as its name
read_as : (p : Property) (w : ℕ) (d : Decl) → length p.decls ≤ 2 ^ 32 → slice_get p.decls w ≡ Some d → reads_of p w ≡ text_lookups p d.name
read_as p w d few at =
    let low = slice_get_within p.decls w d at in
    ap (λ (b : Bool). cond b (named_lookups p (slice_get p.decls w)) 0) (lt-ltb w (2 ^ 32) (omega (arith, low, few)))
    ∙ ap (named_lookups p) at

module _ (g : Given) (i : IsGiven g) (rows : List Row) (are : AreRowsOf g rows) where
  pub all_declared : AllByRecursion (IsControlAt g.property.decls) (variables rows)
  all_declared = rows_declared g.property (lookups g) rows (own_lookups g i) (rows_stand g rows are)

  pub few_rows : (w : ℕ) (d : Decl) → slice_get g.property.decls w ≡ Some d → times_in (variables rows) w ≤ reads_of g.property w
  few_rows w d at =
      let counted = rows_count g.property w d at (lookups g) rows (own_lookups g i) (rows_stand g rows are) in
      let few = tables_are_few g d.name (plain_at g.property.decls w d i.plain.plain at) in
      let same = read_as g.property w d i.plain.few at in
      omega (arith, counted, few, same)
