-- The rows of a map are numbered one by one.
use Rattle.std.proofs.Common.{◌≡◌, ℕ, zero, suc, ◌+◌, ◌<◌, List, [], ◌∷◌, ◌++◌, length, take, map, get_or, Some, sym, ap, ap₂, ◌∙◌, subst, arith}
use Rattle.std.specs.Prelude.{slice_get}
use Rattle.std.specs.Option.{option_map}
use Rattle.std.proofs.lemmas.Option.{slice_get-map}
use Rattle.std.proofs.lemmas.List.{map-append}
use Rattle.p4_tree.specs.Tree.{Program}
use Rattle.p4_meaning.specs.Parts.{parts_of}
use Rattle.p4_meaning.specs.Tables.{Table}
use Rattle.table_shapes.specs.Shapes as table
use Rattle.p4_tables.specs.State.{Held, held_at}
use Rattle.p4_tables.specs.Programs.{state_before, shapes}
use Rattle.p4_tables.proofs.Refilled.{as_many}
use Rattle.indus_tree.specs.Tree.{Shape, Decl}
use Rattle.indus_tree.specs.View.{shape_of, decl_of}
use Rattle.indus_tree.specs.declared.tree.Decl as code
use Rattle.control_maps.specs.Numbers.{Numbered, IsOfForm}
use Rattle.control_maps.proofs.Places.{all_at, form_at}
use Rattle.set_contents.specs.Maps.{numbered_of, map_of}
use Rattle.loaded_tables.specs.Rows.{Row, row_place, first_action, declared_shape, numbered_row, numbered_rows, IsNumberedMap}
use Rattle.loaded_tables.specs.Steps.{IsNumberable}
use Rattle.loaded_tables.proofs.Placed.{shape_at, shape_there}

some_items : {A : Type 0} (xs : List A) (x : A) → slice_get xs 0 ≡ Some x → 0 < length xs
some_items [] x e = absurd (cc)
some_items (y ∷ xs) x e = omega arith

module _ (p : Program) (st : List Held) (ds : List Decl) (rows : List Row) (same : shapes st ≡ shapes (state_before p)) (is : IsNumberedMap p ds rows) where
  -- each row can be numbered
  pub numberable : (i : ℕ) (r : Row) → slice_get rows i ≡ Some r → IsNumberable (parts_of p).tables st ds r
  numberable i r here =
      let row = numbered_row (parts_of p).tables (shapes (state_before p)) ds in
      let form : IsOfForm (parts_of p) (state_before p) (row r) = form_at (parts_of p) (state_before p) (numbered_rows p ds rows) i (row r) (slice_get-map row rows i ∙ ap (option_map row) here) is.map in
      let many = as_many st (state_before p) same in
      let long = form.long in
      let low = form.there in
      record {
        there = omega (arith, many, long, low);
        acts = subst (λ (s : table.Shape). 0 < length s.actions) (sym (shape_there (state_before p) st (row_place (parts_of p).tables r) same)) (some_items _ _ form.form.first);
        declared = all_at (λ (r : Row). r.2 < length ds) rows i r here is.declared;
      }

-- ---- one row

same_numbered : (t u a b v : ℕ) (d e : Shape) → t ≡ u → a ≡ b → d ≡ e → (let m : Numbered = record { table = t; action = a; variable = v; shape = d } in m) ≡ (let n : Numbered = record { table = u; action = b; variable = v; shape = e } in n)
same_numbered t u a b v d e p q r =
    ap (λ (x : ℕ). (let n : Numbered = record { table = x; action = a; variable = v; shape = d } in n)) p
    ∙ (ap (λ (x : ℕ). (let n : Numbered = record { table = u; action = x; variable = v; shape = d } in n)) q
    ∙ ap (λ (x : Shape). (let n : Numbered = record { table = u; action = b; variable = v; shape = x } in n)) r)

shape_read : (decls : List code.Decl) (v : ℕ) (e : code.Decl) → v < length decls → e ≡ get_or decls v e → shape_of e.shape ≡ declared_shape (map decl_of decls) v
shape_read [] v e lt at = absurd (omega arith)
shape_read (d ∷ decls) zero e lt at = ap (λ (x : code.Decl). shape_of x.shape) at
shape_read (d ∷ decls) (suc v) e lt at = shape_read decls v e (omega arith) at

pub row_is :
    (ts : List Table) (st : List Held) (decls : List code.Decl) (r : Row) (n a : ℕ) (d e : code.Decl) → n ≡ row_place ts r → a ≡ first_action (held_at st n).shape →
    r.2 < length decls → e ≡ get_or decls r.2 e → decl_of d ≡ decl_of e → numbered_of (n, a, r.2, d) ≡ numbered_row ts (shapes st) (map decl_of decls) r
row_is ts st decls r n a d e place action lt at copy =
    same_numbered n (row_place ts r) a (numbered_row ts (shapes st) (map decl_of decls) r).action r.2 (shape_of d.shape) (declared_shape (map decl_of decls) r.2) place
    (action ∙ (ap (λ (k : ℕ). first_action (held_at st k).shape) place ∙ ap first_action (sym (shape_at st (row_place ts r)))))
    (ap (λ (x : Decl). x.shape) copy ∙ shape_read decls r.2 e lt at)

-- ---- the rows so far

take_here : {A : Type 0} (xs : List A) (i : ℕ) (x : A) → slice_get xs i ≡ Some x → take (i + 1) xs ≡ take i xs ++ x ∷ []
take_here [] i x e = absurd (cc)
take_here (y ∷ xs) zero x e = let is : y ≡ x = (cc) in ap (λ z. z ∷ []) is
take_here (y ∷ xs) (suc i) x e = let is : suc i + 1 ≡ suc (i + 1) = omega arith in ap (λ k. take k (y ∷ xs)) is ∙ ap (λ zs. y ∷ zs) (take_here xs i x e)

pub next_row :
    (p : Program) (ds : List Decl) (rows : List Row) (i : ℕ) (r : Row) (all new : List (ℕ × ℕ × ℕ × code.Decl)) (m : ℕ × ℕ × ℕ × code.Decl) → slice_get rows i ≡ Some r →
    map_of all ≡ numbered_rows p ds (take i rows) → new ≡ all ++ m ∷ [] → numbered_of m ≡ numbered_row (parts_of p).tables (shapes (state_before p)) ds r →
    map_of new ≡ numbered_rows p ds (take (i + 1) rows)
next_row p ds rows i r all new m here so_far is row =
    ap map_of is
    ∙ (map-append numbered_of all (m ∷ [])
    ∙ (ap₂ (λ (ns : List Numbered) (n : Numbered). ns ++ n ∷ []) so_far row
    ∙ (sym (map-append (numbered_row (parts_of p).tables (shapes (state_before p)) ds) (take i rows) (r ∷ []))
    ∙ ap (numbered_rows p ds) (sym (take_here rows i r here)))))
