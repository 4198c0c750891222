-- Lines of cells and registers, one after the other.
use Rattle.std.proofs.Common.{◌≡◌, ℕ, zero, suc, ◌+◌, ◌-◌, ◌<◌, ◌≤◌, List, [], ◌∷◌, ◌++◌, Bool, true, false, if◌then◌else◌, length, map, drop, get_or, Some, refl, ap, ap₂, sym, ◌∙◌, arith, append_assoc, append-nil}
use Rattle.std.specs.Prelude.{slice_get}
use Rattle.std.specs.Option.{option_map}
use Rattle.std.proofs.lemmas.Option.{slice_get-map, slice_get-get_or}
use Rattle.std.proofs.lemmas.Grind.{flat_map-append}
use Rattle.p4_meaning.specs.Parts.{Cells}
use Rattle.p4_meaning.specs.Pass.{Registers}
use Rattle.p4_meaning.specs.Statements.{cell_at}
use Rattle.report_writer.specs.Texts.{Cell, cell_line, cells_of}
use Rattle.bit_values.specs.Bits.{Word}
use Rattle.lex_text.specs.Names.{same_text}
use Rattle.register_texts.specs.Rows.{cell_if, cells_from, first_cell, register_cells, registers_cells}

-- the item of a place, and those behind it
pub drop_at : {A : Type 0} (xs : List A) (i : ℕ) (x : A) → slice_get xs i ≡ Some x → drop i xs ≡ x ∷ drop (i + 1) xs
drop_at [] i x e = absurd (cc)
drop_at (y ∷ xs) zero x e = let is : y ≡ x = (cc) in ap (λ z. z ∷ xs) is
drop_at (y ∷ xs) (suc i) x e =
    let next : suc i + 1 ≡ suc (i + 1) = omega arith in
    drop_at xs i x e ∙ ap (λ (n : ℕ). x ∷ drop n (y ∷ xs)) (sym next)

pub drop_past : {A : Type 0} (xs : List A) (i : ℕ) → length xs ≤ i → drop i xs ≡ []
drop_past [] zero le = refl
drop_past [] (suc i) le = refl
drop_past (x ∷ xs) zero le = absurd (omega arith)
drop_past (x ∷ xs) (suc i) le = drop_past xs i (omega arith)

-- what stands at a place
pub view_at : {A B : Type 0} (v : A → B) (xs : List A) (i : ℕ) (x : A) → i < length xs → x ≡ get_or xs i x → slice_get (map v xs) i ≡ Some (v x)
view_at v xs i x lt is = slice_get-map v xs i ∙ ap (option_map v) (slice_get-get_or xs i x lt ∙ ap Some (sym is))

-- ---- cells

-- one piece more is written of what is left
pub cells_more : (text line total : List ℕ) (left piece rest : List Cell) → text ++ cells_of left ≡ total → left ≡ piece ++ rest → line ≡ cells_of piece → (text ++ line) ++ cells_of rest ≡ total
cells_more text line total left piece rest so_far is line_is =
    ap (λ l. (text ++ l) ++ cells_of rest) line_is
    ∙ append_assoc text (cells_of piece) (cells_of rest)
    ∙ ap (λ l. text ++ l) (sym (flat_map-append cell_line piece rest) ∙ ap cells_of (sym is))
    ∙ so_far

-- nothing is left
pub cells_done : (text total : List ℕ) (left : List Cell) → text ++ cells_of left ≡ total → left ≡ [] → text ≡ total
cells_done text total left so_far is = sym (append-nil text) ∙ ap (λ l. text ++ cells_of l) (sym is) ∙ so_far

-- the cell of an index, and those behind it
pub cell_next : (s r : List ℕ) (cells : List Word) (i n : ℕ) → i < n → cells_from s r cells i (n - i) ≡ cell_if s r i (cell_at cells i).value ++ cells_from s r cells (i + 1) (n - (i + 1))
cell_next s r cells i n lt = let e : n - i ≡ suc (n - (i + 1)) = omega arith in ap (cells_from s r cells i) e

-- the register of a number, and those behind it
pub register_next :
    (IsMeant : List ℕ → Bool) (s : List ℕ) (cells : Registers) (xs : List (List ℕ)) (rs : List Cells) (i : ℕ) (x : List ℕ) (r : Cells) → slice_get xs i ≡ Some x → slice_get rs i ≡ Some r →
    registers_cells IsMeant s cells (drop i xs) (drop i rs) ≡ register_cells IsMeant s cells x r ++ registers_cells IsMeant s cells (drop (i + 1) xs) (drop (i + 1) rs)
register_next IsMeant s cells xs rs i x r e f = ap₂ (registers_cells IsMeant s cells) (drop_at xs i x e) (drop_at rs i r f)

pub registers_past : (IsMeant : List ℕ → Bool) (s : List ℕ) (cells : Registers) (xs : List (List ℕ)) (rs : List Cells) (i : ℕ) → length xs ≤ i → registers_cells IsMeant s cells (drop i xs) (drop i rs) ≡ []
registers_past IsMeant s cells xs rs i le = ap (λ (ys : List (List ℕ)). registers_cells IsMeant s cells ys (drop i rs)) (drop_past xs i le)

-- ---- the first cell of a register

-- the register of a number has another name
pub first_other : (rs : List Cells) (cells : Registers) (x : List ℕ) (i : ℕ) (r : Cells) → slice_get rs i ≡ Some r → same_text r.name x ≡ false → first_cell (drop i rs) cells x ≡ first_cell (drop (i + 1) rs) cells x
first_other rs cells x i r at other =
    ap (λ (qs : List Cells). first_cell qs cells x) (drop_at rs i r at)
    ∙ ap (λ (b : Bool). if b then (cell_at (cells r.name) 0).value else first_cell (drop (i + 1) rs) cells x) other

-- or this one
pub first_found : (rs : List Cells) (cells : Registers) (x : List ℕ) (i : ℕ) (r : Cells) → slice_get rs i ≡ Some r → same_text r.name x ≡ true → first_cell (drop i rs) cells x ≡ (cell_at (cells r.name) 0).value
first_found rs cells x i r at same =
    ap (λ (qs : List Cells). first_cell qs cells x) (drop_at rs i r at)
    ∙ ap (λ (b : Bool). if b then (cell_at (cells r.name) 0).value else first_cell (drop (i + 1) rs) cells x) same

pub first_past : (rs : List Cells) (cells : Registers) (x : List ℕ) (i : ℕ) → length rs ≤ i → first_cell (drop i rs) cells x ≡ 0
first_past rs cells x i le = ap (λ (qs : List Cells). first_cell qs cells x) (drop_past rs i le)
