-- Registers, of which one has other cells.
use Rattle.std.proofs.Common.{◌≡◌, ℕ, zero, suc, ◌<◌, ◌≤◌, length, get_or, arith, List, [], ◌∷◌, Bool, true, false, cond, Option, Some, None, String, option_map, refl, sym, ap, ◌∙◌, Decides}
use Rattle.std.proofs.lemmas.Slice.Eq.{bytes_eq-Decides}
use Rattle.std.specs.Prelude.{slice_set}
use Rattle.bit_values.specs.Bits.{Word}
use Rattle.lex_text.specs.Names.{same_text}
use Rattle.p4_meaning.specs.Statements.{put_cells, cell_set}
use Rattle.std.specs.declared.alloc.Global.{Global}
use Rattle.p4_resolved.specs.Rows.{at_name}
use Rattle.p4_parts.specs.Places.{first_in, Tells}
use Rattle.p4_parts.proofs.Placed.{place_or, place_step}
use Rattle.p4_statements.specs.Cells.{Rows, names_in, cells_in, place_in}

pub text_decides : (x y : List ℕ) → Decides (same_text x y) (x ≡ y)
text_decides x y = bytes_eq-Decides x y

found_step : (e d : List ℕ × List Word) (es : Rows) (x : List ℕ) (b : Bool) → cond b 0 (suc (place_in es x)) < length (e ∷ es) → (place_in es x < length es → cells_in es x ≡ (get_or es (place_in es x) d).1) → cond b e.1 (cells_in es x) ≡ (get_or (e ∷ es) (cond b 0 (suc (place_in es x))) d).1
found_step e d es x true lt h = refl
found_step e d es x false lt h = h (omega arith)

-- the cells stand at the register's place
pub cells_found : (es : Rows) (x : List ℕ) (d : List ℕ × List Word) → place_in es x < length es → cells_in es x ≡ (get_or es (place_in es x) d).1
cells_found [] x d lt = absurd (omega arith)
cells_found (e ∷ es) x d lt = found_step e d es x (same_text e.0 x) lt (cells_found es x d)

none_step : (e : List ℕ × List Word) (es : Rows) (x : List ℕ) (b : Bool) → length (e ∷ es) ≤ cond b 0 (suc (place_in es x)) → (length es ≤ place_in es x → cells_in es x ≡ []) → cond b e.1 (cells_in es x) ≡ []
none_step e es x true le h = absurd (omega arith)
none_step e es x false le h = h (omega arith)

pub none_found : (es : Rows) (x : List ℕ) → length es ≤ place_in es x → cells_in es x ≡ []
none_found [] x le = refl
none_found (e ∷ es) x le = none_step e es x (same_text e.0 x) le (none_found es x)

same_step : (es : Rows) (x y : List ℕ) (b : Bool) → same_text x y ≡ b → cells_in es x ≡ [] → cond b [] (cells_in es y) ≡ cells_in es y
same_step es x y true same none = sym none ∙ ap (cells_in es) ((text_decides x y).0 same)
same_step es x y false same none = refl

-- a write to a register that is not there changes nothing
pub none_written : (es : Rows) (x : List ℕ) (i : ℕ) (v : Word) → length es ≤ place_in es x → cells_in es ≡ put_cells (cells_in es) x (cell_set (cells_in es x) i v)
none_written es x i v le =
    let none : cells_in es x ≡ [] = none_found es x le in
    sym (ap (λ l. put_cells (cells_in es) x (cell_set l i v)) none ∙ (λ i y. same_step es x y (same_text x y) refl none i))

twice : {A : Type 0} (b : Bool) (u v w : A) → cond b u w ≡ cond b u (cond b v w)
twice true u v w = refl
twice false u v w = refl

swap : {A : Type 0} (b c : Bool) (u v w : A) → (b ≡ true → c ≡ true → ⊥) → cond b u (cond c v w) ≡ cond c v (cond b u w)
swap true true u v w h = absurd (h refl refl)
swap true false u v w h = refl
swap false true u v w h = refl
swap false false u v w h = refl

apart : (k x y : List ℕ) → same_text k x ≡ false → same_text k y ≡ true → same_text x y ≡ true → ⊥
apart k x y differs a b =
    let ky = (text_decides k y).0 a in
    let xy = (text_decides x y).0 b in
    let yes = (text_decides k x).1 (ky ∙ sym xy) in
    let both : false ≡ true = sym differs ∙ yes in cc both

written_step : (e d r : List ℕ × List Word) (es : Rows) (x y : List ℕ) (cells : List Word) (b : Bool) → same_text e.0 x ≡ b → cond b 0 (suc (place_in es x)) < length (e ∷ es) → r.0 ≡ (get_or (e ∷ es) (cond b 0 (suc (place_in es x))) d).0 → r.1 ≡ cells → (place_in es x < length es → r.0 ≡ (get_or es (place_in es x) d).0 → cells_in (slice_set es (place_in es x) r) y ≡ cond (same_text x y) cells (cells_in es y)) → cells_in (slice_set (e ∷ es) (cond b 0 (suc (place_in es x))) r) y ≡ cond (same_text x y) cells (cond (same_text e.0 y) e.1 (cells_in es y))
written_step e d r es x y cells true same lt key is h =
    let k : r.0 ≡ x = key ∙ (text_decides e.0 x).0 same in
    let here : e.0 ≡ x = (text_decides e.0 x).0 same in
    ap (λ n. cond (same_text n y) r.1 (cells_in es y)) k
    ∙ ap (λ l. cond (same_text x y) l (cells_in es y)) is
    ∙ twice (same_text x y) cells e.1 (cells_in es y)
    ∙ ap (λ n. cond (same_text x y) cells (cond (same_text n y) e.1 (cells_in es y))) (sym here)
written_step e d r es x y cells false same lt key is h =
    ap (λ l. cond (same_text e.0 y) e.1 l) (h (omega arith) key)
    ∙ swap (same_text e.0 y) (same_text x y) e.1 cells (cells_in es y) (apart e.0 x y same)

written_at : (es : Rows) (x y : List ℕ) (d r : List ℕ × List Word) (cells : List Word) → place_in es x < length es → r.0 ≡ (get_or es (place_in es x) d).0 → r.1 ≡ cells → cells_in (slice_set es (place_in es x) r) y ≡ cond (same_text x y) cells (cells_in es y)
written_at [] x y d r cells lt key is = absurd (omega arith)
written_at (e ∷ es) x y d r cells lt key is = written_step e d r es x y cells (same_text e.0 x) refl lt key is (λ lt key. written_at es x y d r cells lt key is)

-- the register at its place has other cells
pub cells_written : (es : Rows) (x : List ℕ) (d r : List ℕ × List Word) (n : ℕ) (i : ℕ) (v : Word) → n ≡ place_in es x → n < length es → r.0 ≡ (get_or es n d).0 → r.1 ≡ cell_set (get_or es n d).1 i v → cells_in (slice_set es n r) ≡ put_cells (cells_in es) x (cell_set (cells_in es x) i v)
cells_written es x d r n i v at lt key is =
    let lt' : place_in es x < length es = omega arith in
    let key' : r.0 ≡ (get_or es (place_in es x) d).0 = key ∙ ap (λ m. (get_or es m d).0) at in
    let is' : r.1 ≡ cell_set (cells_in es x) i v = is ∙ ap (λ m. cell_set (get_or es m d).1 i v) at ∙ ap (λ l. cell_set l i v) (sym (cells_found es x d lt')) in
    ap (λ m. cells_in (slice_set es m r)) at ∙ (λ j y. written_at es x y d r (cell_set (cells_in es x) i v) lt' key' is' j)

-- ---- places by a table

pub placed : (es : Rows) (x : List ℕ) → place_or (length es) (first_in (names_in es) x) ≡ place_in es x
placed [] x = refl
placed (e ∷ es) x = place_step (length es) (place_in es x) (same_text e.0 x) (first_in (names_in es) x) (placed es x)

-- other cells leave the names as they are
pub names_kept : (es : Rows) (n : ℕ) (d r : List ℕ × List Word) → n < length es → r.0 ≡ (get_or es n d).0 → names_in (slice_set es n r) ≡ names_in es
names_kept [] n d r lt key = absurd (omega arith)
names_kept (e ∷ es) zero d r lt key = ap (λ y. y ∷ names_in es) key
names_kept (e ∷ es) (suc n) d r lt key = ap (λ ys. e.0 ∷ ys) (names_kept es n d r (omega arith) key)

-- ---- what a table finds

pub found_place : (es rows : Rows) (ps : List (String Global × ℕ)) (x : List ℕ) (o : Option ℕ) → Tells ps (names_in rows) → rows ≡ es → at_name ps x ≡ o → place_or (length rows) o ≡ place_in es x
found_place es rows ps x o told same is = ap (place_or (length rows)) (sym is ∙ told x) ∙ placed rows x ∙ ap (λ l. place_in l x) same

pub cells_there : (es rows : Rows) (x : List ℕ) (n : ℕ) (r : List ℕ × List Word) → rows ≡ es → n ≡ place_in es x → n < length rows → r ≡ get_or rows n r → r.1 ≡ cells_in es x
cells_there es rows x n r same at lt is =
    let here : n ≡ place_in rows x = at ∙ ap (λ l. place_in l x) (sym same) in
    let low : place_in rows x < length rows = omega (arith, lt, here) in
    ap (λ (e : List ℕ × List Word). e.1) is ∙ ap (λ m. (get_or rows m r).1) here ∙ sym (cells_found rows x r low) ∙ ap (λ l. cells_in l x) same
