-- Registers by their numbers hold what those by their names do, and reads and writes keep it.
use Rattle.std.proofs.Common.{◌≡◌, ℕ, zero, suc, ◌<◌, ◌≤◌, length, get_or, List, [], ◌∷◌, ⊎_elim, Bool, true, false, if◌then◌else◌, Some, refl, sym, ap, ◌∙◌, subst, arith}
use Rattle.std.proofs.lemmas.Bool.{cases_lt}
use Rattle.std.proofs.lemmas.List.{set_past}
use Rattle.std.specs.Prelude.{slice_set}
use Rattle.bit_values.specs.Bits.{Word}
use Rattle.bit_values.specs.Widths.{sound_width, cast_word}
use Rattle.lex_text.specs.Names.{same_text}
use Rattle.p4_tree.specs.Tree.{Expr}
use Rattle.p4_meaning.specs.Standard.{is_assignable}
use Rattle.p4_meaning.specs.Store.{zero_of}
use Rattle.p4_meaning.specs.Value.{value_of}
use Rattle.p4_meaning.specs.Statements as meaning
use Rattle.p4_meaning.specs.Statements.{Run, cell_at, cell_set, put_cells, index_of, in_store, assigned}
use Rattle.p4_meaning.specs.Parts.{Cells}
use Rattle.p4_statements.specs.Cells.{Rows, cells_in, place_in}
use Rattle.p4_statements.proofs.RegistersLemmas.{none_written, cells_written}
use Rattle.slot_terms.specs.Typed.{Typed}
use Rattle.slot_terms.specs.Terms.{eval}
use Rattle.slot_terms.specs.Places.{Place, Places, place_at, Follows, IsLaid, Means}
use Rattle.slot_terms.specs.States.{State}
use Rattle.slot_terms.proofs.PlaceLemmas.{sound_wide, sound_narrow}
use Rattle.slot_statements.specs.Codes as codes
use Rattle.slot_statements.specs.Tables.{key_word}
use Rattle.slot_statements.proofs.StoreLemmas.{sound_is}
use Rattle.slot_controls.specs.Steps.{plain, reads, writes, numbered_cells, stored, run}
use Rattle.slot_controls.specs.Callees.{Callees, AreWide, HaveWidth, named_cells, register_number, register_width}
use Rattle.slot_controls.specs.StepRuns.{StepEnds, DoesAct, target_at}
use Rattle.slot_controls.proofs.ActLemmas.{still_alike, nothing_ends}
use Rattle.slot_controls.proofs.WordLemmas.{stored_follows, none_assigned, number_is, word_is}

-- ---- by number and by name

number_step : (b : Bool) (i j : ℕ) → i ≡ j → (if b then 0 else suc i) ≡ (if b then 0 else suc j)
number_step b i j e = ap (λ n. if b then 0 else suc n) e

-- a register's number is its place among the rows
number_place : (rs : List Cells) (cells : List (List Word)) (x : List ℕ) → AreWide rs cells → place_in (named_cells rs cells) x ≡ register_number rs x
number_place [] cells x wide = refl
number_place (r ∷ rs) [] x wide = absurd wide
number_place (r ∷ rs) (c ∷ cs) x wide = number_step (same_text r.name x) (place_in (named_cells rs cs) x) (register_number rs x) (number_place rs cs x wide.1)

rows_length : (rs : List Cells) (cells : List (List Word)) → AreWide rs cells → length (named_cells rs cells) ≡ length cells
rows_length [] [] wide = refl
rows_length [] (c ∷ cs) wide = absurd wide
rows_length (r ∷ rs) [] wide = refl
rows_length (r ∷ rs) (c ∷ cs) wide = ap suc (rows_length rs cs wide.1)

-- ---- cells of a number

found_at : (b : Bool) (c : List Word) (cs : List (List Word)) (i : ℕ) (z : List Word) → numbered_cells cs i ≡ z → numbered_cells (c ∷ cs) (if b then 0 else suc i) ≡ (if b then c else z)
found_at true c cs i z e = refl
found_at false c cs i z e = e

pub cells_there : (rs : List Cells) (cells : List (List Word)) (x : List ℕ) → AreWide rs cells → numbered_cells cells (register_number rs x) ≡ cells_in (named_cells rs cells) x
cells_there [] [] x wide = refl
cells_there [] (c ∷ cs) x wide = absurd wide
cells_there (r ∷ rs) [] x wide = absurd wide
cells_there (r ∷ rs) (c ∷ cs) x wide = found_at (same_text r.name x) c cs (register_number rs x) (cells_in (named_cells rs cs) x) (cells_there rs cs x wide.1)

-- ---- widths

-- the width of a cell
cell_width : (w : ℕ) (cells : List Word) (i : ℕ) (d : Word) → HaveWidth w cells → d.width ≡ w → (get_or cells i d).width ≡ w
cell_width w [] i d all e = e
cell_width w (c ∷ cs) zero d all e = all.0
cell_width w (c ∷ cs) (suc i) d all e = cell_width w cs i d all.1 e

wide_either : (b : Bool) (c z : List Word) (v w : ℕ) → HaveWidth v c → HaveWidth w z → HaveWidth (if b then v else w) (if b then c else z)
wide_either true c z v w f g = f
wide_either false c z v w f g = g

wide_there : (rs : List Cells) (cells : List (List Word)) (x : List ℕ) → AreWide rs cells → HaveWidth (register_width rs x) (cells_in (named_cells rs cells) x)
wide_there [] cells x wide = tt
wide_there (r ∷ rs) [] x wide = absurd wide
wide_there (r ∷ rs) (c ∷ cs) x wide = wide_either (same_text r.name x) c (cells_in (named_cells rs cs) x) (sound_width r.width) (register_width rs x) wide.0 (wide_there rs cs x wide.1)

-- a value for a cell is taken at the register's width; where there are no cells, it is not taken
set_at_width : (cells : List Word) (w i : ℕ) (f : ℕ → Word) → HaveWidth w cells → cell_set cells i (f w) ≡ cell_set cells i (f (cell_at cells i).width)
set_at_width [] w i f all = refl
set_at_width (c ∷ cs) w i f all = ap (λ v. cell_set (c ∷ cs) i (f v)) (sym (cell_width w (c ∷ cs) i (zero_of c) all all.0))

set_wide : (cells : List Word) (i : ℕ) (v : Word) (w : ℕ) → HaveWidth w cells → v.width ≡ w → HaveWidth w (slice_set cells i v)
set_wide [] i v w all e = tt
set_wide (c ∷ cs) zero v w all e = (e, all.1)
set_wide (c ∷ cs) (suc i) v w all e = (all.0, set_wide cs i v w all.1 e)

-- cells keep their width when one is written
written_wide : (cells : List Word) (i : ℕ) (v : Word) (w : ℕ) → sound_width w ≡ w → HaveWidth w cells → HaveWidth w (cell_set cells i v)
written_wide [] i v w sound all = tt
written_wide (c ∷ cs) i v w sound all = set_wide (c ∷ cs) i (cast_word (sound_width (cell_at (c ∷ cs) i).width) v) w all (ap sound_width (cell_width w (c ∷ cs) i (zero_of c) all all.0) ∙ sound)

-- a width that is sound is so again
sound_again : (w : ℕ) → sound_width (sound_width w) ≡ sound_width w
sound_again w = sound_is (sound_width w) (sound_wide w) (sound_narrow w)

all_wide : (rs : List Cells) (cells : List (List Word)) (n i : ℕ) (v : Word) → AreWide rs cells → AreWide rs (slice_set cells n (cell_set (numbered_cells cells n) i v))
all_wide [] [] n i v wide = tt
all_wide [] (c ∷ cs) n i v wide = absurd wide
all_wide (r ∷ rs) [] n i v wide = absurd wide
all_wide (r ∷ rs) (c ∷ cs) zero i v wide = (written_wide c i v (sound_width r.width) (sound_again r.width) wide.0, wide.1)
all_wide (r ∷ rs) (c ∷ cs) (suc n) i v wide = (wide.0, all_wide rs cs n i v wide.1)

-- ---- a write

-- the row of a number has other cells
row_set : (rs : List Cells) (cells : List (List Word)) (n : ℕ) (c : List Word) (d : List ℕ × List Word) → AreWide rs cells → n < length cells → named_cells rs (slice_set cells n c) ≡ slice_set (named_cells rs cells) n ((get_or (named_cells rs cells) n d).0, c)
row_set [] [] n c d wide lt = refl
row_set [] (z ∷ cs) n c d wide lt = absurd wide
row_set (r ∷ rs) [] n c d wide lt = absurd wide
row_set (r ∷ rs) (z ∷ cs) zero c d wide lt = refl
row_set (r ∷ rs) (z ∷ cs) (suc n) c d wide lt = ap (λ es. (r.name, z) ∷ es) (row_set rs cs n c d wide.1 (omega (arith, lt)))

-- what stands in the row of a number
row_at : (rs : List Cells) (cells : List (List Word)) (n : ℕ) (d : List ℕ × List Word) → AreWide rs cells → n < length cells → (get_or (named_cells rs cells) n d).1 ≡ numbered_cells cells n
row_at [] [] n d wide lt = absurd (omega (arith, lt))
row_at [] (z ∷ cs) n d wide lt = absurd wide
row_at (r ∷ rs) [] n d wide lt = absurd wide
row_at (r ∷ rs) (z ∷ cs) zero d wide lt = refl
row_at (r ∷ rs) (z ∷ cs) (suc n) d wide lt = row_at rs cs n d wide.1 (omega (arith, lt))

write_named : (rs : List Cells) (cells : List (List Word)) (x : List ℕ) (i : ℕ) (v : Word) → AreWide rs cells
    → cells_in (named_cells rs (slice_set cells (register_number rs x) (cell_set (numbered_cells cells (register_number rs x)) i v)))
    ≡ put_cells (cells_in (named_cells rs cells)) x (cell_set (cells_in (named_cells rs cells) x) i v)
write_named rs cells x i v wide =
    let n : ℕ = register_number rs x in
    let es : Rows = named_cells rs cells in
    let d : List ℕ × List Word = ([], []) in
    let place : place_in es x ≡ n = number_place rs cells x wide in
    let many : length es ≡ length cells = rows_length rs cells wide in
    let new : List Word = cell_set (numbered_cells cells n) i v in
    ⊎_elim
    (λ (lt : n < length cells). let below : n < length es = omega (arith, lt, many) in
    ap cells_in (row_set rs cells n new d wide lt) ∙ cells_written es x d ((get_or es n d).0, new) n i v (sym place) below refl (ap (λ c. cell_set c i v) (sym (row_at rs cells n d wide lt))))
    (λ (le : length cells ≤ n). let past : length es ≤ place_in es x = omega (arith, le, many, place) in
    ap (λ cs. cells_in (named_cells rs cs)) (set_past cells n new le) ∙ none_written es x i v past)
    (cases_lt n (length cells))

-- ---- steps

pub reads_into :
    (k : Callees) (m : Places) (x : List ℕ) (p : List (List ℕ)) (i : Expr) (t : Typed) (r : Place) → IsLaid m → place_at m.rows p ≡ Some r → is_assignable p ≡ true → Means m i 128 t
    → DoesAct k m (reads (register_number k.registers x) (target_at r) t.term) (meaning.reads x p i)
reads_into k m x p i t r laid is may means base held chosen u y stands =
    let s : State = u.state in
    let n : ℕ = register_number k.registers x in
    let index : eval s.slots s.valid t.term ≡ index_of i y.store = number_is m i 128 t s y.store means stands.follows in
    let there : numbered_cells u.cells n ≡ y.cells x = cells_there k.registers u.cells x stands.beside.cells.wide ∙ sym (stands.beside.cells.named x) in
    let cell : Word = cell_at (numbered_cells u.cells n) (eval s.slots s.valid t.term) in
    let same : cell ≡ cell_at (y.cells x) (index_of i y.store) = ap (λ c. cell_at c (eval s.slots s.valid t.term)) there ∙ ap (cell_at (y.cells x)) index in
    let z : State = stored (target_at r) cell.value s in
    let kept : Follows m z.slots z.valid (assigned y.store p (cell_at (y.cells x) (index_of i y.store))) = subst (λ w. Follows m z.slots z.valid (assigned y.store p w)) same (stored_follows m p r laid is may s y.store cell stands.follows) in
    record {
      ends = record { flow = refl; kept = kept; grown = λ g. kept };
      beside = still_alike k u (run chosen (reads n (target_at r) t.term) u).0 y (in_store y (assigned y.store p (cell_at (y.cells x) (index_of i y.store)))) stands.beside refl refl (record { cells = refl; digests = refl });
    }

pub reads_nowhere : (k : Callees) (m : Places) (x : List ℕ) (p : List (List ℕ)) (i : Expr) → is_assignable p ≡ false → DoesAct k m (plain codes.skip) (meaning.reads x p i)
reads_nowhere k m x p i not base held chosen u y stands =
    subst (λ z. StepEnds k m m (u, meaning.Go) (in_store y z, meaning.Go)) (sym (none_assigned y.store p (cell_at (y.cells x) (index_of i y.store)) not)) (nothing_ends k m u y stands.follows stands.beside)

pub writes_do : (k : Callees) (m : Places) (x : List ℕ) (i v : Expr) (t w : Typed) → Means m i 128 t → Means m v (register_width k.registers x) w → DoesAct k m (writes (register_number k.registers x) t.term w) (meaning.writes x i v)
writes_do k m x i v t w index value base held chosen u y stands =
    let s : State = u.state in
    let rs : List Cells = k.registers in
    let n : ℕ = register_number rs x in
    let at : ℕ = eval s.slots s.valid t.term in
    let wide : AreWide rs u.cells = stands.beside.cells.wide in
    let old : y.cells x ≡ cells_in (named_cells rs u.cells) x = stands.beside.cells.named x in
    let at_is : at ≡ index_of i y.store = number_is m i 128 t s y.store index stands.follows in
    let word : key_word s w ≡ value_of v (register_width rs x) y.store = word_is m v (register_width rs x) w s y.store value stands.follows in
    let at_width : cell_set (cells_in (named_cells rs u.cells) x) at (key_word s w) ≡ cell_set (cells_in (named_cells rs u.cells) x) at (value_of v (cell_at (cells_in (named_cells rs u.cells) x) at).width y.store) =
    ap (cell_set (cells_in (named_cells rs u.cells) x) at) word ∙ set_at_width (cells_in (named_cells rs u.cells) x) (register_width rs x) at (λ a. value_of v a y.store) (wide_there rs u.cells x wide) in
    let new : cell_set (cells_in (named_cells rs u.cells) x) at (key_word s w) ≡ cell_set (y.cells x) (index_of i y.store) (value_of v (cell_at (y.cells x) (index_of i y.store)).width y.store) =
    at_width ∙ ap (λ c. cell_set c at (value_of v (cell_at c at).width y.store)) (sym old) ∙ ap (λ j. cell_set (y.cells x) j (value_of v (cell_at (y.cells x) j).width y.store)) at_is in
    let z : List Word = cell_set (y.cells x) (index_of i y.store) (value_of v (cell_at (y.cells x) (index_of i y.store)).width y.store) in
    record {
      ends = record { flow = refl; kept = stands.follows; grown = λ g. stands.follows };
      beside = record {
        cells = record {
          wide = all_wide rs u.cells n at (key_word s w) wide;
          named = λ q. ap (λ c. if same_text x q then z else c) (stands.beside.cells.named q) ∙ ap (λ c. put_cells (cells_in (named_cells rs u.cells)) x c q) (sym new) ∙ ap (λ f. f q) (sym (write_named rs u.cells x at (key_word s w) wide));
        };
        digests = stands.beside.digests;
      };
    }
