-- What a variable or a field takes of an expression's value, and what a cell of a sensor's register takes and gives.
use Rattle.std.proofs.Common.{◌≡◌, ℕ, ◌≤◌, ◌<◌, ◌^◌, List, [], ◌∷◌, map, length, get_or, Bool, true, false, cond, Option, Some, None, refl, sym, ap, ap₂, ◌∙◌, bit_xor, arith, pow_pos, nat_eq, nat_lt}
use Rattle.std.specs.Prelude.{slice_get}
use Rattle.std.specs.Int.Bits.{xor_zero_r}
use Rattle.std.proofs.Math.Pow.{pow_mono}
use Rattle.std.proofs.Math.Nat.{mod-lt}
use Rattle.std.proofs.lemmas.Bool.{eqb-true}
use Rattle.std.proofs.lemmas.Nat.{xor_lt}
use Rattle.std.proofs.lemmas.List.{get_or-map}
use Rattle.std.proofs.lemmas.Option.{slice_get-get_or, slice_get_past}
use Rattle.bit_values.specs.Bits.{Word, word, IsWord, cast as cast_number}
use Rattle.bit_values.specs.Widths.{bit, either_width, sound_width, cast_word}
use Rattle.bit_values.proofs.BitsLemmas.{cast_of_small, cast-lt}
use Rattle.p4_tree.specs.Tree as p4
use Rattle.p4_tree.specs.Operators.{operate}
use Rattle.p4_tree.specs.declared.statement.Op.TheVariants as p4o
use Rattle.p4_tree.specs.declared.statement.PTy.TheVariants as type
use Rattle.p4_meaning.specs.Store.{Store, read}
use Rattle.p4_meaning.specs.Value as p4v
use Rattle.p4_meaning.specs.Statements.{cell_at}
use Rattle.indus_tree.specs.Tree.{Expr, num, flag}
use Rattle.indus_tree.specs.State.{width_of, nothing_of}
use Rattle.indus_tree.specs.Reads.{Seen, or_word}
use Rattle.indus_tree.specs.Shapes.{HasWidth}
use Rattle.indus_tree.specs.Start.{start_word}
use Rattle.indus_tree.specs.Value.{own_width, value_of}
use Rattle.indus_tree.specs.declared.tree.Ty.{Ty}
use Rattle.indus_tree.specs.declared.tree.Ty.TheVariants as ty
use Rattle.sensor_registers.specs.Registers.{cell_value}
use Rattle.monitor_laws.specs.Trees.{number}
use Rattle.lookup_names.specs.Keys.{variable}
use Rattle.lowered_code.specs.Expressions.{bits_type, as_bit, to_bits, is_bare, as_index}
use Rattle.lowered_code.specs.Reads.{turned}
use Rattle.lowered_code.specs.Suiting.{IsSound, IsOfType, IsIndex}
use Rattle.lowered_code.proofs.Widths.{cast_same, cast_kept, value_at_own, value_with_own, either_same}
use Rattle.lowered_code.proofs.Bit.{bit_value}
use Rattle.lowered_code.proofs.Values.{Same}

-- ---- a value as bits of a type

pub bits_width : (t : Ty) → p4v.width_of (bits_type t) ≡ width_of t
bits_width (ty.Bit w) = refl
bits_width ty.Bool = refl

-- a place has one bit, or the expression has
one_bit : (v : Seen) (e : Expr) → own_width v e ≡ 1 → value_of v e 0 ≡ value_of v e 1
one_bit v e is = sym (value_at_own v e 0) ∙ ap (λ n. value_of v e (either_width n 0)) is

-- what a variable of the type takes
abbrev pub taken : Seen → Ty → Expr → Word
taken v t e = cast_word (sound_width (width_of t)) (value_of v e (width_of t))

module _ (s : Store) (v : Seen) (t : Ty) (f : p4.Expr) (e : Expr) (h : Same s v f e) (of : IsOfType v t e) (sound : IsSound t) where
  pub bits_are : (u : ℕ) → u ≡ sound_width (width_of t) → cast_word (sound_width u) (p4v.value_of (to_bits t f) u s) ≡ taken v t e
  bits_are u is = by_type t of sound is
    where
      by_type : (t : Ty) → IsOfType v t e → IsSound t → u ≡ sound_width (width_of t) → cast_word (sound_width u) (p4v.value_of (to_bits t f) u s) ≡ taken v t e
      by_type (ty.Bit w) i k is = ap (λ u. cast_word (sound_width u) (p4v.value_of f u s)) (is ∙ k) ∙ ap (cast_word (sound_width w)) (h.value w)
      by_type ty.Bool i k is =
          ap (λ u. cast_word (sound_width u) (p4v.value_of (as_bit f) u s)) is ∙ bit_value s f ∙ ap (cast_word 1) (h.value 0 ∙ one_bit v e i)

  -- a width of their own is the type's
  pub bits_own : either_width (p4v.own_width (to_bits t f) s) (width_of t) ≡ width_of t
  bits_own = by_type t of
    where
      by_type : (t : Ty) → IsOfType v t e → either_width (p4v.own_width (to_bits t f) s) (width_of t) ≡ width_of t
      by_type (ty.Bit w) i = ap (λ n. either_width n w) h.own ∙ i
      by_type ty.Bool i = ap (λ n. either_width n 1) h.narrow

-- ---- an index

-- the number that an index is
abbrev pub index_number : Seen → Expr → ℕ
index_number v e = (value_of v e 128).value

pub low_index : (u : Word) → IsWord u → u.value < 2 ^ 128
low_index u i = let up : 2 ^ u.width ≤ 2 ^ 128 = pow_mono i.narrow in omega (arith, i.in_range, up)

cut_index : (u : Word) → IsWord u → cast_word 128 u ≡ word 128 u.value
cut_index u i = ap (word 128) (cast_of_small 128 u.value (low_index u i))

-- an index in a variable of 128 bits
pub index_is : (s : Store) (v : Seen) (f : p4.Expr) (e : Expr) → Same s v f e → IsIndex v e → IsWord (value_of v e 128) → cast_word 128 (p4v.value_of (as_index e f) 128 s) ≡ word 128 (index_number v e)
index_is s v f e h i w = go (is_bare e) refl
  where
    go : (b : Bool) → is_bare e ≡ b → cast_word 128 (p4v.value_of (cond b f (p4.cast 0 (type.Bit 128) f)) 128 s) ≡ word 128 (index_number v e)
    go true k = ap (cast_word 128) (h.value 128) ∙ cut_index (value_of v e 128) w
    go false k =
        ap (λ u. cast_word 128 (cast_word 128 u)) (h.value 0 ∙ value_with_own v e 0 128 (i.own k))
        ∙ ap (cast_word 128) (cut_index (value_of v e 128) w)
        ∙ ap (word 128) (cast_of_small 128 (value_of v e 128).value (low_index (value_of v e 128) w))

-- an index as a key of the property's meaning
pub key_index : (v : Seen) (e : Expr) → IsIndex v e → IsWord (value_of v e 128) → cast_word (sound_width (either_width (own_width v e) 128)) (value_of v e (either_width (own_width v e) 128)) ≡ value_of v e 128
key_index v e i w =
    ap (cast_word (sound_width (either_width (own_width v e) 128))) (value_at_own v e 128)
    ∙ cast_same (sound_width (either_width (own_width v e) 128)) (value_of v e 128) (i.place 128) w.in_range

-- an index against the size of an array
pub below_is : (s : Store) (x : List ℕ) (i n : ℕ) → i < 2 ^ 128 → n < 2 ^ 128 → read s (x ∷ []) ≡ word 128 i → p4v.value_of (p4.binary 0 p4o.Less (variable x) (number 128 n)) 1 s ≡ bit (nat_lt i n)
below_is s x i n li ln is =
    ap (λ (c : Word). bit (nat_lt (cast_number (sound_width (either_width c.width 128)) c.value) (cast_number (sound_width (either_width c.width 128)) (cast_number 128 n)))) is
    ∙ ap₂ (λ a b. bit (nat_lt a b)) (cast_of_small 128 i li) (ap (cast_number 128) (cast_of_small 128 n ln) ∙ cast_of_small 128 n ln)

-- ---- a cell

-- the initial value is a word of the width
pub start_has : (o : Option Expr) (w : ℕ) → HasWidth w (start_word o w)
start_has None w = record { width = refl; in_range = pow_pos (sound_width w) }
start_has (Some (num p n)) w = record { width = refl; in_range = cast-lt (sound_width w) n.value }
start_has (Some (flag p b)) w = record { width = refl; in_range = cast-lt (sound_width w) (bit b).value }
start_has (Some _) w = record { width = refl; in_range = pow_pos (sound_width w) }

-- what a cell holds is a word too
pub cell_has : (w : ℕ) (start v : Word) → HasWidth w start → HasWidth w v → HasWidth w (cell_value start v)
cell_has w start v s h = record { width = h.width; in_range = xor_lt (sound_width w) v.value start.value h.in_range s.in_range }

-- where the initial value is 0 a cell holds the value
pub cell_of_zero : (start c : Word) → start.value ≡ 0 → cell_value start c ≡ c
cell_of_zero start c zero = ap (word c.width) (ap (bit_xor c.value) zero ∙ xor_zero_r c.value)

-- a written number in its own width
number_is : (s : Store) (w : ℕ) (u : Word) → HasWidth w u → cast_word (sound_width w) (p4v.value_of (number w u.value) w s) ≡ u
number_is s w u h = ap (λ n. cast_word (sound_width w) (cast_word (sound_width n) u)) (either_same w) ∙ ap (cast_word (sound_width w)) (cast_kept w u h) ∙ cast_kept w u h

-- what is written to a cell, of bits that have the value c in the sensor's width
module _ (s : Store) (f : p4.Expr) (w : ℕ) (start c : Word) (own : either_width (p4v.own_width f s) w ≡ w) (hs : HasWidth w start) (hc : HasWidth w c) (is : cast_word (sound_width w) (p4v.value_of f w s) ≡ c) where
  xor_is : cast_word (sound_width w) (p4v.value_of (p4.binary 0 p4o.BitXor f (number w start.value)) w s) ≡ cell_value start c
  xor_is =
      let g = number w start.value in
      ap (λ n. cast_word (sound_width w) (operate p4o.BitXor (cast_word (sound_width (either_width n w)) (p4v.value_of f (either_width n w) s)) (cast_word (sound_width (either_width n w)) (p4v.value_of g (either_width n w) s)))) own
      ∙ ap (λ n. cast_word (sound_width w) (operate p4o.BitXor (cast_word (sound_width n) (p4v.value_of f n s)) (cast_word (sound_width n) (p4v.value_of g n s)))) (either_same w)
      ∙ ap₂ (λ a b. cast_word (sound_width w) (operate p4o.BitXor a b)) is (number_is s w start hs)
      ∙ cast_kept w (cell_value start c) (cell_has w start c hs hc)

  pub turned_is : cast_word (sound_width w) (p4v.value_of (turned start.value w f) w s) ≡ cell_value start c
  turned_is = go (nat_eq start.value 0) refl
    where
      go : (b : Bool) → nat_eq start.value 0 ≡ b → cast_word (sound_width w) (p4v.value_of (cond b f (p4.binary 0 p4o.BitXor f (number w start.value))) w s) ≡ cell_value start c
      go true e = is ∙ sym (cell_of_zero start c (eqb-true start.value 0 e))
      go false e = xor_is

-- a cell of a register that is there
pub cell_there : (start : Word) (vs : List Word) (i : ℕ) (z : Word) → i < length vs → cell_at (map (cell_value start) vs) i ≡ cell_value start (get_or vs i z)
cell_there start vs i z lt = get_or-map (cell_value start) vs i z _ lt

-- the cell of an array, where there is one and where there is none
pub array_there : (vs : List Word) (i w : ℕ) (z : Word) → i < length vs → or_word (slice_get vs i) (nothing_of w) ≡ get_or vs i z
array_there vs i w z lt = ap (λ (o : Option Word). or_word o (nothing_of w)) (slice_get-get_or vs i z lt)

pub array_past : (vs : List Word) (i w : ℕ) → length vs ≤ i → or_word (slice_get vs i) (nothing_of w) ≡ nothing_of w
array_past vs i w le = ap (λ (o : Option Word). or_word o (nothing_of w)) (slice_get_past vs i le)
