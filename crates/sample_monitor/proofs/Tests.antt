-- The values of tests and of the counter's expressions, where what they read is known.
use Rattle.std.proofs.Common.{◌≡◌, ℕ, ◌+◌, ◌<◌, ◌^◌, List, [], ◌∷◌, Bool, true, false, ◌&&◌, not, None, refl, ap, ap₂, ◌∙◌, bit_xor}
use Rattle.std.specs.Prelude.{nat_eq}
use Rattle.std.proofs.Math.Nat.{mod-lt}
use Rattle.std.proofs.lemmas.Nat.{pow_pos}
use Rattle.bit_values.specs.Bits.{Word, word, add, cast}
use Rattle.bit_values.specs.Widths.{bit, holds, sound_width, cast_word}
use Rattle.bit_values.proofs.BitsLemmas.{cast_of_small}
use Rattle.p4_tree.specs.Tree.{Expr, binary, negation}
use Rattle.p4_tree.specs.Operators.{operate}
use Rattle.p4_tree.specs.declared.statement.Op.TheVariants.{BitXor, Equal, Both}
use Rattle.p4_meaning.specs.Store.{Store, read}
use Rattle.p4_meaning.specs.Value.{value_of}
use Rattle.linkage.specs.Linkage.{xor_with}
use Rattle.monitor_laws.specs.Trees.{number}
use Rattle.sample_monitor.specs.Property.{IsByte}
use Rattle.sample_monitor.specs.Sample.{variable, has_count, count_path, next_cell, cell_name, kept_cell}
use Rattle.sample_monitor.proofs.Cells.{turned_twice, turned_low}

-- the value of an expression where each path reads one word
abbrev value_on : Expr → (width : ℕ) → Word → Word
value_on e w v = value_of e w (record { values = λ p. v; headers = λ p. None })

-- whether a truth value is one, and whether it is none
is_one : (b : Bool) → value_on (binary 0 Equal (variable []) (number 1 1)) 1 (bit b) ≡ bit b
is_one true = refl
is_one false = refl

is_none : (b : Bool) → value_on (binary 0 Equal (variable []) (number 1 0)) 1 (bit b) ≡ bit (not b)
is_none true = refl
is_none false = refl

pub one_is : (s : Store) (x : List ℕ) (b : Bool) → read s (x ∷ []) ≡ bit b → value_of (binary 0 Equal (variable x) (number 1 1)) 1 s ≡ bit b
one_is s x b h = ap (value_on (binary 0 Equal (variable x) (number 1 1)) 1) h ∙ is_one b

none_is : (s : Store) (x : List ℕ) (b : Bool) → read s (x ∷ []) ≡ bit b → value_of (binary 0 Equal (variable x) (number 1 0)) 1 s ≡ bit (not b)
none_is s x b h = ap (value_on (binary 0 Equal (variable x) (number 1 0)) 1) h ∙ is_none b

both_bits : (a b : Bool) → operate Both (cast_word (sound_width 1) (bit a)) (cast_word (sound_width 1) (bit (not (holds (bit b))))) ≡ bit (a && not b)
both_bits true true = refl
both_bits true false = refl
both_bits false true = refl
both_bits false false = refl

-- nothing is found, and a flag is not set
pub rejects_is : (s : Store) (x y : List ℕ) (found first : Bool) → read s (x ∷ []) ≡ bit found → read s (y ∷ []) ≡ bit first → value_of (binary 0 Both (binary 0 Equal (variable x) (number 1 0)) (negation 0 (variable y))) 1 s ≡ bit (not found && not first)
rejects_is s x y found first f g =
    ap₂ (λ u v. operate Both (cast_word (sound_width 1) u) (cast_word (sound_width 1) (bit (not (holds v))))) (none_is s x found f) g ∙ both_bits (not found) first

-- the list's length
pub count_is : (s : Store) (n : ℕ) (w : Word) → n < 2 ^ 8 → IsByte w → read s count_path ≡ w → value_of (has_count n) 1 s ≡ bit (nat_eq w.value n)
count_is s n w small byte h =
    ap (value_on (has_count n) 1) h
    ∙ ap (λ width. value_on (has_count n) 1 (word width w.value)) byte.width
    ∙ ap₂ (λ a b. bit (nat_eq a b)) (cast_of_small 8 w.value byte.low) (ap (cast 8) (cast_of_small 8 n small) ∙ cast_of_small 8 n small)

-- a register's cell, turned
pub turned_is : (s : Store) (n : ℕ) → n < 2 ^ 8 → read s (cell_name ∷ []) ≡ kept_cell n → value_of (binary 0 BitXor (variable cell_name) (number 8 7)) 8 s ≡ word 8 n
turned_is s n low h =
    ap (value_on (binary 0 BitXor (variable cell_name) (number 8 7)) 8) h
    ∙ ap (λ m. word 8 (bit_xor m 7)) (cast_of_small 8 (xor_with 7 n) (turned_low n low))
    ∙ ap (word 8) (turned_twice n)

-- a cell that has counted one more, as its register holds it
pub next_is : (s : Store) (n : ℕ) → n < 2 ^ 8 → read s (cell_name ∷ []) ≡ word 8 n → value_of next_cell 8 s ≡ kept_cell (add 8 n 1)
next_is s n low h =
    ap (value_on next_cell 8) h
    ∙ ap (λ m. word 8 (bit_xor (cast 8 (add 8 m 1)) 7)) (cast_of_small 8 n low)
    ∙ ap (λ m. word 8 (bit_xor m 7)) (cast_of_small 8 (add 8 n 1) (mod-lt (n + 1) (pow_pos 8)))
