-- Expressions over numbered slots, and their values: numbers without widths. Read `Operators` of `bit_values` before it
-- and `Typed` after it.
use Rattle.std.specs.Prelude.{ℕ, ◌+◌, ◌-◌, ◌*◌, ◌/◌, ◌%◌, ◌^◌, List, Bool, false, not, ◌&&◌, ◌||◌, if◌then◌else◌, nat_eq, nat_lt, nat_le, get_or, bit_and, bit_or, bit_xor}
use Rattle.bit_values.specs.declared.operator.Operator.{Operator}
use Rattle.bit_values.specs.declared.operator.Operator.TheVariants.{Mul, Add, Sub, Concat, Shl, Shr, BitAnd, BitXor, BitOr, Less, LessEq, More, MoreEq, Equal, Differ, Both, Either}
use Rattle.slot_terms.specs.declared.term.Term as code_term
use Rattle.slot_terms.specs.declared.term.Term.TheOpen.{Term-F, Word, Slot, Field, Valid, Not, Invert, Negate, Bin, Join, Choice, Cut}
use Rattle.slot_terms.specs.declared.term.Term.TheFolds.{fold-Term}

-- an expression over slots, without pointers
pub data Term : Type 0 where
  constant : (value : ℕ) → Term
  slot : (place : ℕ) → Term
  field : (place header : ℕ) → Term
  valid : (header : ℕ) → Term
  negation : (operand : Term) → Term
  inversion : (mask : ℕ) (operand : Term) → Term
  opposite : (mask : ℕ) (operand : Term) → Term
  binary : (op : Operator) (mask : ℕ) (left right : Term) → Term
  join : (low : ℕ) (left right : Term) → Term
  choice : (test where_it_holds elsewhere : Term) → Term
  cut : (low mask : ℕ) (operand : Term) → Term

-- one node
abbrev pub term_layer : Term-F Term → Term
term_layer (Word x) = constant x
term_layer (Slot i) = slot i
term_layer (Field i h) = field i h
term_layer (Valid h) = valid h
term_layer (Not a) = negation a.value
term_layer (Invert m a) = inversion m a.value
term_layer (Negate m a) = opposite m a.value
term_layer (Bin op m a b) = binary op m a.value b.value
term_layer (Join v a b) = join v a.value b.value
term_layer (Choice t a b) = choice t.value a.value b.value
term_layer (Cut low m a) = cut low m a.value

-- the same as the code has it
abbrev pub term_of : code_term.Term → Term
term_of = fold-Term Term term_layer

-- ---- numbers

-- the number in a slot; where there is no such slot it is 0
abbrev pub number_in : List ℕ → ℕ → ℕ
number_in slots i = get_or slots i 0

-- whether the header of a number is valid; where there is no such header it is not
abbrev pub valid_at : List Bool → ℕ → Bool
valid_at headers h = get_or headers h false

-- what a header's field reads: 0 while the header is not valid. P4_16 leaves this open
abbrev pub field_at : List ℕ → List Bool → (place header : ℕ) → ℕ
field_at slots headers i h = if valid_at headers h then number_in slots i else 0

-- a truth value as a number
abbrev pub truth_number : Bool → ℕ
truth_number b = if b then 1 else 0

-- the bits moved up, as far as 128 bits go
abbrev pub shifted_left : (x y : ℕ) → ℕ
shifted_left x y = if nat_lt y 128 then x * 2 ^ y % 2 ^ 128 else 0

-- the bits moved down
abbrev pub shifted_right : (x y : ℕ) → ℕ
shifted_right x y = if nat_lt y 128 then x / 2 ^ y else 0

-- a number, so many bits higher, and another one behind it
abbrev pub joined : (low x y : ℕ) → ℕ
joined v x y = if nat_lt v 128 then bit_or (x * 2 ^ v % 2 ^ 128) y else y

-- what an operator makes of two numbers of 128 bits, as far as the mask goes. A concatenation is no such node
abbrev pub combined : Operator → (mask x y : ℕ) → ℕ
combined Mul m x y = bit_and (x * y % 2 ^ 128) m
combined Add m x y = bit_and ((x + y) % 2 ^ 128) m
combined Sub m x y = bit_and ((x + (2 ^ 128 - y)) % 2 ^ 128) m
combined Concat m x y = y
combined Shl m x y = bit_and (shifted_left x y) m
combined Shr m x y = shifted_right x y
combined BitAnd m x y = bit_and x y
combined BitXor m x y = bit_xor x y
combined BitOr m x y = bit_or x y
combined Less m x y = truth_number (nat_lt x y)
combined LessEq m x y = truth_number (nat_le x y)
combined More m x y = truth_number (nat_lt y x)
combined MoreEq m x y = truth_number (nat_le y x)
combined Equal m x y = truth_number (nat_eq x y)
combined Differ m x y = truth_number (not (nat_eq x y))
combined Both m x y = truth_number (nat_eq x 1 && nat_eq y 1)
combined Either m x y = truth_number (nat_eq x 1 || nat_eq y 1)

-- the value of a term, where slots hold these numbers and these headers are valid
module _ (slots : List ℕ) (headers : List Bool) where
  abbrev pub eval : Term → ℕ
  eval (constant x) = x
  eval (slot i) = number_in slots i
  eval (field i h) = field_at slots headers i h
  eval (valid h) = truth_number (valid_at headers h)
  eval (negation a) = truth_number (not (nat_eq (eval a) 1))
  eval (inversion m a) = bit_and (2 ^ 128 - 1 - eval a) m
  eval (opposite m a) = bit_and ((0 + (2 ^ 128 - eval a)) % 2 ^ 128) m
  eval (binary op m a b) = combined op m (eval a) (eval b)
  eval (join v a b) = joined v (eval a) (eval b)
  eval (choice t a b) = if nat_eq (eval t) 1 then eval a else eval b
  eval (cut low m a) = bit_and (shifted_right (eval a) low) m
