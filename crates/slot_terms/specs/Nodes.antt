-- What the node of a term makes of its operands. Read `Typed` before it.
use Rattle.std.specs.Prelude.{◌≡◌, ℕ, List, Bool, if◌then◌else◌}
use Rattle.bit_values.specs.Bits.{Word}
use Rattle.bit_values.specs.Widths.{holds}
use Rattle.bit_values.specs.Operators.{Class, like, shift, joined, compare, logic, class_of}
use Rattle.bit_values.specs.declared.operator.Operator.{Operator}
use Rattle.slot_terms.specs.Typed.{Typed, Gives}

-- a term gives what a function makes of what another one gives
abbrev pub Makes : Typed → Typed → (Word → Word) → Type 0
Makes t a f = (slots : List ℕ) (headers : List Bool) (x : Word) → Gives a slots headers x → Gives t slots headers (f x)

-- of what two others give
abbrev pub MakesTwo : Typed → Typed → Typed → (Word → Word → Word) → Type 0
MakesTwo t a b f = (slots : List ℕ) (headers : List Bool) (x y : Word) → Gives a slots headers x → Gives b slots headers y → Gives t slots headers (f x y)

-- what one of two others gives, by a test
abbrev pub MakesChoice : Typed → Typed → Typed → Typed → Type 0
MakesChoice t test a b =
    (slots : List ℕ) (headers : List Bool) (z x y : Word) → Gives test slots headers z → Gives a slots headers x → Gives b slots headers y
    → Gives t slots headers (if holds z then x else y)

-- two operands have one width, where operators of a class want that
abbrev pub AreAlikeWidths : Class → (v u : ℕ) → Type 0
AreAlikeWidths like v u = v ≡ u
AreAlikeWidths shift v u = Unit {0}
AreAlikeWidths joined v u = Unit {0}
AreAlikeWidths compare v u = Unit {0}
AreAlikeWidths logic v u = Unit {0}

-- the width of what operators of a class make of operands, the left one of which has this width; of a concatenation more
abbrev pub width_in : Class → ℕ → ℕ
width_in like v = v
width_in shift v = v
width_in joined v = v
width_in compare v = 1
width_in logic v = 1

-- the same of an operator, which is no concatenation
abbrev pub width_behind : Operator → ℕ → ℕ
width_behind op v = width_in (class_of op) v
