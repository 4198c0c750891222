-- What an expression is, and what its place wants of it.
use Rattle.std.specs.Prelude.{ℕ, ◌+◌, ◌-◌, Bool, true, false, not, ◌&&◌, ◌||◌, nat_eq, nat_lt, if◌then◌else◌}
use Rattle.bit_values.specs.Operators.{Class, like, shift, joined, compare, logic}
use Rattle.p4_tree.specs.Operators.{class_of}
use Rattle.p4_tree.specs.declared.statement.Op.{Op}
use Rattle.p4_tree.specs.declared.statement.Op.TheVariants.{Equal, Differ}
use Rattle.p4_scopes.specs.declared.kind.Kind.{Kind}
use Rattle.p4_scopes.specs.declared.kind.Kind.TheVariants.{Number, Truth, Error, Unknown}

-- a number without a width, or anything
abbrev pub is_open : Kind → Bool
is_open (Number w) = nat_eq w 0
is_open Truth = false
is_open Error = false
is_open Unknown = true

-- the first, or the second where the first has no width
abbrev pub join : Kind → Kind → Kind
join a b = if is_open a then b else a

-- where a number is wanted: the number's width, or none
abbrev pub as_number : Kind → Kind
as_number (Number w) = Number w
as_number Truth = Number 0
as_number Error = Number 0
as_number Unknown = Number 0

-- where a number or a truth value is wanted, and no error of the parser
abbrev pub as_value : Kind → Kind
as_value (Number w) = Number w
as_value Truth = Truth
as_value Error = Unknown
as_value Unknown = Unknown

-- the width of a number, or 0
abbrev pub width_in : Kind → ℕ
width_in (Number w) = w
width_in Truth = 0
width_in Error = 0
width_in Unknown = 0

-- the bits of a value; a truth value is one bit
abbrev pub bits_in : Kind → ℕ
bits_in (Number w) = w
bits_in Truth = 1
bits_in Error = 0
bits_in Unknown = 0

-- a number stands where a truth value is wanted, or the other way round; an error stands only where one is wanted
abbrev pub kinds_differ : Kind → Kind → Bool
kinds_differ (Number v) (Number w) = false
kinds_differ (Number v) Truth = true
kinds_differ (Number v) Error = true
kinds_differ (Number v) Unknown = false
kinds_differ Truth (Number w) = true
kinds_differ Truth Truth = false
kinds_differ Truth Error = true
kinds_differ Truth Unknown = false
kinds_differ Error (Number w) = true
kinds_differ Error Truth = true
kinds_differ Error Error = false
kinds_differ Error Unknown = true
kinds_differ Unknown w = false

-- a number has another width than is wanted
abbrev pub widths_differ : Kind → Kind → Bool
widths_differ (Number v) (Number w) = not (nat_eq v 0) && not (nat_eq w 0) && not (nat_eq v w)
widths_differ _ _ = false

-- the width of a slice from the bit `high` down to `low`, or 0 where there is none
abbrev pub slice_width : (high low : ℕ) → ℕ
slice_width h l = if nat_lt h l || nat_lt 127 h then 0 else h - l + 1

-- the width of two numbers joined, or 0 where one has none or they are too wide
abbrev pub joined_width : ℕ → ℕ → ℕ
joined_width v w = if nat_eq v 0 || nat_eq w 0 || nat_lt 128 (v + w) then 0 else v + w

-- what an operator with operands of these kinds is
abbrev pub class_kind : Class → Kind → Kind → Kind
class_kind like a b = as_number (join a b)
class_kind shift a b = as_number a
class_kind joined a b = Number (joined_width (width_in a) (width_in b))
class_kind compare a b = Truth
class_kind logic a b = Truth

abbrev pub binary_kind : Op → Kind → Kind → Kind
binary_kind op = class_kind (class_of op)

-- what a choice between values of these kinds is
abbrev pub choice_kind : Kind → Kind → Kind
choice_kind a b = join (as_value a) (as_value b)

-- the operator takes two truth values, or two errors, as well as two numbers
abbrev pub takes_any : Op → Bool
takes_any Equal = true
takes_any Differ = true
takes_any _ = false

-- what is wanted of both operands of `+`, `&` and the like: the width of a number among them, and where none has one
-- that of the place of the whole; a truth value has no width
abbrev pub like_want : (a b want : Kind) → Kind
like_want a b want = as_number (join (join (as_number a) (as_number b)) want)

-- what is wanted of an operator's left operand, where the operands are of kinds a and b, and `want` is wanted of the
-- whole: a number takes its width from the other operand, and where that has none from the place of the whole
abbrev pub class_left : Class → (any : Bool) → (a b want : Kind) → Kind
class_left like any a b want = like_want a b want
class_left shift any a b want = as_number (join a want)
class_left joined any a b want = as_number a
class_left compare true a b want = join a b
class_left compare false a b want = as_number (join a b)
class_left logic any a b want = Truth

abbrev pub left_want : Op → (a b want : Kind) → Kind
left_want op = class_left (class_of op) (takes_any op)

-- the same of the right operand. That of a shift may have any width, and without one it has 128
abbrev pub class_right : Class → (any : Bool) → (a b want : Kind) → Kind
class_right like any a b want = like_want a b want
class_right shift any a b want = as_number (join b (Number 128))
class_right joined any a b want = as_number b
class_right compare true a b want = join a b
class_right compare false a b want = as_number (join a b)
class_right logic any a b want = Truth

abbrev pub right_want : Op → (a b want : Kind) → Kind
right_want op = class_right (class_of op) (takes_any op)

-- what is wanted of both values of a choice, where `want` is wanted of the whole
abbrev pub choice_want : (a b want : Kind) → Kind
choice_want a b want = join (choice_kind a b) (as_value want)

-- what is wanted of an index: a number of any width, and without one it has 128
abbrev pub index_want : Kind → Kind
index_want k = as_number (join k (Number 128))
