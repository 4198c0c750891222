-- What an expression is, and what its place wants of it.
use Rattle.std.specs.Prelude.{ℕ, ◌+◌, Bool, true, false, not, ◌&&◌, nat_eq, min, if◌then◌else◌}
use Rattle.bit_values.specs.Operators.{Class, like, shift, joined, compare, logic}
use Rattle.indus_tree.specs.Operators.{class_of}
use Rattle.indus_tree.specs.declared.tree.Ty.{Ty}
use Rattle.indus_tree.specs.declared.tree.Ty.TheVariants as ty
use Rattle.indus_tree.specs.declared.tree.Op.{Op}
use Rattle.indus_tree.specs.declared.tree.Op.TheVariants.{Equal, Differ}
use Rattle.indus_scopes.specs.declared.kind.Kind.{Kind}
use Rattle.indus_scopes.specs.declared.kind.Kind.TheVariants.{Number, Truth, Unknown}

-- a value of a type
abbrev pub kind_of : Ty → Kind
kind_of (ty.Bit w) = Number w
kind_of ty.Bool = Truth

-- a number without a width, or anything
abbrev pub is_open : Kind → Bool
is_open (Number w) = nat_eq w 0
is_open Truth = false
is_open Unknown = true

-- the first, or the second where the first has no width
abbrev pub join : Kind → Kind → Kind
join a b = if is_open a then b else a

-- where a number is wanted: the number's width, or none
abbrev pub as_number : Kind → Kind
as_number (Number w) = Number w
as_number Truth = Number 0
as_number Unknown = Number 0

-- the width of a number, or 0
abbrev pub width_in : Kind → ℕ
width_in (Number w) = w
width_in Truth = 0
width_in Unknown = 0

-- a number stands where a truth value is wanted, or a truth value where a number is
abbrev pub kinds_differ : Kind → Kind → Bool
kinds_differ (Number w) Truth = true
kinds_differ Truth (Number w) = true
kinds_differ _ _ = false

-- a number has another width than is wanted
abbrev pub widths_differ : Kind → Kind → Bool
widths_differ (Number v) (Number w) = not (nat_eq v 0) && not (nat_eq w 0) && not (nat_eq v w)
widths_differ _ _ = false

-- what an operator with operands of these kinds is
abbrev pub class_kind : Class → Kind → Kind → Kind
class_kind like a b = as_number (join a b)
class_kind shift a b = as_number a
class_kind joined a b = Number (min 128 (width_in a + width_in b))
class_kind compare a b = Truth
class_kind logic a b = Truth

abbrev pub binary_kind : Op → Kind → Kind → Kind
binary_kind op = class_kind (class_of op)

-- the operator takes two truth values as well as two numbers
abbrev pub takes_either : Op → Bool
takes_either Equal = true
takes_either Differ = true
takes_either _ = false

-- what is wanted of both operands of `+`, `&` and the like: the width of a number among them, and where none has one
-- that of the place of the whole; a truth value has no width
abbrev pub like_want : (a b want : Kind) → Kind
like_want a b want = as_number (join (join (as_number a) (as_number b)) want)

-- what is wanted of an operator's left operand, where the operands are of kinds a and b, and `want` is wanted of the
-- whole: a number takes its width from the other operand, and where that has none from the place of the whole
abbrev pub class_left : Class → (either : Bool) → (a b want : Kind) → Kind
class_left like either a b want = like_want a b want
class_left shift either a b want = as_number (join a want)
class_left joined either a b want = as_number a
class_left compare true a b want = join a b
class_left compare false a b want = as_number (join a b)
class_left logic either a b want = Truth

abbrev pub left_want : Op → (a b want : Kind) → Kind
left_want op = class_left (class_of op) (takes_either op)

-- the same of the right operand. That of a shift may have any width, and without one it has 128
abbrev pub class_right : Class → (either : Bool) → (a b want : Kind) → Kind
class_right like either a b want = like_want a b want
class_right shift either a b want = as_number (join b (Number 128))
class_right joined either a b want = as_number b
class_right compare true a b want = join a b
class_right compare false a b want = as_number (join a b)
class_right logic either a b want = Truth

abbrev pub right_want : Op → (a b want : Kind) → Kind
right_want op = class_right (class_of op) (takes_either op)
