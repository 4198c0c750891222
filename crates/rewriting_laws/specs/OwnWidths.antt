-- Expressions with a width or a kind of their own, which their place need not give. The form tells it: what a path
-- stands for is declared with one. Read `Standing` after it.
use Rattle.std.specs.Prelude.{Bool, true, not, ◌||◌, nat_eq}
use Rattle.bit_values.specs.Operators.{Class, like, shift, joined, compare, logic}
use Rattle.p4_tree.specs.Operators.{class_of}
use Rattle.p4_tree.specs.Tree.{Expr, num, flag, path, valid, applied, error_name, negation, inversion, opposite, binary, conditional, slice, cast}

-- what an operator makes of operands that have one or none
abbrev pub class_has_own : Class → (left right : Bool) → Bool
class_has_own like a b = a || b
class_has_own shift a b = a
class_has_own joined a b = true
class_has_own compare a b = true
class_has_own logic a b = true

abbrev pub has_own : Expr → Bool
has_own (num p n) = not (nat_eq n.width 0)
has_own (flag p b) = true
has_own (path p x) = true
has_own (valid p x) = true
has_own (applied p t h) = true
has_own (error_name p x) = true
has_own (negation p a) = true
has_own (inversion p a) = has_own a
has_own (opposite p a) = has_own a
has_own (binary p op a b) = class_has_own (class_of op) (has_own a) (has_own b)
has_own (conditional p c a b) = has_own a || has_own b
has_own (slice p a h l) = true
has_own (cast p t a) = true
