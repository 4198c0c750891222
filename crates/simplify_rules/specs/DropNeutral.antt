-- The rule `drop_neutral`: an operand beside a number that changes nothing takes the place of both, where it has a width
-- of its own. Read `Known` before it, and `OwnWidths` of `rewriting_laws`.
use Rattle.std.specs.Prelude.{ℕ, Bool, false, ◌&&◌, nat_eq, Option, Some, None, if◌then◌else◌}
use Rattle.p4_tree.specs.Tree.{Expr, binary}
use Rattle.p4_tree.specs.declared.statement.Op.{Op}
use Rattle.p4_tree.specs.declared.statement.Op.TheVariants.{Mul, Add, Sub, Shl, Shr, BitXor, BitOr}
use Rattle.rewriting_laws.specs.OwnWidths.{has_own}
use Rattle.simplify_rules.specs.declared.operand.Known.{Known}
use Rattle.simplify_rules.specs.declared.operand.Known.TheVariants.{Number}
use Rattle.simplify_rules.specs.Known.{known_in}

-- the number that changes nothing at the right of an operator
abbrev pub right_neutral : Op → Option ℕ
right_neutral Add = Some 0
right_neutral Sub = Some 0
right_neutral BitOr = Some 0
right_neutral BitXor = Some 0
right_neutral Shl = Some 0
right_neutral Shr = Some 0
right_neutral Mul = Some 1
right_neutral _ = None

-- and at its left
abbrev pub left_neutral : Op → Option ℕ
left_neutral Add = Some 0
left_neutral BitOr = Some 0
left_neutral BitXor = Some 0
left_neutral Mul = Some 1
left_neutral _ = None

-- an operand is that number, with or without a written width
abbrev pub is_neutral : Option ℕ → Known → Bool
is_neutral (Some v) (Number n) = nat_eq n.value v
is_neutral _ _ = false

-- the operand that stays
abbrev pub kept : Op → (left right : Expr) → Option Expr
kept op a b =
    if is_neutral (right_neutral op) (known_in b) && has_own a then Some a else
    if is_neutral (left_neutral op) (known_in a) && has_own b then Some b else None

abbrev pub drop_neutral : Expr → Option Expr
drop_neutral (binary p op a b) = kept op a b
drop_neutral _ = None
