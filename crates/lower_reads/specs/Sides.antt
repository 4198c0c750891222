-- The two sides of operators that are compared.
use Rattle.std.specs.Prelude.{ℕ, Bool, false, ◌&&◌, nat_eq}
use Rattle.indus_tree.specs.Tree.{Expr, binary}
use Rattle.indus_tree.specs.declared.tree.Op.{Op}
use Rattle.lowered_code.specs.Same.{op_code, same_expr}

-- an operator of that place and kind, whose left side is the same
abbrev pub same_left : (at : ℕ) → Op → (left : Expr) → Expr → Bool
same_left p o a (binary q r c d) = nat_eq p q && (nat_eq (op_code o) (op_code r) && same_expr a c)
same_left p o a _ = false

-- one whose right side is the same
abbrev pub same_right : (right : Expr) → Expr → Bool
same_right b (binary q r c d) = same_expr b d
same_right b _ = false
