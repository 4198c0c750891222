-- Operators are the same where their sides are.
use Rattle.std.proofs.Common.{◌≡◌, ℕ, Bool, true, false, ◌&&◌, nat_eq, List, [], ◌∷◌, length, refl, rules}
use Rattle.indus_tree.specs.Tree.{Expr, num, flag, read, count, index, member, negation, inversion, binary, cast, none}
use Rattle.indus_tree.specs.View.{exprs_of}
use Rattle.indus_tree.specs.declared.tree.Expr as code
use Rattle.indus_tree.specs.declared.tree.Op.{Op}
use Rattle.lowered_code.specs.Same.{op_code, same_expr, same_exprs}
use Rattle.lower_reads.specs.Sides.{same_left, same_right}

regroup : (a b c d : Bool) → (a && (b && c)) && d ≡ a && (b && (c && d))
regroup true true c d = refl
regroup true false c d = refl
regroup false b c d = refl

pub both_sides : (p : ℕ) (o : Op) (a b f : Expr) → (same_left p o a f && same_right b f) ≡ same_expr (binary p o a b) f
both_sides p o a b (num q n) = refl
both_sides p o a b (flag q c) = refl
both_sides p o a b (read q x) = refl
both_sides p o a b (count q x) = refl
both_sides p o a b (index q x ks) = refl
both_sides p o a b (member q ks x) = refl
both_sides p o a b (negation q c) = refl
both_sides p o a b (inversion q c) = refl
both_sides p o a b (binary q r c d) = regroup (nat_eq p q) (nat_eq (op_code o) (op_code r)) (same_expr a c) (same_expr b d)
both_sides p o a b (cast q w c) = refl

-- an empty list is the same as an empty one alone
pub none_left : (fs : List code.Expr) → nat_eq (length fs) 0 ≡ same_exprs none (exprs_of fs)
none_left [] = refl
none_left (f ∷ fs) = search rules
