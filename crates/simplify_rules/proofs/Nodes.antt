-- The tree that each node of the program's own stands for.
use Rattle.std.proofs.Common.{◌≡◌, ℕ, sym, ap, ◌∙◌}
use Rattle.std.specs.Global.{Box}
use Rattle.p4_tree.specs.Tree.{Expr, negation, inversion, opposite, binary, conditional, slice, cast}
use Rattle.p4_tree.specs.View.{expr_layer, expr_of}
use Rattle.p4_tree.specs.declared.statement.Op.{Op}
use Rattle.p4_tree.specs.declared.statement.PTy.{PTy}
use Rattle.p4_tree.specs.declared.statement.Expr as code
use Rattle.p4_tree.specs.declared.statement.Expr.TheFolds.{fold-roll-Expr}
use Rattle.p4_tree.specs.declared.statement.Expr.TheVariants as v
use Rattle.p4_tree.specs.declared.statement.Expr.TheVariants.{rolls-Not, rolls-Invert, rolls-Negate, rolls-Bin, rolls-Choice, rolls-Slice, rolls-Cast}

pub negation_node : (p : ℕ) (a : Box code.Expr) → expr_of (v.Not p a) ≡ negation p (expr_of a.value)
negation_node p a = ap expr_of (sym (rolls-Not p a)) ∙ fold-roll-Expr Expr expr_layer _

pub inversion_node : (p : ℕ) (a : Box code.Expr) → expr_of (v.Invert p a) ≡ inversion p (expr_of a.value)
inversion_node p a = ap expr_of (sym (rolls-Invert p a)) ∙ fold-roll-Expr Expr expr_layer _

pub opposite_node : (p : ℕ) (a : Box code.Expr) → expr_of (v.Negate p a) ≡ opposite p (expr_of a.value)
opposite_node p a = ap expr_of (sym (rolls-Negate p a)) ∙ fold-roll-Expr Expr expr_layer _

pub binary_node : (p : ℕ) (op : Op) (a b : Box code.Expr) → expr_of (v.Bin p op a b) ≡ binary p op (expr_of a.value) (expr_of b.value)
binary_node p op a b = ap expr_of (sym (rolls-Bin p op a b)) ∙ fold-roll-Expr Expr expr_layer _

pub conditional_node : (p : ℕ) (t a b : Box code.Expr) → expr_of (v.Choice p t a b) ≡ conditional p (expr_of t.value) (expr_of a.value) (expr_of b.value)
conditional_node p t a b = ap expr_of (sym (rolls-Choice p t a b)) ∙ fold-roll-Expr Expr expr_layer _

pub slice_node : (p : ℕ) (a : Box code.Expr) (h l : ℕ) → expr_of (v.Slice p a h l) ≡ slice p (expr_of a.value) h l
slice_node p a h l = ap expr_of (sym (rolls-Slice p a h l)) ∙ fold-roll-Expr Expr expr_layer _

pub cast_node : (p : ℕ) (t : PTy) (a : Box code.Expr) → expr_of (v.Cast p t a) ≡ cast p t (expr_of a.value)
cast_node p t a = ap expr_of (sym (rolls-Cast p t a)) ∙ fold-roll-Expr Expr expr_layer _
