use Rattle.std.proofs.Common.{◌≡◌, ℕ, List, refl, ap, ap₂}
use Rattle.std.specs.Option.{option_map}
use Rattle.p4_tree.specs.Tree.{local_action, local_table, local_var}
use Rattle.p4_tree.specs.View.{action_of, expr_of, local_of, table_of}
use Rattle.p4_tree.specs.declared.statement.PTy.{PTy}
use Rattle.rewritten_programs.specs.Rewritten.{in_action, in_table, in_local_var}
use Rattle.simplify_rules.specs.Simplified.{IsSimplified}
use Rattle.simplify_trees.proofs.Built.{local_built, register_copied, const_copied}
use Rattle.simplify_trees.proofs.declarations.local.Goals as goal

pub returns-in_ok-action-in-Act : goal.returns-in_ok-action-in-Act
returns-in_ok-action-in-Act g c =
    local_built (IsSimplified (g.R.Offers.Answers c.args.rules.now)) _ (local_action c.in-Act.at (action_of c.in-Act.a)) (local_action c.in-Act.at (action_of c.in_ok-action-in-Act.field-0)) _ (ap local_of c.in-Act.is) refl
    (in_action _ c.in_ok-action-in-Act.ensures)

pub returns-in_ok-table-in-Tab : goal.returns-in_ok-table-in-Tab
returns-in_ok-table-in-Tab g c =
    local_built (IsSimplified (g.R.Offers.Answers c.args.rules.now)) _ (local_table c.in-Tab.at (table_of c.in-Tab.t)) (local_table c.in-Tab.at (table_of c.in_ok-table-in-Tab.field-0)) _ (ap local_of c.in-Tab.is) refl
    (in_table _ c.in_ok-table-in-Tab.ensures)

pub returns-in_ok-start-in-Var : goal.returns-in_ok-start-in-Var
returns-in_ok-start-in-Var g c =
    local_built (IsSimplified (g.R.Offers.Answers c.args.rules.now)) _ (local_var c.in-Var.at c.in-Var.ty c.in-Var.name (option_map expr_of c.in-Var.e)) (local_var c.in-Var.at c.in-Var.ty c.in-Var.name (option_map expr_of c.in_ok-start-in-Var.field-0)) _
    (ap local_of c.in-Var.is)
    (ap₂ (λ (y : PTy) (x : List ℕ). local_var c.in-Var.at y x (option_map expr_of c.in_ok-start-in-Var.field-0)) c.in_ok-ty-in-Var.ensures c.in_ok-name-in-Var.ensures)
    (in_local_var _ _ _ c.in_ok-start-in-Var.ensures)

pub returns-in-Reg : goal.returns-in-Reg
returns-in-Reg g c = register_copied (IsSimplified (g.R.Offers.Answers c.args.rules.now)) (local_of c.args.l.now) _ _ (ap local_of c.in-Reg.is) c.copy-in-Reg.result c.copy-in-Reg.ensures

pub returns-in-Const : goal.returns-in-Const
returns-in-Const g c = const_copied (IsSimplified (g.R.Offers.Answers c.args.rules.now)) (local_of c.args.l.now) _ _ _ _ (ap local_of c.in-Const.is) c.copy-in-Const.result c.copy-in-Const.ensures
