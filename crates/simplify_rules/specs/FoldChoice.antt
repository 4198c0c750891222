-- The rule `fold_choice`: a choice whose test is a truth value, and `&&` and `||` whose left operand is one, become the
-- operand that is taken, where that has a width or a kind of its own. Read `Known` before it, and `OwnWidths` of
-- `rewriting_laws`.
use Rattle.std.specs.Prelude.{true, false, Option, Some, None, if◌then◌else◌}
use Rattle.p4_tree.specs.Tree.{Expr, binary, conditional}
use Rattle.p4_tree.specs.declared.statement.Op.{Op}
use Rattle.p4_tree.specs.declared.statement.Op.TheVariants.{Both, Either}
use Rattle.rewriting_laws.specs.OwnWidths.{has_own}
use Rattle.simplify_rules.specs.declared.operand.Known.{Known}
use Rattle.simplify_rules.specs.declared.operand.Known.TheVariants.{Truth}
use Rattle.simplify_rules.specs.Known.{known_in}

abbrev pub taken : Expr → Option Expr
taken e = if has_own e then Some e else None

abbrev pub chosen : (test : Known) → (where_it_holds elsewhere : Expr) → Option Expr
chosen (Truth v) a b = taken (if v then a else b)
chosen _ a b = None

abbrev pub logic_folded : (said : Known) → Op → (left right : Expr) → Option Expr
logic_folded (Truth true) Both a b = taken b
logic_folded (Truth false) Both a b = taken a
logic_folded (Truth true) Either a b = taken a
logic_folded (Truth false) Either a b = taken b
logic_folded _ _ a b = None

abbrev pub fold_choice : Expr → Option Expr
fold_choice (conditional p t a b) = chosen (known_in t) a b
fold_choice (binary p op a b) = logic_folded (known_in a) op a b
fold_choice _ = None
