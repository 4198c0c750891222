-- What an expression says by itself. Read `FoldNumbers`, `FoldChoice` and `DropNeutral` after it.
use Rattle.p4_tree.specs.Tree.{Expr, num, flag}
use Rattle.simplify_rules.specs.declared.operand.Known.{Known}
use Rattle.simplify_rules.specs.declared.operand.Known.TheVariants.{Number, Truth, Nothing}

abbrev pub known_in : Expr → Known
known_in (num p n) = Number n
known_in (flag p b) = Truth b
known_in _ = Nothing
