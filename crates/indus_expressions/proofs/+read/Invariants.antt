use Rattle.std.proofs.Common.{◌≡◌, ℕ, ◌+◌, ◌-◌, ◌*◌, ◌≤◌, length, map}
use Rattle.lex_words.specs.declared.key.Key.TheVariants.{Comma}
use Rattle.lex_words.proofs.Turns.{MoreTurn}
use Rattle.indus_tree.specs.Height.{exprs_height}
use Rattle.indus_tree.specs.View.{expr_of, exprs_of}
use Rattle.indus_expressions.specs.Reading.{IsLow, expr_at, rest_of, tree_of}
use Rattle.indus_expressions.proofs.Turns.{Chain, item_at}
use Rattle.indus_expressions.proofs.+read.Given as goal

abbrev pub decreases-operand::variable : goal.decreases-operand::variable
decreases-operand::variable l = (l.height + l.brackets) * 50 + 1

abbrev pub decreases-operand::opened : goal.decreases-operand::opened
decreases-operand::opened l = (l.height + l.brackets) * 50 + 1

abbrev pub decreases-chain::chain : goal.decreases-chain::chain
decreases-chain::chain l = (l.height + l.brackets) * 50 + 1

abbrev pub decreases-chain::tuple : goal.decreases-chain::tuple
decreases-chain::tuple l = (l.height + l.brackets) * 50 + 1

abbrev pub decreases-operand::leaf : goal.decreases-operand::leaf
decreases-operand::leaf l = (l.height + l.brackets) * 50 + 2

abbrev pub decreases-operand::operand : goal.decreases-operand::operand
decreases-operand::operand l = (l.height + l.brackets) * 50 + 3

abbrev pub decreases-chain::climb : goal.decreases-chain::climb
decreases-chain::climb l = (l.height + l.brackets) * 50 + l.level + 2

abbrev pub decreases-chain::group : goal.decreases-chain::group
decreases-chain::group l = (l.height + l.brackets) * 50 + 9

abbrev pub decreases-chain::expr : goal.decreases-chain::expr
decreases-chain::expr l = (l.height + l.brackets) * 50 + 2 * l.level + 10

abbrev pub decreases-chain::head : goal.decreases-chain::head
decreases-chain::head l = (l.height + l.brackets) * 50 + 23

abbrev pub decreases-chain::others : goal.decreases-chain::others
decreases-chain::others l = (l.height + l.brackets) * 50 + 35

abbrev pub decreases-chain::list_of : goal.decreases-chain::list_of
decreases-chain::list_of l = (l.height + l.brackets) * 50 + 36

abbrev pub decreases-operand::index : goal.decreases-operand::index
decreases-operand::index l = (l.height + l.brackets) * 50 + 40

abbrev pub decreases-operand::negation : goal.decreases-operand::negation
decreases-operand::negation l = (l.height + l.brackets) * 50 + 40

abbrev pub decreases-operand::inversion : goal.decreases-operand::inversion
decreases-operand::inversion l = (l.height + l.brackets) * 50 + 40

abbrev pub decreases-operand::cast : goal.decreases-operand::cast
decreases-operand::cast l = (l.height + l.brackets) * 50 + 40

abbrev pub decreases-operand::bracket : goal.decreases-operand::bracket
decreases-operand::bracket l = (l.height + l.brackets) * 50 + 40

abbrev pub decreases-chain::listed : goal.decreases-chain::listed
decreases-chain::listed l = (l.height + l.brackets) * 50 + 40

abbrev pub decreases-chain::right : goal.decreases-chain::right
decreases-chain::right l = (l.height + l.brackets) * 50 + 40

abbrev pub invariant-chain::chain-turns : goal.invariant-chain::chain-turns
invariant-chain::chain-turns l =
    let ws = l.initial.tokens.lexemes in
    let n = length ws + 1 in
    record {
      goes_on : (k : ℕ) × (n ≤ k + l.tokens.at) × (Chain ws n l.height l.brackets l.level l.start n (expr_of l.fn.first.tree) l.initial.tokens.at ≡ Chain ws n l.height l.brackets l.level l.start k (expr_of l.left.tree) l.tokens.at);
      same : l.tokens.lexemes ≡ ws;
      onward : l.initial.tokens.at ≤ l.tokens.at;
      is_low : IsLow l.height l.left;
    }

abbrev pub decreases-chain::chain-turns : goal.decreases-chain::chain-turns
decreases-chain::chain-turns l = length l.initial.tokens.lexemes + 1 - l.tokens.at

abbrev pub invariant-chain::others-items : goal.invariant-chain::others-items
invariant-chain::others-items l =
    let ws = l.initial.tokens.lexemes in
    let n = length ws + 1 in
    record {
      turn : MoreTurn ws (item_at l.height l.brackets) tree_of Comma (rest_of ws n (expr_at ws n l.height l.brackets) (expr_of l.fn.first.tree) l.initial.tokens.at) l.initial.tokens.at (map expr_of l.trees.items) l.tokens;
      tall : l.tall ≡ exprs_height (exprs_of l.trees.items);
      low : l.tall ≤ l.height;
    }

abbrev pub decreases-chain::others-items : goal.decreases-chain::others-items
decreases-chain::others-items l = length l.initial.tokens.lexemes + 1 - l.tokens.at
