use Rattle.std.proofs.Common.{◌≡◌, ℕ, ◌+◌, ◌-◌, ◌*◌, ◌≤◌, length}
use Rattle.p4_tree.specs.View.{expr_of}
use Rattle.p4_expressions.specs.Reading.{IsLow}
use Rattle.p4_expressions.proofs.Turns.{Chain}
use Rattle.p4_expressions.proofs.+read.Given as goal

abbrev pub decreases-chain::chain : goal.decreases-chain::chain
decreases-chain::chain l = (l.height + l.brackets) * 50 + 1

abbrev pub decreases-chain::conditional : goal.decreases-chain::conditional
decreases-chain::conditional l = (l.height + l.brackets) * 50 + 1

abbrev pub decreases-chain::behind : goal.decreases-chain::behind
decreases-chain::behind l = (l.height + l.brackets) * 50 + 2

abbrev pub decreases-operand::opened : goal.decreases-operand::opened
decreases-operand::opened l = (l.height + l.brackets) * 50 + 2

abbrev pub decreases-operand::operand : goal.decreases-operand::operand
decreases-operand::operand l = (l.height + l.brackets) * 50 + 3

abbrev pub decreases-chain::expr : goal.decreases-chain::expr
decreases-chain::expr l = (l.height + l.brackets) * 50 + 2 * l.level + 10

abbrev pub decreases-operand::negation : goal.decreases-operand::negation
decreases-operand::negation l = (l.height + l.brackets) * 50 + 40

abbrev pub decreases-operand::inversion : goal.decreases-operand::inversion
decreases-operand::inversion l = (l.height + l.brackets) * 50 + 40

abbrev pub decreases-operand::opposite : goal.decreases-operand::opposite
decreases-operand::opposite l = (l.height + l.brackets) * 50 + 40

abbrev pub decreases-operand::cast : goal.decreases-operand::cast
decreases-operand::cast l = (l.height + l.brackets) * 50 + 40

abbrev pub decreases-operand::bracket : goal.decreases-operand::bracket
decreases-operand::bracket l = (l.height + l.brackets) * 50 + 40

abbrev pub decreases-chain::right : goal.decreases-chain::right
decreases-chain::right l = (l.height + l.brackets) * 50 + 40

abbrev pub decreases-chain::branches : goal.decreases-chain::branches
decreases-chain::branches l = (l.height + l.brackets) * 50 + 40

abbrev pub invariant-chain::chain-turns : goal.invariant-chain::chain-turns
invariant-chain::chain-turns l =
    let ws = l.initial.tokens.lexemes in
    let n = length ws + 1 in
    record {
      goes_on : (k : ℕ) × (n ≤ k + l.tokens.at) × (Chain ws n l.height l.brackets l.level l.start n (expr_of l.fn.first.tree) l.initial.tokens.at ≡ Chain ws n l.height l.brackets l.level l.start k (expr_of l.left.tree) l.tokens.at);
      same : l.tokens.lexemes ≡ ws;
      onward : l.initial.tokens.at ≤ l.tokens.at;
      is_low : IsLow l.height l.left;
    }

abbrev pub decreases-chain::chain-turns : goal.decreases-chain::chain-turns
decreases-chain::chain-turns l = length l.initial.tokens.lexemes + 1 - l.tokens.at
