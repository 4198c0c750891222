use Rattle.std.proofs.Common.{◌≡◌, ℕ, ◌+◌, ◌-◌, ◌≤◌, length}
use Rattle.p4_tree.specs.View.{expr_of}
use Rattle.p4_expressions.specs.Reading.{IsLow}
use Rattle.p4_expressions.proofs.Turns.{Slices}
use Rattle.p4_expressions.proofs.operand.slices.Given as goal

abbrev pub invariant-turns : goal.invariant-turns
invariant-turns l =
    let ws = l.initial.tokens.lexemes in
    let n = length ws + 1 in
    record {
      goes_on : (k : ℕ) × (n ≤ k + l.tokens.at) × (Slices ws n l.height l.start n (expr_of l.fn.first.tree) l.initial.tokens.at ≡ Slices ws n l.height l.start k (expr_of l.left.tree) l.tokens.at);
      same : l.tokens.lexemes ≡ ws;
      onward : l.initial.tokens.at ≤ l.tokens.at;
      is_low : IsLow l.height l.left;
    }

abbrev pub decreases-turns : goal.decreases-turns
decreases-turns l = length l.initial.tokens.lexemes + 1 - l.tokens.at
