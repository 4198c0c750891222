use Rattle.std.proofs.Common.{◌≡◌, ℕ, ◌+◌, ◌-◌, ◌≤◌, length}
use Rattle.p4_decls.specs.Programs.{includes_at}
use Rattle.p4_decls.proofs.program.inclusions.Given as goal

abbrev pub invariant-items : goal.invariant-items
invariant-items l =
    let ws = l.initial.tokens.lexemes in
    let n = length ws + 1 in
    record {
      goes_on : (k : ℕ) × (n ≤ k + l.tokens.at) × (includes_at ws n 256 255 n l.initial.tokens.at ≡ includes_at ws n 256 255 k l.tokens.at);
      same : l.tokens.lexemes ≡ ws;
      onward : l.initial.tokens.at ≤ l.tokens.at;
    }

abbrev pub decreases-items : goal.decreases-items
decreases-items l = length l.initial.tokens.lexemes + 1 - l.tokens.at
