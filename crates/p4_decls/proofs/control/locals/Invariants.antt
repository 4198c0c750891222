use Rattle.std.proofs.Common.{◌≡◌, ℕ, ◌+◌, ◌-◌, ◌≤◌, length, map, []}
use Rattle.p4_tree.specs.View.{local_of}
use Rattle.p4_decls.specs.Controls.{locals_at}
use Rattle.p4_decls.proofs.control.locals.Given as goal

abbrev pub invariant-items : goal.invariant-items
invariant-items l =
    let ws = l.initial.tokens.lexemes in
    let n = length ws + 1 in
    record {
      goes_on : (k : ℕ) × (n ≤ k + l.tokens.at) × (locals_at ws n 256 253 n [] l.initial.tokens.at ≡ locals_at ws n 256 253 k (map local_of l.locals.items) l.tokens.at);
      inside : l.tokens.at ≤ length ws;
      same : l.tokens.lexemes ≡ ws;
      onward : l.initial.tokens.at ≤ l.tokens.at;
    }

abbrev pub decreases-items : goal.decreases-items
decreases-items l = length l.initial.tokens.lexemes + 1 - l.tokens.at
