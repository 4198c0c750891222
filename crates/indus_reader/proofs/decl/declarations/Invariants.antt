use Rattle.std.proofs.Common.{◌≡◌, ℕ, ◌+◌, ◌-◌, ◌≤◌, length, map, []}
use Rattle.indus_tree.specs.View.{decl_of}
use Rattle.indus_reader.specs.Declaring.{decls_at}
use Rattle.indus_reader.proofs.decl.declarations.Given as goal

abbrev pub invariant-items : goal.invariant-items
invariant-items l =
    let ws = l.initial.tokens.lexemes in
    let n = length ws + 1 in
    record {
      goes_on : (k : ℕ) × (n ≤ k + l.tokens.at) × (decls_at ws n n [] l.initial.tokens.at ≡ decls_at ws n k (map decl_of l.decls.items) l.tokens.at);
      same : l.tokens.lexemes ≡ ws;
      onward : l.initial.tokens.at ≤ l.tokens.at;
    }

abbrev pub decreases-items : goal.decreases-items
decreases-items l = length l.initial.tokens.lexemes + 1 - l.tokens.at
