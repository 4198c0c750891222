use Rattle.std.proofs.Common.{◌≡◌, ◌+◌, ◌-◌, ◌*◌, ◌≤◌, length, map}
use Rattle.lex_words.proofs.Turns.{Turn}
use Rattle.indus_tree.specs.Tree.{block_from}
use Rattle.indus_tree.specs.View.{stmt_of}
use Rattle.indus_spelling.specs.Properties.{block_reports}
use Rattle.indus_reader.specs.Reading.{many_at, stmt_at}
use Rattle.indus_reader.proofs.stmt.+stmt.Given as goal

abbrev pub decreases-ifs : goal.decreases-ifs
decreases-ifs l = l.height * 10

abbrev pub decreases-statement : goal.decreases-statement
decreases-statement l = l.height * 10 + 1

abbrev pub decreases-statements : goal.decreases-statements
decreases-statements l = l.height * 10 + 2

abbrev pub decreases-block : goal.decreases-block
decreases-block l = l.height * 10 + 3

abbrev pub decreases-walk : goal.decreases-walk
decreases-walk l = l.height * 10 + 4

abbrev pub decreases-else_part : goal.decreases-else_part
decreases-else_part l = l.height * 10 + 4

abbrev pub decreases-choice : goal.decreases-choice
decreases-choice l = l.height * 10 + 5

abbrev pub invariant-statements-items : goal.invariant-statements-items
invariant-statements-items l =
    let ws = l.initial.tokens.lexemes in
    let n = length ws + 1 in
    let s = stmt_at ws n 256 l.height in
    record {
      turn : Turn ws (λ k i. many_at ws n 256 s k l.number i) (many_at ws n 256 s n l.reports l.initial.tokens.at) l.initial.tokens.at (map stmt_of l.stmts.items) l.tokens;
      counted : l.number ≡ l.reports + block_reports (block_from (map stmt_of l.stmts.items));
      few : l.number ≤ l.tokens.at;
    }

abbrev pub decreases-statements-items : goal.decreases-statements-items
decreases-statements-items l = length l.initial.tokens.lexemes + 1 - l.tokens.at
