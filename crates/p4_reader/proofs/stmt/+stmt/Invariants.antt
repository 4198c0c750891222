use Rattle.std.proofs.Common.{◌+◌, ◌-◌, ◌*◌, length, map}
use Rattle.lex_words.specs.declared.key.Key.TheVariants.{BraceClose}
use Rattle.lex_words.specs.Reading.{until}
use Rattle.lex_words.proofs.Turns.{UntilTurn}
use Rattle.p4_tree.specs.View.{stmt_of}
use Rattle.p4_reader.specs.Reading.{item_at}
use Rattle.p4_reader.proofs.stmt.+stmt.Given as goal

abbrev pub decreases-statement : goal.decreases-statement
decreases-statement l = l.height * 10

abbrev pub decreases-item : goal.decreases-item
decreases-item l = l.height * 10 + 1

abbrev pub decreases-items : goal.decreases-items
decreases-items l = l.height * 10 + 2

abbrev pub decreases-block : goal.decreases-block
decreases-block l = l.height * 10 + 3

abbrev pub decreases-nested : goal.decreases-nested
decreases-nested l = l.height * 10 + 4

abbrev pub decreases-else_part : goal.decreases-else_part
decreases-else_part l = l.height * 10 + 4

abbrev pub decreases-test : goal.decreases-test
decreases-test l = l.height * 10 + 5

abbrev pub invariant-items-turns : goal.invariant-items-turns
invariant-items-turns l =
    let ws = l.initial.tokens.lexemes in
    let n = length ws + 1 in
    UntilTurn ws (λ vs m. item_at vs m 256 l.height) stmt_of BraceClose (until ws BraceClose (item_at ws n 256 l.height) n l.initial.tokens.at) l.initial.tokens.at (map stmt_of l.list.items) l.tokens

abbrev pub decreases-items-turns : goal.decreases-items-turns
decreases-items-turns l = length l.initial.tokens.lexemes + 1 - l.tokens.at
