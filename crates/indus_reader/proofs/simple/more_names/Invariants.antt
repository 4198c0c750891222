use Rattle.std.proofs.Common.{◌+◌, ◌-◌, length}
use Rattle.lex_words.specs.declared.key.Key.TheVariants.{Comma}
use Rattle.lex_words.proofs.Turns.{MoreTurn}
use Rattle.lex_words.specs.Reading.{named_at}
use Rattle.indus_reader.specs.Reading.{more_names_at}
use Rattle.indus_reader.proofs.simple.more_names.Given as goal

abbrev pub invariant-items : goal.invariant-items
invariant-items l =
    let ws = l.initial.tokens.lexemes in
    MoreTurn ws named_at (λ x. x) Comma (more_names_at ws (length ws + 1) 256 l.fn.names.items l.initial.tokens.at) l.initial.tokens.at l.names.items l.tokens

abbrev pub decreases-items : goal.decreases-items
decreases-items l = length l.initial.tokens.lexemes + 1 - l.tokens.at
