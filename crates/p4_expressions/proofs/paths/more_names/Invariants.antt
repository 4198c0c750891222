use Rattle.std.proofs.Common.{◌+◌, ◌-◌, length}
use Rattle.lex_words.specs.declared.key.Key.TheVariants.{Dot}
use Rattle.lex_words.proofs.Turns.{MoreTurn}
use Rattle.lex_words.specs.Reading.{named_at}
use Rattle.p4_expressions.specs.Reading.{more_names_at}
use Rattle.p4_expressions.proofs.paths.more_names.Given as goal

abbrev pub invariant-items : goal.invariant-items
invariant-items l =
    let ws = l.initial.tokens.lexemes in
    MoreTurn ws named_at (λ x. x) Dot (more_names_at ws (length ws + 1) l.fn.first l.initial.tokens.at) l.initial.tokens.at l.names.items l.tokens

abbrev pub decreases-items : goal.decreases-items
decreases-items l = length l.initial.tokens.lexemes + 1 - l.tokens.at
