use Rattle.std.proofs.Common.{◌+◌, ◌-◌, length}
use Rattle.lex_words.specs.declared.key.Key.TheVariants.{Comma}
use Rattle.lex_words.proofs.Turns.{MoreTurn}
use Rattle.indus_reader.specs.Declaring.{type_at, others_at}
use Rattle.indus_reader.proofs.types.other_types.Given as goal

abbrev pub invariant-items : goal.invariant-items
invariant-items l =
    let ws = l.initial.tokens.lexemes in
    MoreTurn ws type_at (λ x. x) Comma (others_at ws (length ws + 1) l.fn.types.items l.initial.tokens.at) l.initial.tokens.at l.types.items l.tokens

abbrev pub decreases-items : goal.decreases-items
decreases-items l = length l.initial.tokens.lexemes + 1 - l.tokens.at
