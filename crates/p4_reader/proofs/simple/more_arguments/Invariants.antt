use Rattle.std.proofs.Common.{◌+◌, ◌-◌, length, map}
use Rattle.lex_words.specs.declared.key.Key.TheVariants.{Comma}
use Rattle.lex_words.proofs.Turns.{MoreTurn}
use Rattle.p4_tree.specs.View.{arg_of}
use Rattle.p4_reader.specs.Reading.{arg_at, args_from}
use Rattle.p4_reader.proofs.simple.more_arguments.Given as goal

abbrev pub invariant-items : goal.invariant-items
invariant-items l =
    let ws = l.initial.tokens.lexemes in
    MoreTurn ws (λ vs m. arg_at vs m 255 l.height) arg_of Comma (args_from ws (length ws + 1) 255 l.height (arg_of l.fn.first) l.initial.tokens.at) l.initial.tokens.at (map arg_of l.list.items) l.tokens

abbrev pub decreases-items : goal.decreases-items
decreases-items l = length l.initial.tokens.lexemes + 1 - l.tokens.at
