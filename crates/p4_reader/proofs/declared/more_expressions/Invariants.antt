use Rattle.std.proofs.Common.{◌+◌, ◌-◌, length, map}
use Rattle.lex_words.specs.declared.key.Key.TheVariants.{Comma}
use Rattle.lex_words.proofs.Turns.{MoreTurn}
use Rattle.p4_tree.specs.View.{expr_of}
use Rattle.p4_expressions.specs.Reading.{expr_at, tree_of}
use Rattle.p4_reader.specs.Declaring.{exprs_from}
use Rattle.p4_reader.proofs.declared.more_expressions.Given as goal

abbrev pub invariant-items : goal.invariant-items
invariant-items l =
    let ws = l.initial.tokens.lexemes in
    MoreTurn ws (λ vs m. expr_at vs m l.height l.brackets 11) tree_of Comma (exprs_from ws (length ws + 1) l.brackets l.height (expr_of l.fn.first) l.initial.tokens.at) l.initial.tokens.at (map expr_of l.list.items) l.tokens

abbrev pub decreases-items : goal.decreases-items
decreases-items l = length l.initial.tokens.lexemes + 1 - l.tokens.at
