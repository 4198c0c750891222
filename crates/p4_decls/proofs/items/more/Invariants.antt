use Rattle.std.proofs.Common.{◌+◌, ◌-◌, length, map}
use Rattle.lex_words.specs.declared.key.Key.TheVariants.{Comma}
use Rattle.lex_words.proofs.Turns.{MoreTurn}
use Rattle.p4_decls.specs.Repeating.{more_at}
use Rattle.p4_decls.proofs.items.more.Given as goal

abbrev pub invariant-items : goal.invariant-items
invariant-items g l =
    let ws = l.initial.tokens.lexemes in
    let n = length ws + 1 in
    MoreTurn ws g.I.Item.reader g.I.Item.view Comma (more_at ws (g.I.Item.reader ws n) n (g.I.Item.view l.fn.first) l.initial.tokens.at) l.initial.tokens.at (map g.I.Item.view l.items.items) l.tokens

abbrev pub decreases-items : goal.decreases-items
decreases-items g l = length l.initial.tokens.lexemes + 1 - l.tokens.at
