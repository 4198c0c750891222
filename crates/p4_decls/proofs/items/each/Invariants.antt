use Rattle.std.proofs.Common.{◌+◌, ◌-◌, length, map}
use Rattle.p4_decls.specs.Repeating.{each_at}
use Rattle.p4_decls.proofs.Turns.{EachTurn}
use Rattle.p4_decls.proofs.items.each.Given as goal

abbrev pub invariant-items : goal.invariant-items
invariant-items g l =
    let ws = l.initial.tokens.lexemes in
    let n = length ws + 1 in
    EachTurn ws g.I.Item.reader g.I.Item.view g.I.Items.stop (each_at ws g.I.Items.stop (g.I.Item.reader ws n) n l.initial.tokens.at) l.initial.tokens.at (map g.I.Item.view l.items.items) l.tokens

abbrev pub decreases-items : goal.decreases-items
decreases-items g l = length l.initial.tokens.lexemes + 1 - l.tokens.at
