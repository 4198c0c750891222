use Rattle.std.proofs.Common.{◌≡◌, [], ◌++◌, drop, sym, ap, ◌∙◌, append-nil, arith}
use Rattle.std.proofs.Math.ListN.{drop_of_length-le}
use Rattle.table_entries.specs.Signs.{wanted}
use Rattle.table_entries.proofs.Keys.{nothing_wanted}
use Rattle.table_entries.proofs.index.wanted.Goals as goal

pub returns-then-i-keys-clause-sign : goal.returns-then-i-keys-clause-sign
returns-then-i-keys-clause-sign c =
    let none : drop c.loop-i.i c.args.keys.now ≡ [] = drop_of_length-le c.args.keys.now (omega arith) in
    sym (append-nil c.loop-i.sign.items)
    ∙ ap (λ l. c.loop-i.sign.items ++ l) (sym (ap (wanted (drop c.loop-i.i c.args.kinds.now) c.args.length) none ∙ nothing_wanted (drop c.loop-i.i c.args.kinds.now) c.args.length))
    ∙ c.loop-i.invariant
