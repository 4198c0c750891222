use Rattle.std.proofs.Common.{◌≡◌, [], drop, sym, ap, ◌∙◌, arith}
use Rattle.std.proofs.Math.ListN.{drop_of_length-le}
use Rattle.table_entries.specs.Signs.{wanted, packed_behind}
use Rattle.table_entries.proofs.Keys.{nothing_packed}
use Rattle.table_entries.proofs.index.wanted_code.Goals as goal

pub returns-then-i-keys : goal.returns-then-i-keys
returns-then-i-keys c =
    let ks = drop c.loop-i.i c.args.kinds.now in
    let none : drop c.loop-i.i c.args.keys.now ≡ [] = drop_of_length-le c.args.keys.now (omega arith) in
    sym (nothing_packed c.args.kinds.now c.loop-i.i c.args.length c.loop-i.code (omega arith))
    ∙ ap (λ ws. packed_behind ks (wanted ks c.args.length ws) c.loop-i.code) (sym none)
    ∙ c.loop-i.invariant
