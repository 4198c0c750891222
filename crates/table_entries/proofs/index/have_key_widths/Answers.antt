use Rattle.std.proofs.Common.{◌≡◌, [], drop, map, sym, ap, ◌∙◌, arith}
use Rattle.std.proofs.Math.ListN.{drop_of_length-le}
use Rattle.table_shapes.specs.Shapes.{have_widths}
use Rattle.table_shapes.proofs.Lists.{no_values}
use Rattle.table_entries.proofs.Keys.{no_kinds}
use Rattle.table_entries.proofs.index.have_key_widths.Goals as goal

pub returns-then-i-keys : goal.returns-then-i-keys
returns-then-i-keys c =
    let none : drop c.loop-i.i c.args.keys.now ≡ [] = drop_of_length-le c.args.keys.now (omega arith) in
    sym (no_kinds c.args.kinds.now c.loop-i.i (omega arith))
    ∙ ap (have_widths (map (λ k. k.value) (drop c.loop-i.i c.args.kinds.now))) (sym none)
    ∙ c.loop-i.invariant

pub returns-then-kinds-keys : goal.returns-then-kinds-keys
returns-then-kinds-keys c =
    let none : drop c.loop-i.i c.args.kinds.now ≡ [] = drop_of_length-le c.args.kinds.now (omega arith) in
    sym (no_values c.args.keys.now c.loop-i.i (omega arith))
    ∙ ap (λ l. have_widths (map (λ k. k.value) l) (drop c.loop-i.i c.args.keys.now)) (sym none)
    ∙ c.loop-i.invariant
