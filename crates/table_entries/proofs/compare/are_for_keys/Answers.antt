use Rattle.std.proofs.Common.{◌≡◌, [], map, drop, sym, ap, ◌∙◌, arith}
use Rattle.std.proofs.Math.ListN.{drop_of_length-le}
use Rattle.table_shapes.specs.Shapes.{are_for_keys}
use Rattle.table_entries.specs.View.{match_of}
use Rattle.table_entries.proofs.Keys.{none_asked, none_wanted}
use Rattle.table_entries.proofs.compare.are_for_keys.Goals as goal

pub returns-then-i-list : goal.returns-then-i-list
returns-then-i-list c =
    let none : drop c.loop-i.i c.args.list.now ≡ [] = drop_of_length-le c.args.list.now (omega arith) in
    sym (none_asked c.args.keys.now c.loop-i.i (omega arith))
    ∙ ap (λ l. are_for_keys (drop c.loop-i.i c.args.keys.now) (map match_of l)) (sym none)
    ∙ c.loop-i.invariant

pub returns-then-keys-list : goal.returns-then-keys-list
returns-then-keys-list c =
    let none : drop c.loop-i.i c.args.keys.now ≡ [] = drop_of_length-le c.args.keys.now (omega arith) in
    sym (none_wanted c.args.list.now c.loop-i.i (omega arith))
    ∙ ap (λ l. are_for_keys l (map match_of (drop c.loop-i.i c.args.list.now))) (sym none)
    ∙ c.loop-i.invariant
