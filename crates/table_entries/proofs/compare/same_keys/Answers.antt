use Rattle.std.proofs.Common.{◌≡◌, [], map, drop, sym, ap, ◌∙◌, arith}
use Rattle.std.proofs.Math.ListN.{drop_of_length-le}
use Rattle.table_entries.specs.Entries.{same_keys}
use Rattle.table_entries.specs.View.{match_of}
use Rattle.table_entries.proofs.Keys.{more_left, more_right}
use Rattle.table_entries.proofs.compare.same_keys.Goals as goal

pub returns-then-i-b : goal.returns-then-i-b
returns-then-i-b c =
    let none : drop c.loop-i.i c.args.b.now ≡ [] = drop_of_length-le c.args.b.now (omega arith) in
    sym (more_left c.args.a.now c.loop-i.i (omega arith))
    ∙ ap (λ l. same_keys (map match_of (drop c.loop-i.i c.args.a.now)) (map match_of l)) (sym none)
    ∙ c.loop-i.invariant

pub returns-then-a-b : goal.returns-then-a-b
returns-then-a-b c =
    let none : drop c.loop-i.i c.args.a.now ≡ [] = drop_of_length-le c.args.a.now (omega arith) in
    sym (more_right c.args.b.now c.loop-i.i (omega arith))
    ∙ ap (λ l. same_keys (map match_of l) (map match_of (drop c.loop-i.i c.args.b.now))) (sym none)
    ∙ c.loop-i.invariant
