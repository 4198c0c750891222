use Rattle.std.proofs.Common.{◌≡◌, [], drop, sym, ap, ◌∙◌, arith}
use Rattle.std.proofs.Math.ListN.{drop_of_length-le}
use Rattle.table_shapes.specs.Shapes.{have_widths}
use Rattle.table_shapes.proofs.Lists.{no_words, no_values}
use Rattle.table_shapes.proofs.shape.have_widths.Goals as goal

pub returns-then-i-words : goal.returns-then-i-words
returns-then-i-words c =
    let none : drop c.loop-i.i c.args.words.now ≡ [] = drop_of_length-le c.args.words.now (omega arith) in
    sym (no_words c.args.values.now c.loop-i.i (omega arith))
    ∙ ap (have_widths (drop c.loop-i.i c.args.values.now)) (sym none)
    ∙ c.loop-i.invariant

pub returns-then-values-words : goal.returns-then-values-words
returns-then-values-words c =
    let none : drop c.loop-i.i c.args.values.now ≡ [] = drop_of_length-le c.args.values.now (omega arith) in
    sym (no_values c.args.words.now c.loop-i.i (omega arith))
    ∙ ap (λ l. have_widths l (drop c.loop-i.i c.args.words.now)) (sym none)
    ∙ c.loop-i.invariant
