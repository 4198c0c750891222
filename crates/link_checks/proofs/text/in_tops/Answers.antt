use Rattle.std.proofs.Common.{List, map, refl, sym, ◌∙◌}
use Rattle.p4_tree.specs.View.{top_of}
use Rattle.p4_tree.specs.declared.program.Top as code
use Rattle.link_faults.specs.WrittenNames.{names_of_top, names_of_tops}
use Rattle.link_checks.proofs.Walks.{stops, goes}
use Rattle.link_checks.proofs.text.in_tops.Goals as goal

pub returns-then-is_some : goal.returns-then-is_some
returns-then-is_some c =
    stops (λ (xs : List code.Top). names_of_tops (map top_of xs)) (λ (x : code.Top). names_of_top (top_of x)) (λ x xs. refl) c.args.tops.now c.loop-top.top-index c.top-item.result c.loop-top-test.true c.top-item.is c.loop-top.invariant
    c.in_top-taken.result (c.in_top-taken.ensures) (sym c.is_some.ensures ∙ c.if-is_some.true)

pub loop-top-preserved : goal.loop-top-preserved
loop-top-preserved c =
    goes (λ (xs : List code.Top). names_of_tops (map top_of xs)) (λ (x : code.Top). names_of_top (top_of x)) (λ x xs. refl) c.args.tops.now c.loop-top.top-index c.top-item.result c.loop-top-test.true c.top-item.is c.loop-top.invariant
    c.in_top-taken.result (c.in_top-taken.ensures) (sym c.is_some.ensures ∙ c.if-is_some.false)
