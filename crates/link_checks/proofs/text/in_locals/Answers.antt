use Rattle.std.proofs.Common.{List, map, refl, sym, ◌∙◌}
use Rattle.p4_tree.specs.View.{local_of}
use Rattle.p4_tree.specs.declared.program.Local as code
use Rattle.link_faults.specs.WrittenNames.{names_of_local, names_of_locals}
use Rattle.link_checks.proofs.Walks.{stops, goes}
use Rattle.link_checks.proofs.text.in_locals.Goals as goal

pub returns-then-is_some : goal.returns-then-is_some
returns-then-is_some c =
    stops (λ (xs : List code.Local). names_of_locals (map local_of xs)) (λ (x : code.Local). names_of_local (local_of x)) (λ x xs. refl) c.args.list.now c.loop-l.l-index c.l-item.result c.loop-l-test.true c.l-item.is c.loop-l.invariant
    c.in_local-taken.result (c.in_local-taken.ensures) (sym c.is_some.ensures ∙ c.if-is_some.true)

pub loop-l-preserved : goal.loop-l-preserved
loop-l-preserved c =
    goes (λ (xs : List code.Local). names_of_locals (map local_of xs)) (λ (x : code.Local). names_of_local (local_of x)) (λ x xs. refl) c.args.list.now c.loop-l.l-index c.l-item.result c.loop-l-test.true c.l-item.is c.loop-l.invariant
    c.in_local-taken.result (c.in_local-taken.ensures) (sym c.is_some.ensures ∙ c.if-is_some.false)
