use Rattle.std.proofs.Common.{List, map, refl, sym, ◌∙◌}
use Rattle.p4_tree.specs.View.{keyset_of}
use Rattle.p4_tree.specs.declared.program.Keyset as code
use Rattle.link_faults.specs.WrittenNames.{names_of_keyset, names_of_keysets}
use Rattle.link_checks.proofs.Walks.{stops, goes}
use Rattle.link_checks.proofs.text.in_keysets.Goals as goal

pub returns-then-is_some : goal.returns-then-is_some
returns-then-is_some c =
    stops (λ (xs : List code.Keyset). names_of_keysets (map keyset_of xs)) (λ (x : code.Keyset). names_of_keyset (keyset_of x)) (λ x xs. refl) c.args.list.now c.loop-k.k-index c.k-item.result c.loop-k-test.true c.k-item.is c.loop-k.invariant
    c.in_keyset-taken.result (c.in_keyset-taken.ensures) (sym c.is_some.ensures ∙ c.if-is_some.true)

pub loop-k-preserved : goal.loop-k-preserved
loop-k-preserved c =
    goes (λ (xs : List code.Keyset). names_of_keysets (map keyset_of xs)) (λ (x : code.Keyset). names_of_keyset (keyset_of x)) (λ x xs. refl) c.args.list.now c.loop-k.k-index c.k-item.result c.loop-k-test.true c.k-item.is c.loop-k.invariant
    c.in_keyset-taken.result (c.in_keyset-taken.ensures) (sym c.is_some.ensures ∙ c.if-is_some.false)
