use Rattle.std.proofs.Common.{List, ℕ, map, take, subst}
use Rattle.p4_tree.specs.View.{local_of}
use Rattle.p4_types.specs.Numbers.{locals_names, local_name}
use Rattle.p4_types.specs.Kept.{sort_of, IsGroup}
use Rattle.p4_types.proofs.Numbered.{group_more, locals_next}
use Rattle.p4_types.proofs.numbers.group_of.Goals as goal

pub loop-local-preserved : goal.loop-local-preserved
loop-local-preserved c =
    let sort = sort_of c.args.sort in
    let before = locals_names sort c.args.control.now (map local_of (take c.loop-local.local-index c.args.locals.now)) in
    let P : List (List ℕ) → Type 0 = λ xs. IsGroup c.add_local.new.group c.args.control.now c.args.next xs in
    subst P (locals_next sort c.args.control.now c.args.locals.now c.loop-local.local-index c.local-item.result c.loop-local-test.true c.local-item.is)
    (group_more c.loop-local.group c.add_local.new.group c.args.control.now c.args.next before (local_name sort (local_of c.local-item.result)) c.loop-local.invariant c.in_ok-add_local.ensures)
