use Rattle.std.proofs.Common.{map, take, subst}
use Rattle.p4_tree.specs.View.{top_of}
use Rattle.p4_meaning.specs.Scope.{Scope}
use Rattle.p4_meaning.specs.Under.{no_scope, behind_tops}
use Rattle.p4_meaning.proofs.ScopeWords.{behind_all_tops}
use Rattle.p4_types.specs.Words.{IsBehind}
use Rattle.p4_types.proofs.Known.{behind_next}
use Rattle.p4_types.proofs.constants.tops_constants.Goals as goal

pub loop-top-preserved : goal.loop-top-preserved
loop-top-preserved c =
    let before = map top_of (take c.loop-top.top-index c.args.tops.now) in
    let P : Scope → Type 0 = λ sc. IsBehind c.add.new.self sc in
    subst P (behind_next c.args.tops.now c.loop-top.top-index c.top-item.result c.loop-top-test.true c.top-item.is)
    (c.in_ok-add.ensures (behind_tops no_scope before) (behind_all_tops no_scope before tt) c.loop-top.invariant)
