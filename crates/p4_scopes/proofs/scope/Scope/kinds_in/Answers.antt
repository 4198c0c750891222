use Rattle.std.proofs.Common.{◌∙◌}
use Rattle.p4_scopes.specs.View.{scope_of}
use Rattle.p4_scopes.proofs.Changes.{kinds_push}
use Rattle.p4_scopes.proofs.scope.Scope.kinds_in.Goals as goal

pub loop-p-preserved : goal.loop-p-preserved
loop-p-preserved c =
    c.in_ok-push.ensures.items
    ∙ kinds_push (scope_of c.args.self.now) c.args.params.now c.loop-p.p-index c.p-item.result c.loop-p.kinds.items c.kind_in.result c.loop-p-test.true c.p-item.is c.loop-p.invariant c.kind_in.ensures
