use Rattle.std.proofs.Common.{ap, ◌∙◌}
use Rattle.p4_scopes.specs.Kinds.{width_in}
use Rattle.p4_scopes.specs.Scopes.{add_up}
use Rattle.p4_scopes.specs.View.{scope_of}
use Rattle.p4_scopes.proofs.Changes.{none_counted, one_counted, all_counted}
use Rattle.p4_scopes.proofs.scope.Scope.fields_bits.Goals as goal

pub loop-f-init : goal.loop-f-init
loop-f-init c = none_counted (scope_of c.args.self.now) c.args.fields.now

pub loop-f-preserved : goal.loop-f-preserved
loop-f-preserved c =
    one_counted (scope_of c.args.self.now) c.args.fields.now c.loop-f.f-index c.loop-f.bits c.saturating_add-bits.result c.f-item.result c.loop-f-test.true c.f-item.is c.loop-f.invariant
    (c.saturating_add-bits.ensures ∙ ap (add_up c.loop-f.bits) (c.from.ensures ∙ c.width_in.ensures ∙ ap width_in c.kind_in.ensures))

pub returns : goal.returns
returns c = all_counted (scope_of c.args.self.now) c.args.fields.now c.loop-f.f-index c.loop-f.bits c.loop-f-test.false c.loop-f.invariant
