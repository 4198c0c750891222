use Rattle.std.proofs.Common.{ap, ◌∙◌}
use Rattle.p4_resolved.specs.Lent.{lent}
use Rattle.p4_resolved.specs.Scopes.{type_or}
use Rattle.p4_resolved.proofs.Rows.{type_here, type_above, type_nowhere}
use Rattle.p4_resolved.proofs.scope.type_named.Goals as goal

pub returns-in-Some : goal.returns-in-Some
returns-in-Some c = type_here (lent c.args.sc.now.top) c.args.sc.now.layer.now c.args.x.now c.in-Some.ty.now c.in-Some.ensures

pub returns-in-Some-top : goal.returns-in-Some-top
returns-in-Some-top c =
    ap (type_or c.args.x.now) c.find-in-Some-top.ensures
    ∙ type_above (lent c.args.sc.now.top) c.in-Some-top.top.now c.args.sc.now.layer.now c.args.x.now (ap lent c.in-Some-top.is) c.in-None.ensures

pub returns-in-None-top : goal.returns-in-None-top
returns-in-None-top c = type_nowhere (lent c.args.sc.now.top) c.args.sc.now.layer.now c.args.x.now (ap lent c.in-None-top.is) c.in-None.ensures
