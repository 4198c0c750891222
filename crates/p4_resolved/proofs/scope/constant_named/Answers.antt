use Rattle.std.proofs.Common.{ap, ◌∙◌}
use Rattle.p4_resolved.specs.Lent.{lent}
use Rattle.p4_resolved.proofs.Rows.{constant_here, constant_above, constant_nowhere, copied_lent}
use Rattle.p4_resolved.proofs.scope.constant_named.Goals as goal

pub returns-in-Some : goal.returns-in-Some
returns-in-Some c = constant_here (lent c.args.sc.now.top) c.args.sc.now.layer.now c.args.x.now c.in-Some.word.now c.in-Some.ensures

pub returns-in-Some-top : goal.returns-in-Some-top
returns-in-Some-top c =
    c.copied.ensures ∙ copied_lent c.find-in-Some-top.result ∙ c.find-in-Some-top.ensures
    ∙ constant_above (lent c.args.sc.now.top) c.in-Some-top.top.now c.args.sc.now.layer.now c.args.x.now (ap lent c.in-Some-top.is) c.in-None.ensures

pub returns-in-None-top : goal.returns-in-None-top
returns-in-None-top c = constant_nowhere (lent c.args.sc.now.top) c.args.sc.now.layer.now c.args.x.now (ap lent c.in-None-top.is) c.in-None.ensures
