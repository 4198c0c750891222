use Rattle.p4_rules.specs.Views.{structs_view}
use Rattle.p4_rules.proofs.Params.{wanted_next, wanted_last}
use Rattle.p4_rules.proofs.mains.check_wanted.Goals as goal

pub loop-i-preserved : goal.loop-i-preserved
loop-i-preserved c =
    wanted_next c.args.at (structs_view c.args.structs.now) c.loop-i.found.first c.test.new.self.first _ c.args.wants.now c.args.params.now c.loop-i.i c.index-params-i.result c.is_wanted_at-fits.result
    c.loop-i-test.true c.index-params-i.is c.is_wanted_at-fits.ensures c.test.ensures c.loop-i.invariant

pub returns : goal.returns
returns c =
    wanted_last c.args.at (structs_view c.args.structs.now) c.loop-i.found.first c.test-2.new.self.first _ c.args.wants.now c.args.params.now c.loop-i.i
    c.loop-i-test.false c.loop-i.auto.i-end c.test-2.ensures c.loop-i.invariant
