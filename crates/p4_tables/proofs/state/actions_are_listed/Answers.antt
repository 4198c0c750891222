use Rattle.std.proofs.Common.{subst}
use Rattle.p4_tables.specs.Laws.{RunsListed}
use Rattle.p4_tables.proofs.Applied.{runs_listed}
use Rattle.p4_tables.proofs.state.actions_are_listed.Goals as goal

pub returns : goal.returns
returns c = subst RunsListed c.state.view_is (runs_listed _ c.state.invariant.sound.each)
