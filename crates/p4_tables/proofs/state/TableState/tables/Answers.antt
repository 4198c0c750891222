use Rattle.std.proofs.Common.{subst}
use Rattle.p4_tables.specs.Kept.{AreSound}
use Rattle.p4_tables.proofs.state.TableState.tables.Goals as goal

pub returns-clause-sound : goal.returns-clause-sound
returns-clause-sound c = subst AreSound c.self.view_is c.self.invariant.sound
