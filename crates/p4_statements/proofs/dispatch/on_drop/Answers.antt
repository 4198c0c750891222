use Rattle.p4_meaning.specs.Statements.{drops}
use Rattle.p4_statements.specs.Runs.{run_of}
use Rattle.p4_statements.proofs.PlainLemmas.{does_plainly}
use Rattle.p4_statements.proofs.dispatch.on_drop.Goals as goal

pub returns : goal.returns
returns g c = does_plainly (g.C.Calls.means c.args.calls.now) (drops) (run_of c.args.r.now) (run_of c.drop_packet.new.r) (tt) c.in_ok-drop_packet.ensures
