use Rattle.std.proofs.Common.{map}
use Rattle.p4_tree.specs.View.{arg_of}
use Rattle.p4_meaning.specs.Statements.{write_of}
use Rattle.p4_statements.specs.Runs.{run_of}
use Rattle.p4_statements.proofs.PlainLemmas.{does_plainly, write_plain}
use Rattle.p4_statements.proofs.dispatch.on_write.Goals as goal

pub returns : goal.returns
returns g c = does_plainly (g.C.Calls.means c.args.calls.now) (write_of c.args.name.now (map arg_of c.args.args.now)) (run_of c.args.r.now) (run_of c.write_register.new.r) (write_plain c.args.name.now (map arg_of c.args.args.now)) c.write_register.ensures
