use Rattle.p4_meaning.specs.Statements.{act_on_header}
use Rattle.p4_statements.specs.Runs.{run_of}
use Rattle.p4_statements.proofs.PlainLemmas.{does_plainly, header_plain}
use Rattle.p4_statements.proofs.dispatch.on_header.Goals as goal

pub returns : goal.returns
returns g c = does_plainly (g.C.Calls.means c.args.calls.now) (act_on_header c.args.header.now c.args.verb.now) (run_of c.args.r.now) (run_of c.call_on_header.new.r) (header_plain c.args.header.now c.args.verb.now) c.in_ok-call_on_header.ensures
