use Rattle.std.proofs.Common.{map}
use Rattle.p4_tree.specs.View.{arg_of}
use Rattle.p4_meaning.specs.Statements.{digest_of}
use Rattle.p4_statements.specs.Runs.{run_of}
use Rattle.p4_statements.proofs.PlainLemmas.{does_plainly, digest_plain}
use Rattle.p4_statements.proofs.dispatch.on_digest.Goals as goal

pub returns : goal.returns
returns g c = does_plainly (g.C.Calls.means c.args.calls.now) (digest_of (map arg_of c.args.args.now)) (run_of c.args.r.now) (run_of c.tell.new.r) (digest_plain (map arg_of c.args.args.now)) c.in_ok-tell.ensures
