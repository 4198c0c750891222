use Rattle.std.proofs.Common.{◌≡◌, drop}
use Rattle.p4_tree.specs.View.{stmts_of}
use Rattle.p4_meaning.specs.Statements.{meaning_of}
use Rattle.p4_statements.specs.Runs.{run_of}
use Rattle.p4_statements.proofs.statements.+run.Given as goal

abbrev pub invariant-run_stmts-loop-s : goal.invariant-run_stmts-loop-s
invariant-run_stmts-loop-s g l = meaning_of (g.C.Calls.means l.calls) (stmts_of (drop l.s-index l.list)) (run_of l.r) ≡ meaning_of (g.C.Calls.means l.calls) (stmts_of l.list) (run_of l.fn.r)
