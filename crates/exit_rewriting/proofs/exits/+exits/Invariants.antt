use Rattle.std.proofs.Common.{◌≡◌, drop}
use Rattle.p4_tree.specs.View.{stmts_of}
use Rattle.exit_statements.specs.Actions.{stmts_exit}
use Rattle.exit_rewriting.proofs.exits.+exits.Given as goal

-- what is left from here says what all of it says
abbrev pub invariant-stmts_exit-loop-s : goal.invariant-stmts_exit-loop-s
invariant-stmts_exit-loop-s l = stmts_exit (stmts_of (drop l.s-index l.list)) ≡ stmts_exit (stmts_of l.list)
