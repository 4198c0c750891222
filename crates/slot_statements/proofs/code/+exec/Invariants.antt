use Rattle.std.proofs.Common.{◌≡◌, drop}
use Rattle.slot_terms.specs.States.{state_of}
use Rattle.slot_statements.specs.Codes.{codes_of, exec_all}
use Rattle.slot_statements.proofs.code.+exec.Given as goal

abbrev pub invariant-exec_all-loop-c : goal.invariant-exec_all-loop-c
invariant-exec_all-loop-c l = exec_all (codes_of (drop l.c-index l.list)) (state_of l.s) ≡ exec_all (codes_of l.list) (state_of l.fn.s)
