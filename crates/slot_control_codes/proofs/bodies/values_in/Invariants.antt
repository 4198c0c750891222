use Rattle.std.proofs.Common.{◌≡◌, ◌++◌, map, drop}
use Rattle.p4_tree.specs.View.{arg_of, expr_of}
use Rattle.p4_meaning.specs.Statements.{values_in}
use Rattle.slot_control_codes.proofs.bodies.values_in.Given as goal

abbrev pub invariant-loop-arg : goal.invariant-loop-arg
invariant-loop-arg l = map expr_of l.values.items ++ values_in (map arg_of (drop l.arg-index l.args)) ≡ values_in (map arg_of l.args)
