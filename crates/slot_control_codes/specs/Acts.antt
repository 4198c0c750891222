-- What calls are for, as the code has them. Read `Statements` of the trees' meaning before it, and `Calls` of
-- `p4_statements`; `Known` after it.
use Rattle.std.specs.Prelude.{map}
use Rattle.p4_tree.specs.View.{arg_of, expr_of}
use Rattle.p4_meaning.specs.Statements as meaning
use Rattle.p4_meaning.specs.Statements.{values_in}
pub use Rattle.p4_statements.specs.Calls.{sum_at, sum_behind}
use Rattle.slot_control_codes.specs.declared.calls.Act as code_act
use Rattle.slot_control_codes.specs.declared.calls.Act.TheVariants as act

-- the same in the trees' meaning
abbrev pub act_in : code_act.Act → meaning.Act
act_in (act.Make header valid) = meaning.makes header.now valid
act_in act.Drop = meaning.drops
act_in (act.Read x target index) = meaning.reads x.now target.now (expr_of index.now)
act_in (act.Write x index value) = meaning.writes x.now (expr_of index.now) (expr_of value.now)
act_in (act.Tell receiver values) = meaning.tells receiver (map expr_of values.now)
act_in (act.Sum verifies condition list field) = meaning.sums verifies (expr_of condition.now) (map expr_of list.now) field.now
act_in (act.Run x args) = meaning.runs x.now (values_in (map arg_of args.now))
act_in (act.Apply x) = meaning.applies x.now
act_in act.Idle = meaning.idle
