-- What is known of the wire program as it is built.
use Rattle.std.specs.Prelude.{◌≡◌, []}
use Rattle.p4_tree.specs.Tree.{Program}
use Rattle.p4_rules.specs.ProgramRules.{IsWellTyped}
use Rattle.p4_printer.specs.CanSpell.{CanSpell}
use Rattle.p4_tables.specs.Programs.{state_before}
use Rattle.faultless_programs.specs.Within.{LeavesRoom}
use Rattle.wire_program.specs.WireProgram.{wire_program}

-- it breaks no rule, is spelled by some text, leaves room for a monitor, and has no tables
pub record IsWireProgram (p : Program) : Type 0 where
  pub same : p ≡ wire_program
  pub typed : IsWellTyped p
  pub spelled : CanSpell p
  pub leaves : LeavesRoom p
  pub tables : state_before p ≡ []
