-- What holds of a program that is well typed. Read `Counts` and `Kept` before it.
use Rattle.std.specs.Prelude.{◌≡◌, ℕ, List}
use Rattle.p4_tree.specs.View.{program_of}
use Rattle.p4_rules.specs.ProgramRules.{IsWellTyped}
use Rattle.p4_types.specs.Numbers.{tables, registers, actions, names}
use Rattle.p4_types.specs.Constants.{constant_of}
use Rattle.p4_types.specs.Counts.{AreCounts}
use Rattle.p4_types.specs.Kept.{IsNumbering, at_name}
use Rattle.p4_types.specs.declared.typed.Tabled.{Tabled}

pub record IsTyped (t : Tabled) : Type 0 where
  pub typed : IsWellTyped (program_of t.program)
  pub tables : IsNumbering t.tables (names tables (program_of t.program))
  pub registers : IsNumbering t.registers (names registers (program_of t.program))
  pub actions : IsNumbering t.actions (names actions (program_of t.program))
  pub constants : (x : List ℕ) → at_name t.constants.words.entries x ≡ constant_of (program_of t.program) x
  pub counts : AreCounts (program_of t.program) t.counts
