-- What a well-typed program with own names runs is a forwarding program.
use Rattle.std.specs.Prelude.{◌≡◌, false}
use Rattle.p4_tree.specs.Tree.{Program}
use Rattle.p4_meaning.specs.Parts.{parts_of}
use Rattle.p4_rules.specs.ProgramRules.{IsWellTyped}
use Rattle.exit_programs.specs.Programs.{program_without}
use Rattle.exit_programs.specs.Names.{HasGivenNames}
use Rattle.exit_programs.specs.Laws.{program_leaves}
use Rattle.own_code.specs.Forwarding.{IsForwarding}
use Rattle.own_programs.specs.OwnPrograms.{HasOwnNames, program_tells_reports}

-- where nothing leaves it and it tells no reports
abbrev pub OwnProgramsForward : Type 0
OwnProgramsForward = (p : Program) → IsWellTyped p → HasOwnNames p → program_leaves p ≡ false → program_tells_reports p ≡ false → IsForwarding (parts_of p)

-- and so it is of the program of the same meaning without `exit` and `return`
abbrev pub LoweredProgramsForward : Type 0
LoweredProgramsForward = (p : Program) → IsWellTyped p → HasGivenNames p → program_tells_reports p ≡ false → IsForwarding (parts_of (program_without p))
