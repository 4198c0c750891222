-- What it gives that no name of a program is taken. Read `WrittenNames` before it.
use Rattle.std.specs.Prelude.{◌≡◌, false, None}
use Rattle.p4_tree.specs.Tree.{Program}
use Rattle.own_programs.specs.OwnPrograms.{program_tells_reports}
use Rattle.exit_programs.specs.Names.{HasGivenNames}
use Rattle.link_faults.specs.WrittenNames.{names_of_program, first_taken}

-- no name begins with `hydra_`
abbrev pub NoneIsTaken : Type 0
NoneIsTaken = (p : Program) → first_taken (names_of_program p) ≡ None → HasGivenNames p

-- no digest is told to the receiver of reports
abbrev pub NoneTells : Type 0
NoneTells = (p : Program) → first_taken (names_of_program p) ≡ None → program_tells_reports p ≡ false
