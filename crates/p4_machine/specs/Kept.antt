-- What holds of a plan, which switches of one program share, and of a switch. Read `State` before it.
use Rattle.std.specs.Prelude.{◌≡◌, ◌<◌, length}
use Rattle.p4_tree.specs.View.{program_of}
use Rattle.p4_meaning.specs.Parts.{parts_of}
use Rattle.p4_parts.specs.PartsIn.{parts_in}
use Rattle.p4_tables.specs.Programs.{IsStateOf}
use Rattle.p4_machine.specs.declared.plan.Plan.{Plan}
use Rattle.p4_machine.specs.declared.switch.Switch.TheInside.{Inside}

-- its parts are those of its program, and 32 bits number its tables
pub record IsPlan (p : Plan) : Type 0 where
  pub parts : parts_in p.parts ≡ parts_of (program_of p.program)
  pub few : length (parts_of (program_of p.program)).tables < 4294967296

-- its plan is one, and its tables are tables of its program
pub record IsSwitch (s : Inside) : Type 0 where
  pub plan : IsPlan s.plan.value
  pub tables : IsStateOf (program_of s.plan.value.program) s.tables
