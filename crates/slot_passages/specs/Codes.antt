-- The code of a program over numbered slots. Read `Steps` of `slot_controls` before it, `ParserCodes` of `slot_parsers` and
-- `HeaderSlots` of `slot_places`; `Halves` after it.
use Rattle.std.specs.Prelude.{ℕ, List, map}
use Rattle.slot_places.specs.HeaderSlots.{HeaderSlots, header_slots_of}
use Rattle.slot_controls.specs.Steps.{Steps, steps_of}
use Rattle.slot_parsers.specs.ParserCodes.{ParserCode}
use Rattle.slot_parsers.specs.Code.{parser_in}
use Rattle.slot_passages.specs.declared.codes.ControlCode as code_control
use Rattle.slot_passages.specs.declared.codes.ProgramCode as code_program

-- a control: the steps that set its variables first, and those of its body
pub record ControlCode : Type 0 where
  pub settings : Steps
  pub body : Steps

-- the same as the code has it
abbrev pub control_of : code_control.ControlCode → ControlCode
control_of c = record { settings = steps_of c.settings.items; body = steps_of c.body.items }

-- a program: where the fields of its headers begin, its parser and its controls, and the numbers of the headers that its
-- deparser emits
pub record ProgramCode : Type 0 where
  pub headers : List HeaderSlots
  pub parser : ParserCode
  pub verify : ControlCode
  pub ingress : ControlCode
  pub egress : ControlCode
  pub compute : ControlCode
  pub emits : List ℕ

abbrev pub program_of : code_program.ProgramCode → ProgramCode
program_of c =
    record {
      headers = map header_slots_of c.headers.items;
      parser = parser_in c.parser;
      verify = control_of c.verify;
      ingress = control_of c.ingress;
      egress = control_of c.egress;
      compute = control_of c.compute;
      emits = c.emits.items;
    }
