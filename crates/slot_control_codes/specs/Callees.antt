-- What the calls of a control stand for, as the code has it. Read `Callees` of `slot_controls` before it, and `Acts`
-- after it.
use Rattle.std.specs.Prelude.{[], map}
use Rattle.p4_parts.specs.PartsIn.{action_in, cells_decl, table_in}
use Rattle.slot_controls.specs.Steps.{Application, Steps, application_of, slots_of, steps_of}
use Rattle.slot_controls.specs.Callees.{Callees}
use Rattle.slot_control_codes.specs.declared.callees.Applied as code_applied
use Rattle.slot_control_codes.specs.declared.callees.Bare as code_bare
use Rattle.slot_control_codes.specs.declared.callees.Callees as code_callees

-- the same as the code has it
abbrev pub callees_of : code_callees.Callees → Callees
callees_of k = record { actions = map action_in k.actions.now; tables = map table_in k.tables.now; registers = map cells_decl k.registers.now; headers = map slots_of k.headers.now }

-- the same where no action is called and no table applied
abbrev pub bare_of : code_bare.Bare → Callees
bare_of k = record { actions = []; tables = []; registers = map cells_decl k.registers.now; headers = map slots_of k.headers.now }

-- an application, with the bodies of its actions
abbrev pub applied_of : code_applied.Applied → Steps × Application
applied_of a = (steps_of a.bodies.items, application_of a.application)
