-- The parts of a program, as a switch keeps them.
use Rattle.std.specs.Prelude.{map}
use Rattle.p4_tree.specs.View.{expr_of, state_of, stmts_of}
use Rattle.p4_meaning.specs.Actions as actions
use Rattle.p4_meaning.specs.Tables as tables
use Rattle.p4_meaning.specs.Parts as parts
use Rattle.p4_meaning.specs.Parts.{whole}
use Rattle.p4_parts.specs.Headers.{field_in, header_in}
use Rattle.p4_parts.specs.Paths.{path_in}
use Rattle.p4_parts.specs.declared.parts.Action as code_action
use Rattle.p4_parts.specs.declared.parts.Body as code_body
use Rattle.p4_parts.specs.declared.parts.Cells as code_cells
use Rattle.p4_parts.specs.declared.parts.Chosen as code_chosen
use Rattle.p4_parts.specs.declared.parts.Key as code_key
use Rattle.p4_parts.specs.declared.parts.Parts as code_parts
use Rattle.p4_parts.specs.declared.parts.Table as code_table
use Rattle.p4_parts.specs.declared.parts.Taken as code_taken

-- a register
abbrev pub cells_decl : code_cells.Cells → parts.Cells
cells_decl c = record { name = c.name; width = c.width; count = c.count }

-- a parameter of an action, and an action
abbrev pub param_in : code_taken.Taken → actions.Param
param_in p = record { name = p.name; width = p.width }

abbrev pub action_in : code_action.Action → actions.Action
action_in a = record { name = a.name; params = map param_in a.params.items; body = stmts_of a.body.items }

-- an action and words for it, a key of a table, and a table
abbrev pub chosen_in : code_chosen.Chosen → tables.Chosen
chosen_in c = record { action = c.action; args = c.args.items }

abbrev pub key_in : code_key.Key → tables.Key
key_in k = record { value = expr_of k.value; kind = k.kind }

abbrev pub table_in : code_table.Table → tables.Table
table_in t = record { name = t.name; keys = map key_in t.keys.items; actions = t.actions.items; default = chosen_in t.default; fixed = t.fixed }

-- what a control runs
abbrev pub body_in : code_body.Body → parts.Body
body_in b = record { locals = stmts_of b.locals.items; body = stmts_of b.body.items }

-- the parts
abbrev pub parts_in : code_parts.Parts → parts.Parts
parts_in p =
    record {
      registers = map cells_decl p.registers.items;
      headers = map header_in p.headers.items;
      metadata = map field_in p.metadata.items;
      states = map state_of p.states.items;
      actions = map action_in p.actions.items;
      tables = map table_in p.tables.items;
      verify = whole (body_in p.verify);
      ingress = body_in p.ingress;
      egress = body_in p.egress;
      compute = whole (body_in p.compute);
      emits = map path_in p.emits.items;
    }
