-- What of a program runs: its registers, headers, parser states, actions, tables and controls, found by the names that
-- `main` and the parameters give, with what their names stand for in its place. Read `Parsing` and `Tables` before it and
-- `Pass` after it.
use Rattle.std.specs.Prelude.{ℕ, List, [], ◌∷◌, ◌++◌, map, if◌then◌else◌, Option, Some, None, get_or}
use Rattle.bit_values.specs.Widths.{sound_width}
use Rattle.lex_text.specs.Names.{same_text}
use Rattle.p4_tree.specs.Tree.{path, Arg, one, Stmts, call, done, next, ParserState, Local, local_register, Control, Parser, Top, header_type, struct_type, register, parser, control, Program, and_then}
use Rattle.p4_tree.specs.declared.statement.PTy.{PTy}
use Rattle.p4_tree.specs.declared.program.Register.{Register}
use Rattle.p4_meaning.specs.Standard.{headers_root}
use Rattle.p4_meaning.specs.Value.{width_of}
use Rattle.p4_meaning.specs.Parsing.{Field, Header}
use Rattle.p4_meaning.specs.Scope.{Scope, param_at, param_type, type_name, full_name, type_under}
use Rattle.p4_meaning.specs.Under.{stmts_under, state_under, no_scope, behind_top, behind_tops, in_parser, in_control, behind_locals, settings_under}
use Rattle.p4_meaning.specs.Actions.{Action, actions_of}
use Rattle.p4_meaning.specs.Tables.{Table, tables_of}

-- a register: its full name, the bits of a cell, and how many cells it has
pub record Cells : Type 0 where
  pub name : List ℕ
  pub width : ℕ
  pub count : ℕ

-- what a control runs: its variables, as the statements that set them, and then its body
pub record Body : Type 0 where
  pub locals : Stmts
  pub body : Stmts

abbrev pub whole : Body → Stmts
whole b = and_then b.locals b.body

pub record Parts : Type 0 where
  pub registers : List Cells
  pub headers : List Header
  pub metadata : List Field
  pub states : List ParserState
  pub actions : List Action
  pub tables : List Table
  pub verify : Stmts
  pub ingress : Body
  pub egress : Body
  pub compute : Stmts
  -- the paths of the headers that the deparser emits, in order
  pub emits : List (List (List ℕ))

-- ---- what a name stands for

-- the parser of a name
abbrev pub parser_named : List Top → List ℕ → Option Parser
parser_named [] x = None
parser_named (parser p d ∷ ts) x = if same_text d.name x then Some d else parser_named ts x
parser_named (t ∷ ts) x = parser_named ts x

-- the control of a name
abbrev pub control_named : List Top → List ℕ → Option Control
control_named [] x = None
control_named (control p d ∷ ts) x = if same_text d.name x then Some d else control_named ts x
control_named (t ∷ ts) x = control_named ts x

-- the scope at the parser of a name, and at the control of a name
abbrev pub scope_at_parser : Scope → List Top → List ℕ → Scope
scope_at_parser sc [] x = sc
scope_at_parser sc (parser p d ∷ ts) x = if same_text d.name x then sc else scope_at_parser sc ts x
scope_at_parser sc (t ∷ ts) x = scope_at_parser (behind_top sc t) ts x

abbrev pub scope_at_control : Scope → List Top → List ℕ → Scope
scope_at_control sc [] x = sc
scope_at_control sc (control p d ∷ ts) x = if same_text d.name x then sc else scope_at_control sc ts x
scope_at_control sc (t ∷ ts) x = scope_at_control (behind_top sc t) ts x

-- the fields of the struct of a name
abbrev pub struct_fields : List Top → List ℕ → List (PTy × List ℕ)
struct_fields [] x = []
struct_fields (struct_type p y fields ∷ ts) x = if same_text y x then fields else struct_fields ts x
struct_fields (t ∷ ts) x = struct_fields ts x

-- the fields of the header type of a name
abbrev pub header_fields : List Top → List ℕ → List (PTy × List ℕ)
header_fields [] x = []
header_fields (header_type p y fields ∷ ts) x = if same_text y x then fields else header_fields ts x
header_fields (t ∷ ts) x = header_fields ts x

-- ---- fields and registers

-- the typedefs of a program: each stands before its use, and no two have one name
abbrev pub types_of : List Top → List (List ℕ × PTy)
types_of ts = (behind_tops no_scope ts).types

-- a field of a header or of the metadata, of 1 to 128 bits
abbrev pub field_of : List (List ℕ × PTy) → PTy × List ℕ → Field
field_of types f = record { name = f.1; width = sound_width (width_of (type_under types f.0)) }

-- a header of the struct of headers
abbrev pub header_of : List Top → PTy × List ℕ → Header
header_of ts f = record { path = headers_root ∷ f.1 ∷ []; fields = map (field_of (types_of ts)) (header_fields ts (type_name f.0)) }

-- a register
abbrev pub cells_under : Scope → Register → Cells
cells_under sc r = record { name = full_name sc r.name; width = width_of (type_under sc.types r.ty); count = r.count }

-- the registers among a control's declarations
abbrev pub registers_in : Scope → List Local → List Cells
registers_in sc [] = []
registers_in sc (local_register p r ∷ ls) = cells_under sc r ∷ registers_in sc ls
registers_in sc (l ∷ ls) = registers_in sc ls

-- the registers of a program, in the order of the text
abbrev pub registers_of : Scope → List Top → List Cells
registers_of sc [] = []
registers_of sc (register p r ∷ ts) = cells_under sc r ∷ registers_of sc ts
registers_of sc (control p c ∷ ts) = registers_in (in_control 0 1 2 sc c) c.locals ++ registers_of sc ts
registers_of sc (t ∷ ts) = registers_of (behind_top sc t) ts

-- ---- controls and parsers

-- what a control runs, where the three parameters stand at these places, and this scope stands before it
abbrev pub body_of : (headers metadata standard : ℕ) → Scope → Option Control → Body
body_of h m s sc None = record { locals = done; body = done }
body_of h m s sc (Some c) =
    record {
      locals = settings_under (in_control h m s sc c) c.locals;
      body = stmts_under (behind_locals (in_control h m s sc c) c.locals) c.apply;
    }

-- the states of a parser, before which this scope stands
abbrev pub states_of : Scope → Option Parser → List ParserState
states_of sc None = []
states_of sc (Some d) = map (state_under (in_parser sc d)) d.states

-- the name of the type of a parser's parameter
abbrev pub parser_type : Option Parser → ℕ → List ℕ
parser_type None n = []
parser_type (Some p) n = param_type (param_at p.params n)

-- the paths that `emit` statements name, in order
abbrev pub emitted : List Arg → List (List (List ℕ))
emitted (one p (path q names) ∷ []) = names ∷ []
emitted _ = []

abbrev pub emits_of : Stmts → List (List (List ℕ))
emits_of done = []
emits_of (next (call p callee args) ss) = emitted args ++ emits_of ss
emits_of (next _ ss) = emits_of ss

-- ---- a program

-- the name at a place of `main`
abbrev pub named_in : List (List ℕ) → ℕ → List ℕ
named_in names n = get_or names n []

-- the control that `main` names at a place, and what it runs
abbrev pub control_in : Program → ℕ → Option Control
control_in p n = control_named p.tops (named_in p.main n)

abbrev pub body_in : (headers metadata standard : ℕ) → Program → ℕ → Body
body_in h m s p n = body_of h m s (scope_at_control no_scope p.tops (named_in p.main n)) (control_in p n)

-- the parser that `main` names, and its states
abbrev pub parser_in : Program → Option Parser
parser_in p = parser_named p.tops (named_in p.main 0)

abbrev pub states_in : Program → List ParserState
states_in p = states_of (scope_at_parser no_scope p.tops (named_in p.main 0)) (parser_in p)

-- the parts of a program: `main` names the parser, verify checksum, ingress, egress, compute checksum and the
-- deparser. A place of a parameter that a control does not have is 9
abbrev pub parts_of : Program → Parts
parts_of p =
    record {
      registers = registers_of no_scope p.tops;
      headers = map (header_of p.tops) (struct_fields p.tops (parser_type (parser_in p) 1));
      metadata = map (field_of (types_of p.tops)) (struct_fields p.tops (parser_type (parser_in p) 2));
      states = states_in p;
      actions = actions_of no_scope p.tops;
      tables = tables_of no_scope (actions_of no_scope p.tops) p.tops;
      verify = whole (body_in 0 1 9 p 1);
      ingress = body_in 0 1 2 p 2;
      egress = body_in 0 1 2 p 3;
      compute = whole (body_in 0 1 9 p 4);
      emits = emits_of (body_in 1 9 9 p 5).body;
    }
