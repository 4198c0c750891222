-- When code is that of a program. Read `Halves` before it, `Callees` and `StepRuns` of `slot_controls`, `Parses` of
-- `slot_parsers`, and `Parts` of the trees' meaning; `Laws` after it.
use Rattle.std.specs.Prelude.{◌≡◌, ℕ, List, []}
use Rattle.bit_values.specs.Bits.{Word}
use Rattle.p4_meaning.specs.Statements.{Calls, no_calls}
use Rattle.p4_meaning.specs.Tables.{Tables}
use Rattle.p4_meaning.specs.Parts.{Cells, Body, Parts, whole}
use Rattle.p4_meaning.specs.Pass as meaning
use Rattle.p4_tree.specs.Tree.{Stmts}
use Rattle.slot_terms.specs.Places.{Places}
use Rattle.slot_statements.specs.Runs.{Grows}
use Rattle.slot_statements.specs.Tables.{NumberedOutcome}
use Rattle.slot_places.specs.ProgramPlaces.{ArePlaced}
use Rattle.slot_controls.specs.Callees.{AddsVariables, Callees, Fits, calls_of}
use Rattle.slot_controls.specs.StepRuns.{DoAllSteps}
use Rattle.slot_parsers.specs.Parses.{Parses, heads_of}
use Rattle.slot_deparsers.specs.Emits.{numbers_of}
use Rattle.slot_passages.specs.Codes.{ControlCode, ProgramCode}

-- the code of a control, by the places in sight before it: first its variables are set, and then, where these are in sight, its
-- body runs; both over callees that fit where tables hold this, whose registers are these, and whose calls are these
pub record IsControl (rs : List Cells) (m : Places) (calls : Calls) (held : Tables) (chosen : ℕ → List Word → NumberedOutcome) (c : ControlCode) (b : Body) : Type 0 where
  pub callees : Callees
  pub behind : Places
  pub last : Places
  pub grows : Grows m behind
  pub adds : AddsVariables m behind
  pub settings : DoAllSteps callees m behind c.settings b.locals
  pub body : DoAllSteps callees behind last c.body b.body
  pub fits : Fits m callees held chosen
  pub registers : callees.registers ≡ rs
  pub calls_are : calls_of callees held ≡ calls

-- the same of the statements of a control in which no action is called and no table applied
pub record IsChecksum (rs : List Cells) (m : Places) (held : Tables) (chosen : ℕ → List Word → NumberedOutcome) (c : ControlCode) (b : Stmts) : Type 0 where
  pub body : Body
  pub is : b ≡ whole body
  pub control : IsControl rs m no_calls held chosen c body

-- the code of a program, where its tables hold this and choose this by their numbers
pub record IsProgramCode (p : Parts) (room : ℕ) (m : Places) (held : Tables) (chosen : ℕ → List Word → NumberedOutcome) (c : ProgramCode) : Type 0 where
  pub placed : ArePlaced p room m
  pub headers : c.headers ≡ heads_of p
  pub parser : Parses m c.headers p c.parser
  pub verify : IsChecksum p.registers m held chosen c.verify p.verify
  pub ingress : IsControl p.registers m (meaning.calls_of p held) held chosen c.ingress p.ingress
  pub egress : IsControl p.registers m (meaning.calls_of p held) held chosen c.egress p.egress
  pub compute : IsChecksum [] m held chosen c.compute p.compute
  pub emits : c.emits ≡ numbers_of m.headers p.emits
