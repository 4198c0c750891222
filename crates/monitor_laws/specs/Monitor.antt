-- What a lowering of a property gives the linker. Read `Names` and `Telemetry` before it, and `MonitorLaws` after it.
use Rattle.std.specs.Prelude.{ℕ, suc, List, [], ◌∷◌, map}
use Rattle.bit_values.specs.Bits.{Word}
use Rattle.bit_values.specs.Widths.{sound_width}
use Rattle.p4_tree.specs.Tree.{Expr, Stmts}
use Rattle.p4_tree.specs.declared.statement.PTy.{PTy}
use Rattle.p4_tree.specs.declared.statement.PTy.TheVariants as type
use Rattle.p4_meaning.specs.Value.{width_of}
use Rattle.p4_meaning.specs.Parsing.{Field}
use Rattle.p4_meaning.specs.Actions.{Action}
use Rattle.p4_meaning.specs.Tables.{Table}
use Rattle.p4_meaning.specs.Parts.{Cells}
use Rattle.network_run.specs.PathMeaning.{Property}
use Rattle.linkage.specs.Linkage.{SensorRegister, Telemetry}
use Rattle.switch_machines.specs.Programs.{Controls}
use Rattle.monitor_laws.specs.Names.{first_name, last_name, rejected_name}
use Rattle.monitor_laws.specs.Telemetry.{tele_bytes}

-- T are tele values, Z a switch's sensors, C the contents of a control variable. Names are full names, as they are in the
-- linked program
pub record Monitor (T Z C : Type 0) : Type 0 where
  pub property : Property T Z C
  -- the telemetry's first byte, which names the edition: 72 or 73
  pub mark : ℕ
  -- the telemetry's fields behind the mark, the words that stand in them, and how many bytes these are
  pub fields : List Field
  pub words : T → List Word
  pub room : ℕ
  -- the sensors' registers, as the linked program declares them and as a linkage reads them
  pub registers : List Cells
  pub sensors : List (SensorRegister Z (List ℕ))
  -- the tables in which control variables are looked up, the actions that these choose, and what the tables hold
  pub actions : List Action
  pub tables : List Table
  pub controls : Controls C
  -- what the property's header variables read
  pub views : List Expr
  -- the variables of the two controls, besides the flags, by type and name
  pub entry_locals : List (PTy × List ℕ)
  pub exit_locals : List (PTy × List ℕ)
  -- the statements for a switch
  pub entry : (switch : ℕ) → Stmts
  pub exit : (switch : ℕ) → Stmts

-- the flags, which are variables of the exit part's control too
abbrev pub flag_locals : List (PTy × List ℕ)
flag_locals = (type.Bool, first_name) ∷ (type.Bool, last_name) ∷ (type.Bool, rejected_name) ∷ []

-- variables of a control, as fields
abbrev pub fields_of : List (PTy × List ℕ) → List Field
fields_of ls = map (λ l. record { name = l.1; width = sound_width (width_of l.0) }) ls

-- the telemetry, as the network law takes it
abbrev pub telemetry_of : {T Z C : Type 0} → Monitor T Z C → Telemetry T
telemetry_of m = record { bytes = λ t. tele_bytes m.mark (m.words t); size = suc m.room }
