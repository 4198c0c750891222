-- The parts of a linked program, for any forwarding program, any monitor, and the ports of a switch that have links. Read
-- `Statements` and `ParserStates` before it.
use Rattle.std.specs.Prelude.{◌≡◌, codes, ℕ, suc, List, ◌∷◌, ◌++◌, map, true, false}
use Rattle.p4_tree.specs.Tree.{done, next, and_then}
use Rattle.p4_meaning.specs.Parsing.{Field, Header}
use Rattle.p4_meaning.specs.Actions.{Action, action_named}
use Rattle.p4_meaning.specs.Tables.{Table, table_named}
use Rattle.p4_meaning.specs.Parts.{Cells, Body, Parts}
use Rattle.p4_meaning.specs.Pass.{start_cells}
use Rattle.own_code.specs.Regions.{is_mine}
use Rattle.packet_lengths.specs.Lengths.{plain_stmts, plain_action, plain_table}
use Rattle.monitor_laws.specs.Names.{tele_header, rejects_register}
use Rattle.monitor_laws.specs.Telemetry.{mark_field}
use Rattle.monitor_laws.specs.Monitor.{Monitor, flag_locals}
use Rattle.linked_halves.specs.ParserStates.{linked_states}
use Rattle.linked_halves.specs.Statements.{vars_of, entry_stmt, exit_stmt}

-- the telemetry header
abbrev pub telemetry : List Field → Header
telemetry fs = record { path = tele_header; fields = mark_field ∷ fs }

-- the register that counts rejected packets
abbrev pub rejects_cells : Cells
rejects_cells = record { name = rejects_register; width = 32; count = 1 }

-- the field of the metadata that holds the length without telemetry
abbrev pub length_field : Field
length_field = record { name = codes "hydra_length"; width = 32 }

-- what a linked program declares by names, in the order of its text, and how its parser names its packet
pub record Declarations : Type 0 where
  pub packet : List ℕ
  pub registers : List Cells
  pub actions : List Action
  pub tables : List Table

-- these are the forwarding program's, and under the monitor's names the monitor's
pub record Joins {T Z C : Type 0} (m : Monitor T Z C) (f : Parts) (d : Declarations) : Type 0 where
  pub own_registers : (x : List ℕ) → is_mine x ≡ false → start_cells d.registers x ≡ start_cells f.registers x
  pub monitor_registers : (x : List ℕ) → is_mine x ≡ true → start_cells d.registers x ≡ start_cells (rejects_cells ∷ m.registers) x
  pub own_actions : (x : List ℕ) → is_mine x ≡ false → action_named d.actions x ≡ action_named f.actions x
  pub monitor_actions : (x : List ℕ) → is_mine x ≡ true → action_named d.actions x ≡ action_named m.actions x
  pub own_tables : (x : List ℕ) → is_mine x ≡ false → table_named d.tables x ≡ table_named f.tables x
  pub monitor_tables : (x : List ℕ) → is_mine x ≡ true → table_named d.tables x ≡ table_named m.tables x

-- so it is where the monitor's stand before the forwarding program's
abbrev pub declarations : {T Z C : Type 0} → Monitor T Z C → Parts → Declarations
declarations m f =
    record {
      packet = codes "packet";
      registers = rejects_cells ∷ (m.registers ++ f.registers);
      actions = m.actions ++ f.actions;
      tables = m.tables ++ f.tables;
    }

-- reads of the packet's length are rewritten
abbrev pub plain_body : Body → Body
plain_body b = record { locals = plain_stmts b.locals; body = plain_stmts b.body }

abbrev pub plain_parts : Parts → Parts
plain_parts p =
    record p {
      actions = map plain_action p.actions;
      tables = map plain_table p.tables;
      verify = plain_stmts p.verify;
      ingress = plain_body p.ingress;
      egress = plain_body p.egress;
      compute = plain_stmts p.compute;
    }

module _ {T Z C : Type 0} (m : Monitor T Z C) (s : ℕ) (links : List ℕ) where
  -- before reads of the packet's length are rewritten, but for the parser's
  abbrev pub core_parts : Parts → Declarations → Parts
  core_parts f d =
      record {
        registers = d.registers;
        headers = telemetry m.fields ∷ f.headers;
        metadata = length_field ∷ f.metadata;
        states = linked_states d.packet (suc m.room) links f.states;
        actions = d.actions;
        tables = d.tables;
        verify = f.verify;
        ingress = record { locals = vars_of m.entry_locals f.ingress.locals; body = next (entry_stmt m s links) f.ingress.body };
        egress =
            record {
              locals = vars_of (flag_locals ++ m.exit_locals) f.egress.locals;
              body = and_then f.egress.body (next (exit_stmt m s links) done);
            };
        compute = f.compute;
        emits = tele_header ∷ f.emits;
      }

  abbrev pub linked_parts : Parts → Declarations → Parts
  linked_parts f d = plain_parts (core_parts f d)
