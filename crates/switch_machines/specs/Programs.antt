-- The programs of a network's switches, as the network's run takes them. Read `Pass` of the programs' meaning and `Machine`
-- of the network's run before it.
use Rattle.std.specs.Prelude.{ℕ, List, [], ◌∷◌, ◌++◌, map, Option, if◌then◌else◌, nat_eq}
use Rattle.std.specs.Option.{option_map}
use Rattle.bit_values.specs.Bits.{Word}
use Rattle.p4_tree.specs.Tree.{Expr}
use Rattle.p4_meaning.specs.Store.{Store}
use Rattle.p4_meaning.specs.Value.{value_of}
use Rattle.p4_meaning.specs.Statements as p4
use Rattle.p4_meaning.specs.Parts.{Parts}
use Rattle.p4_meaning.specs.Pass as pass
use Rattle.p4_meaning.specs.Pass.{Registers, Kept, Queued, parts_enter, parts_leave, kept_before}
use Rattle.p4_meaning.specs.Tables.{Tables}
use Rattle.network_run.specs.Machine.{Digest, Entered, Going, Leaving, Machine}
use Rattle.network_run.specs.Network.{Link}

-- the program of each switch, and what the header variables of a property read in a state of a packet. A run shows them
-- in its log alone
pub record Programs : Type 0 where
  pub program : (switch : ℕ) → Parts
  pub reads : Store → List Word

-- what header variables of these expressions read
abbrev pub view_of : List Expr → Store → List Word
view_of es s = map (λ e. value_of e 0 s) es

-- a digest
abbrev pub network_digest : p4.Digest → Digest
network_digest d = record { receiver = d.receiver; values = d.values }

-- what a switch keeps behind a half: its tables stay as they are
abbrev pub kept_behind : Tables → Registers → Kept
kept_behind held cells = record { registers = cells; tables = held }

-- what a switch whose tables hold this keeps and does behind the entry half
abbrev pub entered_of : (Store → List Word) → Tables → pass.Entered → Entered Kept Queued
entered_of reads held e =
    record {
      after = kept_behind held e.registers;
      digests = map network_digest e.digests;
      view = reads e.entry_state;
      queued = e.queued;
    }

abbrev pub going_of : (Store → List Word) → pass.Going → Going
going_of reads g = record { port = g.port; frame = g.frame; view = reads g.exit_state }

-- and behind the exit half
abbrev pub leaving_of : (Store → List Word) → Tables → pass.Leaving → Leaving Kept
leaving_of reads held l =
    record {
      after = kept_behind held l.registers;
      digests = map network_digest l.digests;
      going = option_map (going_of reads) l.going;
    }

-- what the tables hold when a switch is loaded with the contents of control variables, and when one is set
pub record Controls (C : Type 0) : Type 0 where
  pub loaded : (contents : ℕ → C) → Tables → Tables
  pub set : (variable : ℕ) → C → Tables → Tables

-- no table holds the contents of a control variable
abbrev pub no_controls : {C : Type 0} → Controls C
no_controls = record { loaded = λ contents held. held; set = λ v c held. held }

-- the programs, whose forwarding entries are what their tables hold, by their full names. Which tables hold control
-- variables may differ from switch to switch
abbrev pub machine_with : {C : Type 0} → ((switch : ℕ) → Controls C) → Programs → Machine Tables Kept Queued C
machine_with controls p =
    record {
      start = λ s held contents. kept_before (p.program s) ((controls s).loaded contents held);
      enter = λ s k port frame. entered_of p.reads k.tables (parts_enter (p.program s) k.tables k.registers port frame);
      leave = λ s k q. leaving_of p.reads k.tables (parts_leave (p.program s) k.tables k.registers q);
      set = λ s k v c. record k { tables = (controls s).set v c k.tables };
    }

-- new contents of a control variable change nothing
abbrev pub machine_of : {C : Type 0} → Programs → Machine Tables Kept Queued C
machine_of = machine_with (λ s. no_controls)

-- the numbers in a register's cells
abbrev pub cells_of : Kept → (name : List ℕ) → List ℕ
cells_of k x = map (λ (w : Word). w.value) (k.registers x)

-- the ports of a switch with links, in the order of the links
abbrev pub ports_at : List Link → (switch : ℕ) → List ℕ
ports_at [] s = []
ports_at (l ∷ ls) s =
    (if nat_eq s l.one then l.one_port ∷ [] else []) ++ ((if nat_eq s l.other then l.other_port ∷ [] else []) ++ ports_at ls s)
