-- A P4 program whose two tables hold one control variable, a set of bytes, and a network of one switch that runs it. A
-- frame of one byte leaves by port 2 where the egress finds its byte by both tables; else it is dropped. All places are 0.
use Rattle.std.specs.Prelude.{codes, ℕ, List, [], ◌∷◌, ◌++◌, map, false, Some, None}
use Rattle.bit_values.specs.Bits.{Word, word}
use Rattle.p4_tree.specs.Tree.{Expr, path, binary, one, Stmts, block, assign, choice, call, done, next, otherwise, to, ParserState, Local, local_action, local_table, local_var, header_type, Program}
use Rattle.p4_tree.specs.declared.statement.PTy.TheVariants as type
use Rattle.p4_tree.specs.declared.statement.Op.TheVariants.{Equal}
use Rattle.p4_meaning.specs.Parts.{parts_of}
use Rattle.p4_meaning.specs.Pass.{Kept, Queued, parts_enter, parts_leave}
use Rattle.p4_meaning.specs.Tables.{Tables}
use Rattle.p4_tables.specs.Named.{tables_in}
use Rattle.p4_tables.specs.Programs.{state_before}
use Rattle.indus_tree.specs.Tree as indus
use Rattle.indus_tree.specs.declared.tree.Ty.TheVariants as ty
use Rattle.indus_tree.specs.State.{Contents, members}
use Rattle.monitor_laws.specs.Trees.{number}
use Rattle.network_run.specs.Events.{Event, Set, closing}
use Rattle.network_run.specs.Network.{Net}
use Rattle.network_run.specs.World.{World, first_net}
use Rattle.switch_machines.specs.Programs.{Programs, machine_with}
use Rattle.control_maps.specs.Numbers.{Numbered, load_in}
use Rattle.wire_program.specs.WireProgram.{in_frame, wire_ingress}
use Rattle.path_runner.specs.Nets.{State, Switch, controls_of, run_in}
use Rattle.path_runner.specs.Starts.{state_before as net_before}
use Rattle.network_tests.specs.Routing.{byte_header, on_packet}

-- ---- the program

abbrev pub bytes : indus.Shape
bytes = indus.set (ty.Bit 8 ∷ [])

-- the names of a lookup: its table and its action, and the variables that hold its key and what it found
pub record Lookup : Type 0 where
  pub table : List ℕ
  pub action : List ℕ
  pub key : List ℕ
  pub found : List ℕ

abbrev pub first : Lookup
first = record { table = codes "hydra_t_0"; action = codes "hydra_a_0"; key = codes "hydra_k_0_0"; found = codes "hydra_f_0" }

abbrev pub second : Lookup
second = record { table = codes "hydra_t_1"; action = codes "hydra_a_1"; key = codes "hydra_k_1_0"; found = codes "hydra_f_1" }

abbrev pub variable : List ℕ → Expr
variable x = path 0 (x ∷ [])

-- what it declares
abbrev pub lookup_locals : Lookup → List Local
lookup_locals l =
    local_var 0 (type.Bit 8) l.key None
    ∷ local_var 0 (type.Bit 1) l.found None
    ∷ local_action 0 (record { at = 0; name = l.action; params = []; body = next (assign 0 (l.found ∷ []) (number 1 1)) done })
    ∷ local_table 0 (record {
      at = 0;
      name = l.table;
      keys = (variable l.key, codes "exact") ∷ [];
      actions = l.action ∷ codes "NoAction" ∷ [];
      default = Some (codes "NoAction", []);
      fixed = false;
      size = None;
    })
    ∷ []

abbrev pub drop : Stmts
drop = next (call 0 (codes "mark_to_drop" ∷ []) (one 0 (path 0 (codes "standard_metadata" ∷ [])) ∷ [])) done

-- the frame's byte is looked up, and the frame is dropped where it is not found
abbrev pub guard : Lookup → (goes : Stmts) → Stmts
guard l goes =
    next (assign 0 (l.found ∷ []) (number 1 0))
    (next (assign 0 (l.key ∷ []) (path 0 (byte_header ++ codes "byte" ∷ [])))
    (next (call 0 (l.table ∷ codes "apply" ∷ []) [])
    (next (choice 0 (binary 0 Equal (variable l.found) (number 1 1)) (block 0 goes) (otherwise (block 0 drop))) done)))

abbrev pub extract : ParserState
extract = record { at = 0; name = codes "start"; body = call 0 (codes "packet" ∷ codes "extract" ∷ []) (one 0 (path 0 byte_header) ∷ []) ∷ []; next = to 0 (codes "accept") }

abbrev pub guarding : Program
guarding =
    in_frame (header_type 0 (codes "byte_t") ((type.Bit 8, codes "byte") ∷ []) ∷ []) [] ((type.Named (codes "byte_t"), codes "first") ∷ []) (extract ∷ [])
    (lookup_locals first ++ lookup_locals second) wire_ingress (guard first (guard second done)) (on_packet (codes "emit"))

-- both tables hold variable 0
abbrev pub guards : List Numbered
guards =
    record { table = 0; action = 0; variable = 0; shape = bytes }
    ∷ record { table = 1; action = 1; variable = 0; shape = bytes }
    ∷ []

-- ---- the network

-- a set of bytes
abbrev pub set_of : List ℕ → Contents
set_of bs = members (map (λ b. word 8 b ∷ []) bs)

-- a switch that runs it, whose variable contains this
abbrev pub guard_switch : Contents → Switch
guard_switch c = record { program = guarding; tables = load_in guards (λ v. c) (state_before guarding); cells = λ x. [] }

-- one packet at port 1 of it, with a frame of one byte, which may pass one switch
abbrev pub guarded : Contents → (byte : ℕ) → State
guarded c b =
    net_before (record { names = codes "s1" ∷ []; links = [] }) (record { hops = 1; link = 65535 })
    (guard_switch c ∷ []) (guards ∷ []) (record { switch = 0; port = 1; frame = b ∷ [] } ∷ [])

-- the same as a world, with a schedule
abbrev pub guarded_world : Contents → (byte : ℕ) → List (Event Contents) → World Tables Contents
guarded_world c b es =
    record {
      hops = 1;
      entries = λ s. tables_in (parts_of guarding) (state_before guarding);
      contents = λ s v. c;
      packets = record { switch = 0; port = 1; frame = b ∷ [] } ∷ [];
      events = es;
    }

abbrev pub guard_programs : Programs
guard_programs = record { program = λ s. parts_of guarding; reads = λ s. [] }

-- the network after the schedule and the closing phase
unfoldable pub guarded_end : Contents → (byte : ℕ) → List (Event Contents) → Net Kept Queued Contents
unfolding parts_enter parts_leave state_before
guarded_end c b es =
    let s = guarded c b in
    run_in guard_programs s (first_net (machine_with (controls_of s) guard_programs) (guarded_world c b es))
    (es ++ closing 1 0 1)

-- the frames that left, and how many packets were dropped
abbrev pub frames_left : Net Kept Queued Contents → List (List ℕ)
frames_left w = map (λ x. x.frame) w.edges

-- new contents of a variable of the switch
abbrev pub set_bytes : (variable : ℕ) → List ℕ → Event Contents
set_bytes v bs = Set 0 v (set_of bs)
