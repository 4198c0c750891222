-- A P4 program with an action and a table: a frame of one byte goes by the port that the table has for the byte, and is
-- dropped where it has none. All places are 0.
use Rattle.std.specs.Prelude.{codes, ℕ, List, [], ◌∷◌, true, false, Option, None}
use Rattle.std.specs.Option.{option_map}
use Rattle.bit_values.specs.Bits.{Word, word}
use Rattle.p4_tree.specs.Tree.{path, one, Stmts, block, assign, choice, call, done, next, otherwise, applied, to, Local, local_action, local_table, header_type, struct_type, parser, control, Program}
use Rattle.p4_tree.specs.declared.statement.PTy.TheVariants as type
use Rattle.p4_meaning.specs.Standard.{egress_spec, egress_port}
use Rattle.p4_meaning.specs.Choice.{Entry, exact}
use Rattle.p4_meaning.specs.Parts.{parts_of}
use Rattle.p4_meaning.specs.Tables.{Chosen, Tables}
use Rattle.p4_meaning.specs.Pass.{parts_enter}
use Rattle.wire_program.specs.WireProgram.{parser_params, deparser_params, two_params, three_params, main_names, control_of}

abbrev pub byte_header : List (List ℕ)
byte_header = codes "hdr" ∷ codes "first" ∷ []

-- the action `go` sends by a port, and the table `ways` has it for bytes
abbrev pub locals : List Local
locals =
    local_action 0 (record { at = 0; name = codes "go"; params = (type.Bit 9, codes "port") ∷ []; body = next (assign 0 egress_spec (path 0 (codes "port" ∷ []))) done })
    ∷ local_table 0 (record {
      at = 0;
      name = codes "ways";
      keys = (path 0 (codes "hdr" ∷ codes "first" ∷ codes "byte" ∷ []), codes "exact") ∷ [];
      actions = codes "go" ∷ [];
      default = None;
      fixed = false;
      size = None;
    })
    ∷ []

-- where the table misses, the frame is dropped
abbrev pub ingress : Stmts
ingress = next (choice 0 (applied 0 (codes "ways") true) (block 0 done) (otherwise (call 0 (codes "mark_to_drop" ∷ []) (one 0 (path 0 (codes "standard_metadata" ∷ [])) ∷ [])))) done

abbrev pub on_packet : List ℕ → Stmts
on_packet verb = next (call 0 (codes "packet" ∷ verb ∷ []) (one 0 (path 0 byte_header) ∷ [])) done

abbrev pub routing : Program
routing =
    record {
      at = 0;
      tops =
          header_type 0 (codes "byte_t") ((type.Bit 8, codes "byte") ∷ [])
          ∷ struct_type 0 (codes "metadata") []
          ∷ struct_type 0 (codes "headers") ((type.Named (codes "byte_t"), codes "first") ∷ [])
          ∷ parser 0 (record {
            at = 0;
            name = codes "WireParser";
            params = parser_params;
            states = record { at = 0; name = codes "start"; body = call 0 (codes "packet" ∷ codes "extract" ∷ []) (one 0 (path 0 byte_header) ∷ []) ∷ []; next = to 0 (codes "accept") } ∷ [];
          })
          ∷ control_of (codes "WireVerify") two_params done
          ∷ control 0 (record { at = 0; name = codes "WireIngress"; params = three_params; locals = locals; apply = ingress })
          ∷ control_of (codes "WireEgress") three_params done
          ∷ control_of (codes "WireCompute") two_params done
          ∷ control_of (codes "WireDeparser") deparser_params (on_packet (codes "emit"))
          ∷ [];
      main = main_names;
    }

-- `go` by a port, by its full name
abbrev pub go_by : ℕ → Chosen
go_by n = record { action = codes "go.WireIngress"; args = word 9 n ∷ [] }

-- an entry for a byte
abbrev pub way_of : (byte port : ℕ) → Entry
way_of b n = record { keys = exact (word 8 b) ∷ []; action = (go_by n).action; args = (go_by n).args; priority = 0 }

-- every table holds this
abbrev pub holding : List Entry → Chosen → Tables
holding es d x = record { listed = es; default = d }

abbrev pub nothing : Chosen
nothing = record { action = codes "NoAction"; args = [] }

-- the port by which a frame of a byte goes on from ingress, where it is not dropped
unfoldable pub port_for : Tables → (byte : ℕ) → Option Word
unfolding parts_enter
port_for held b = option_map (λ q. q.store.values egress_port) (parts_enter (parts_of routing) held (λ x. []) 1 (b ∷ [])).queued
