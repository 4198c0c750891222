-- The parser states that a linked program begins with: they ask how the frame arrived, take the telemetry where it stands,
-- and keep the packet's length without it. All places are 0.
use Rattle.std.specs.Prelude.{codes, ℕ, List, [], ◌∷◌, map, if◌then◌else◌}
use Rattle.lex_text.specs.Names.{same_text}
use Rattle.p4_tree.specs.Tree.{path, binary, one, assign, call, any, only, Case, Transition, nowhere, to, select, ParserState}
use Rattle.p4_tree.specs.declared.statement.Op.TheVariants as p4
use Rattle.p4_meaning.specs.Standard.{ingress_port, packet_length}
use Rattle.packet_lengths.specs.Lengths.{length_path, plain_state}
use Rattle.monitor_laws.specs.Names.{tele_header}
use Rattle.monitor_laws.specs.Trees.{number}

-- a frame that came by a link begins with the telemetry
abbrev pub link_case : ℕ → Case
link_case n = record { keys = only 0 (number 0 n) ∷ []; next = codes "hydra_taken" }

abbrev pub last_case : Case
last_case = record { keys = any 0 ∷ []; next = codes "hydra_start" }

abbrev pub link_cases : List ℕ → List Case
link_cases [] = last_case ∷ []
link_cases (n ∷ ns) = link_case n ∷ link_cases ns

-- the length is that of the packet, and behind the telemetry, of so many bytes, it is less by them
abbrev pub first_state : (linked_ports : List ℕ) → ParserState
first_state linked_ports =
    record {
      at = 0;
      name = codes "start";
      body = assign 0 length_path (path 0 packet_length) ∷ [];
      next = select 0 (path 0 ingress_port ∷ []) (link_cases linked_ports);
    }

-- packet: how the parser names its packet
abbrev pub taken_state : (packet : List ℕ) (size : ℕ) → ParserState
taken_state packet size =
    record {
      at = 0;
      name = codes "hydra_taken";
      body =
          call 0 (packet ∷ codes "extract" ∷ []) (one 0 (path 0 tele_header) ∷ [])
          ∷ assign 0 length_path (binary 0 p4.Sub (path 0 packet_length) (number 0 size)) ∷ [];
      next = to 0 (codes "hydra_start");
    }

-- the program's own first state is renamed, and its other states may lead to it
abbrev pub own_name : List ℕ → List ℕ
own_name x = if same_text x (codes "start") then codes "hydra_start" else x

abbrev pub renamed_case : Case → Case
renamed_case c = record c { next = own_name c.next }

abbrev pub renamed_transition : Transition → Transition
renamed_transition (nowhere p) = nowhere p
renamed_transition (to p x) = to p (own_name x)
renamed_transition (select p es cs) = select p es (map renamed_case cs)

abbrev pub renamed_state : ParserState → ParserState
renamed_state s = record s { name = own_name s.name; next = renamed_transition s.next }

-- they read the length without telemetry
abbrev pub own_state : ParserState → ParserState
own_state s = renamed_state (plain_state s)

-- how the frame arrived, the telemetry where it stands, and then the program's own states
abbrev pub linked_states : (packet : List ℕ) (size : ℕ) (linked_ports : List ℕ) → List ParserState → List ParserState
linked_states packet size linked_ports own = first_state linked_ports ∷ taken_state packet size ∷ map own_state own
