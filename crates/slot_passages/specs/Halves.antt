-- What the two halves of a passage do over numbered slots, by the code of a program and what tables choose. Read `Codes`
-- before it, `Metadata` of `slot_metadata` and `Emits` of `slot_deparsers`; `Programs` after it.
use Rattle.std.specs.Prelude.{ℕ, List, [], ◌++◌, length, take, drop, Bool, if◌then◌else◌, Option, Some, None}
use Rattle.std.specs.Option.{option_map}
use Rattle.bit_values.specs.Bits.{Word}
use Rattle.bit_values.specs.Bytes.{bits_of}
use Rattle.bit_writer.specs.Bytes.{bytes_of}
use Rattle.slot_terms.specs.States.{State}
use Rattle.slot_statements.specs.Tables.{NumberedOutcome}
use Rattle.slot_controls.specs.Steps.{SlotRun, in_state, run_behind, run_all}
use Rattle.slot_parsers.specs.ParserCodes.{SlotReading, SlotEnd, parsed}
use Rattle.slot_parsers.specs.Code.{reading_at}
use Rattle.slot_metadata.specs.Metadata.{started, with_error, drops, turned, port_of}
use Rattle.slot_deparsers.specs.Emits.{emitted_bits}
use Rattle.slot_passages.specs.Codes.{ControlCode, ProgramCode}
use Rattle.slot_passages.specs.declared.passage.Out as code_out

-- ---- what comes of them

-- what the entry half leaves: the slots, registers and digests, and where the packet waits the bits that the parser left
pub record SlotEntered : Type 0 where
  pub run : SlotRun
  pub rest : Option (List ℕ)

-- what the exit half leaves: the same, and where the packet goes, the port and the frame
pub record SlotLeft : Type 0 where
  pub run : SlotRun
  pub going : Option (ℕ × List ℕ)

-- the same as the code has it: how far the parser came in the frame, and how many bytes of a buffer are the frame
abbrev pub entered_of : Option ℕ → SlotRun → (frame : List ℕ) → SlotEntered
entered_of at u frame = record { run = u; rest = option_map (λ i. drop i (bits_of frame)) at }

abbrev pub left_of : Option code_out.Out → SlotRun → (buffer : List ℕ) → SlotLeft
left_of out u buffer = record { run = u; going = option_map (λ (o : code_out.Out). (o.port, take o.length buffer)) out }

-- ---- their parts

-- the slots behind the parser, with its error, and the bits that are left
abbrev pub behind_end : SlotEnd → SlotReading
behind_end e = record { state = with_error e.error e.reading.state; rest = e.reading.rest }

abbrev pub behind_parser : ProgramCode → (port : ℕ) → (frame : List ℕ) → State → SlotReading
behind_parser c port frame s = behind_end (parsed c.headers c.parser (reading_at (started port (length frame) s) frame 0))

-- the packet waits, unless it is dropped
abbrev pub waiting_if : (drops : Bool) → SlotRun → (rest : List ℕ) → SlotEntered
waiting_if b u rest = if b then record { run = u; rest = None } else record { run = in_state u (turned u.state); rest = Some rest }

abbrev pub waiting : SlotRun → (rest : List ℕ) → SlotEntered
waiting u rest = waiting_if (drops u.state) u rest

-- the frame that a deparser makes
abbrev pub frame_of : ProgramCode → State → (rest : List ℕ) → List ℕ
frame_of c s rest = bytes_of (emitted_bits c.headers c.emits s ++ rest)

module _ (chosen : ℕ → List Word → NumberedOutcome) where
  -- a control: its variables are set first, and its body runs where that did not leave
  abbrev pub run_control : ControlCode → SlotRun → SlotRun
  run_control c u = (run_behind (run_all chosen c.settings u).1 (run_all chosen c.settings u).0 (run_all chosen c.body)).0

  -- verify checksum and ingress
  abbrev pub run_entry : ProgramCode → SlotRun → SlotRun
  run_entry c u = run_control c.ingress (run_control c.verify u)

  -- compute checksum, in which no register is in sight
  abbrev pub computed : ProgramCode → State → State
  computed c s = (run_control c.compute (record { state = s; cells = []; digests = [] })).state

  -- the packet goes, unless it is dropped
  abbrev pub going_if : (drops : Bool) → ProgramCode → SlotRun → (rest : List ℕ) → SlotLeft
  going_if b c u rest = if b then record { run = u; going = None } else record { run = in_state u (computed c u.state); going = Some (port_of u.state, frame_of c (computed c u.state) rest) }

  -- ---- the halves

  -- a frame enters by a port: parser, verify checksum, ingress
  abbrev pub enter : ProgramCode → (port : ℕ) → (frame : List ℕ) → SlotRun → SlotEntered
  enter c port frame u = waiting (run_entry c (in_state u (behind_parser c port frame u.state).state)) (behind_parser c port frame u.state).rest

  -- what waits leaves: egress, compute checksum, deparser
  abbrev pub leave : ProgramCode → (rest : List ℕ) → SlotRun → SlotLeft
  leave c rest u = going_if (drops (run_control c.egress u).state) c (run_control c.egress u) rest
