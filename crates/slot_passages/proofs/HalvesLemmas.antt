-- The halves of a passage over slots are those of the trees' meaning.
use Rattle.std.proofs.Common.{◌≡◌, ℕ, List, [], ◌++◌, length, Bool, true, false, Some, refl, sym, ap, ap₂, ◌∙◌, subst}
use Rattle.std.proofs.lemmas.List.{length-replicate}
use Rattle.bit_values.specs.Bits.{Word, cast}
use Rattle.bit_values.specs.Bytes.{bits_of}
use Rattle.bit_values.proofs.BytesLemmas.{AreBits-bits_of}
use Rattle.bit_writer.specs.Bytes.{bytes_of}
use Rattle.p4_meaning.specs.Standard.{egress_port}
use Rattle.p4_meaning.specs.Store.{Store}
use Rattle.p4_meaning.specs.Statements.{Run, no_calls, meaning_of}
use Rattle.p4_meaning.specs.Parsing.{Reading, ParserEnd, parse_of, deparse_of}
use Rattle.p4_meaning.specs.Tables.{Tables}
use Rattle.p4_meaning.specs.Parts.{Parts, whole}
use Rattle.p4_meaning.specs.Pass as meaning
use Rattle.p4_meaning.specs.Pass.{Registers, Queued, Entered, Leaving, store_before, store_behind, run_from, is_dropped, unless_dropped, to_egress, entered, left, parts_enter, parts_leave}
use Rattle.slot_terms.specs.Places.{Places}
use Rattle.slot_terms.specs.States.{State}
use Rattle.slot_statements.specs.Tables.{NumberedOutcome}
use Rattle.slot_packets.specs.Queued.{store_in}
use Rattle.slot_controls.specs.Steps.{SlotRun, in_state}
use Rattle.slot_controls.specs.Callees.{AreCells}
use Rattle.slot_parsers.specs.ParserCodes.{SlotReading, parsed}
use Rattle.slot_parsers.specs.Parses.{Reads, EndsAlike}
use Rattle.slot_parsers.specs.Code.{reading_at}
use Rattle.slot_metadata.specs.Metadata.{started, with_error, drops, turned, port_of}
use Rattle.slot_metadata.specs.Laws.{FollowsIn, IsStored, Waits}
use Rattle.slot_metadata.proofs.AboveLemmas.{are_program}
use Rattle.slot_metadata.proofs.StartLemmas.{starts_follow}
use Rattle.slot_metadata.proofs.TurnLemmas.{errors_follow, drops_agree, turns_wait, ports_agree}
use Rattle.slot_deparsers.specs.Emits.{emitted_bits, numbers_of}
use Rattle.slot_deparsers.proofs.EmitLemmas.{deparsers_emit}
use Rattle.slot_parsers.specs.Parses.{heads_of}
use Rattle.slot_passages.specs.Codes.{ProgramCode}
use Rattle.slot_passages.specs.Halves.{behind_parser, waiting_if, frame_of, run_control, run_entry, computed, going_if, enter, leave}
use Rattle.slot_passages.specs.Programs.{IsProgramCode}
use Rattle.slot_passages.specs.Laws.{Begins, AreAlike, EntersAlike, LeavesAlike, EntriesAgree, ExitsAgree}
use Rattle.slot_passages.proofs.ControlLemmas.{control_does, checksum_does}

module _ (p : Parts) (room : ℕ) (m : Places) (held : Tables) (chosen : ℕ → List Word → NumberedOutcome) (c : ProgramCode) (is : IsProgramCode p room m held chosen c) where
  -- ---- the entry half

  -- behind the parser
  module _ (port : ℕ) (frame : List ℕ) (u : SlotRun) (cells : Registers) (begins : Begins p.registers m u cells) where
    abbrev first : SlotReading
    first = reading_at (started port (length frame) u.state) frame 0

    abbrev before : Reading
    before = record { store = store_before p port (length frame); rest = bits_of frame }

    reads : Reads m first before
    reads = record {
      follows = starts_follow p room m port (length frame) u.state is.placed begins.size.slots;
      rest = refl;
      bits = AreBits-bits_of frame;
      valid = length-replicate {A = Bool} (length u.state.valid) false ∙ begins.size.valid;
    }

    abbrev end : ParserEnd
    end = parse_of p.headers p.states before

    ends : EndsAlike m (parsed c.headers c.parser first) end
    ends = is.parser first before reads

    abbrev behind : SlotReading
    behind = behind_parser c port frame u.state

    follows_behind : FollowsIn m behind.state (store_behind end)
    follows_behind =
        subst (λ e. FollowsIn m (with_error e (parsed c.headers c.parser first).reading.state) (store_behind end)) (sym ends.error)
        (errors_follow p room m (parsed c.headers c.parser first).reading.state end is.placed ends.reads.follows)

    parsed_alike : AreAlike p.registers m (in_state u behind.state) (run_from (store_behind end) cells)
    parsed_alike = record { follows = follows_behind; valid = ends.reads.valid; cells = begins.cells; digests = begins.digests }

  -- what waits
  waits :
      (u : SlotRun) (r : Run) (entry : Store) (rest bits : List ℕ) (b d : Bool) → AreAlike p.registers m u r → rest ≡ bits → b ≡ d
      → EntersAlike p m (waiting_if b u rest) (record { registers = r.cells; digests = r.digests; entry_state = entry; queued = unless_dropped d (record { store = to_egress p r.store; rest = bits }) })
  waits u r entry rest bits true true alike same e = record { size = record { slots = alike.follows.room; valid = alike.valid }; cells = alike.cells; digests = alike.digests; queued = refl; stored = tt }
  waits u r entry rest bits true false alike same e = absurd (cc e)
  waits u r entry rest bits false true alike same e = absurd (cc e)
  waits u r entry rest bits false false alike same e =
      let w : Waits p m (turned u.state) r.store = turns_wait p room m u.state r.store is.placed alike.follows in
      record {
        size = record { slots = w.stored.room; valid = alike.valid };
        cells = alike.cells;
        digests = alike.digests;
        queued = ap₂ (λ (t : Store) (l : List ℕ). (let q : Queued = record { store = t; rest = l } in Some q)) (sym w.is) same;
        stored = w.stored;
      }

  pub entry_agrees : (port : ℕ) (frame : List ℕ) (u : SlotRun) (cells : Registers) → Begins p.registers m u cells → EntersAlike p m (enter chosen c port frame u) (parts_enter p held cells port frame)
  unfolding parts_enter
  entry_agrees port frame u cells begins =
      let parsed_run : SlotRun = in_state u (behind port frame u cells begins).state in
      let start : Run = run_from (store_behind (end port frame u cells begins)) cells in
      let verified : Run = (meaning_of no_calls p.verify start).0 in
      let verify : AreAlike p.registers m (run_control chosen c.verify parsed_run) verified =
      checksum_does p.registers m held chosen c.verify p.verify is.verify parsed_run start (parsed_alike port frame u cells begins) in
      let all : AreAlike p.registers m (run_entry chosen c parsed_run) (meaning_of (meaning.calls_of p held) (whole p.ingress) verified).0 =
      control_does p.registers m (meaning.calls_of p held) held chosen c.ingress p.ingress is.ingress (run_control chosen c.verify parsed_run) verified verify in
      let left_over = (ends port frame u cells begins).reads.rest in
      waits (run_entry chosen c parsed_run) (meaning_of (meaning.calls_of p held) (whole p.ingress) verified).0 verified.store
      (behind port frame u cells begins).rest (end port frame u cells begins).reading.rest (drops (run_entry chosen c parsed_run).state) (is_dropped (meaning_of (meaning.calls_of p held) (whole p.ingress) verified).0.store)
      all left_over (sym (drops_agree p room m (run_entry chosen c parsed_run).state (meaning_of (meaning.calls_of p held) (whole p.ingress) verified).0.store is.placed all.follows))

  -- ---- the exit half

  -- the frame that goes out
  frame_is : (s : State) (t : Store) (rest : List ℕ) → FollowsIn m s t → frame_of c s rest ≡ bytes_of (deparse_of p.headers p.emits t ++ rest)
  frame_is s t rest follows =
      let bits : emitted_bits (heads_of p) (numbers_of m.headers p.emits) s ≡ deparse_of p.headers p.emits t = deparsers_emit p m s t (are_program p room m is.placed) follows in
      ap₂ (λ hs ns. bytes_of (emitted_bits hs ns s ++ rest)) is.headers is.emits ∙ ap (λ l. bytes_of (l ++ rest)) bits

  goes :
      (u : SlotRun) (r : Run) (rest : List ℕ) (b d : Bool) → AreAlike p.registers m u r → b ≡ d
      → LeavesAlike p m (going_if chosen b c u rest)
      (record {
        registers = r.cells;
        digests = r.digests;
        going = unless_dropped d (record { port = cast 9 (r.store.values egress_port).value; frame = bytes_of (deparse_of p.headers p.emits (meaning_of no_calls p.compute (run_from r.store (λ x. []))).0.store ++ rest); exit_state = r.store });
      })
  goes u r rest true true alike e = record { size = record { slots = alike.follows.room; valid = alike.valid }; cells = alike.cells; digests = alike.digests; going = refl }
  goes u r rest true false alike e = absurd (cc e)
  goes u r rest false true alike e = absurd (cc e)
  goes u r rest false false alike e =
      let bare : SlotRun = record { state = u.state; cells = []; digests = [] } in
      let none : AreCells [] [] (λ x. []) = record { wide = tt; named = λ x. refl } in
      let start : Run = run_from r.store (λ x. []) in
      let alike_bare : AreAlike [] m bare start = record { follows = alike.follows; valid = alike.valid; cells = none; digests = refl } in
      let all : AreAlike [] m (run_control chosen c.compute bare) (meaning_of no_calls p.compute start).0 = checksum_does [] m held chosen c.compute p.compute is.compute bare start alike_bare in
      let port : cast 9 (r.store.values egress_port).value ≡ port_of u.state = ports_agree p room m u.state r.store is.placed alike.follows in
      record {
        size = record { slots = all.follows.room; valid = all.valid };
        cells = alike.cells;
        digests = alike.digests;
        going = ap₂ (λ (i : ℕ) (l : List ℕ). (let g : ℕ × List ℕ = (i, l) in Some g)) (sym port) (frame_is (computed chosen c u.state) (meaning_of no_calls p.compute start).0.store rest all.follows);
      }

  pub exit_agrees :
      (rest : List ℕ) (u : SlotRun) (cells : Registers) → Begins p.registers m u cells → IsStored m u.state
      → LeavesAlike p m (leave chosen c rest u) (parts_leave p held cells (record { store = store_in m u.state.slots u.state.valid; rest = rest }))
  unfolding parts_leave
  exit_agrees rest u cells begins stored =
      let start : Run = run_from (store_in m u.state.slots u.state.valid) cells in
      let alike : AreAlike p.registers m u start = record { follows = stored; valid = begins.size.valid; cells = begins.cells; digests = begins.digests } in
      let all : AreAlike p.registers m (run_control chosen c.egress u) (meaning_of (meaning.calls_of p held) (whole p.egress) start).0 =
      control_does p.registers m (meaning.calls_of p held) held chosen c.egress p.egress is.egress u start alike in
      goes (run_control chosen c.egress u) (meaning_of (meaning.calls_of p held) (whole p.egress) start).0 rest (drops (run_control chosen c.egress u).state)
      (is_dropped (meaning_of (meaning.calls_of p held) (whole p.egress) start).0.store) all
      (sym (drops_agree p room m (run_control chosen c.egress u).state (meaning_of (meaning.calls_of p held) (whole p.egress) start).0.store is.placed all.follows))

pub entries_agree : EntriesAgree
entries_agree p room m held chosen c is port frame u cells begins = entry_agrees p room m held chosen c is port frame u cells begins

pub exits_agree : ExitsAgree
exits_agree p room m held chosen c is rest u cells begins stored = exit_agrees p room m held chosen c is rest u cells begins stored
