-- The stores along both halves of a passage of a well-typed program fit the program. Read `FitStores` before it.
use Rattle.std.specs.Prelude.{◌≡◌, ℕ, List, [], length, Some}
use Rattle.bit_values.specs.Bytes.{bits_of}
use Rattle.p4_tree.specs.Tree.{Stmts, Program}
use Rattle.p4_meaning.specs.Statements.{Run, no_calls, meaning_of}
use Rattle.p4_meaning.specs.Parsing.{Reading, ParserEnd, parse_of}
use Rattle.p4_meaning.specs.Tables.{Tables, calls_in}
use Rattle.p4_meaning.specs.Parts.{Parts, whole, parts_of}
use Rattle.p4_meaning.specs.Pass.{Registers, Queued, Going, store_before, store_behind, run_from, entered_from, left_behind, enter_of, leave_of}
use Rattle.p4_rules.specs.ProgramRules.{IsWellTyped}
use Rattle.passage_stores.specs.FitStores.{IsFit, IsFitQueued, IsFitReading}

-- ---- where a passage comes to

-- the reading before the parser
abbrev pub reading_before : Parts → (port : ℕ) (frame : List ℕ) → Reading
reading_before p port frame = record { store = store_before p port (length frame); rest = bits_of frame }

-- how the parser ends
abbrev pub parser_end_of : Parts → (port : ℕ) (frame : List ℕ) → ParserEnd
parser_end_of p port frame = parse_of p.headers p.states (reading_before p port frame)

-- the runs in front of verify checksum, of ingress and of egress
abbrev pub verify_run : Parts → Registers → (port : ℕ) (frame : List ℕ) → Run
verify_run p cells port frame = run_from (store_behind (parser_end_of p port frame)) cells

abbrev pub ingress_run : Parts → Registers → (port : ℕ) (frame : List ℕ) → Run
ingress_run p cells port frame = (meaning_of no_calls p.verify (verify_run p cells port frame)).0

abbrev pub egress_run : Registers → Queued → Run
egress_run cells q = run_from q.store cells

-- the runs at the ends of ingress and egress
abbrev pub ingress_end : Parts → Tables → Registers → (port : ℕ) (frame : List ℕ) → Run
ingress_end p held cells port frame = (meaning_of (calls_in p.actions p.tables held) (whole p.ingress) (ingress_run p cells port frame)).0

abbrev pub egress_end : Parts → Tables → Registers → Queued → Run
egress_end p held cells q = (meaning_of (calls_in p.actions p.tables held) (whole p.egress) (egress_run cells q)).0

-- the run in front of compute checksum, in which no register is in sight
abbrev pub compute_run : Parts → Tables → Registers → Queued → Run
compute_run p held cells q = run_from (egress_end p held cells q).store (λ x. [])

-- ---- the law

-- whatever tables and registers hold, whatever comes and by whatever port. In the exit half, whatever is queued in a store
-- that fits
pub record StoresFitAlong (p : Program) : Type 0 where
  -- the halves are these runs
  pub enters :
      (held : Tables) (cells : Registers) (port : ℕ) (frame : List ℕ)
      → enter_of p held cells port frame ≡ entered_from (parts_of p) held (parser_end_of (parts_of p) port frame).reading.rest (ingress_run (parts_of p) cells port frame)
  pub leaves : (held : Tables) (cells : Registers) (q : Queued) → leave_of p held cells q ≡ left_behind (parts_of p) q.rest (egress_end (parts_of p) held cells q)
  -- whatever statements do
  pub statements : (held : Tables) (ss : Stmts) (r : Run) → IsFit (parts_of p) r.store → IsFit (parts_of p) (meaning_of (calls_in (parts_of p).actions (parts_of p).tables held) ss r).0.store
  pub bare_statements : (ss : Stmts) (r : Run) → IsFit (parts_of p) r.store → IsFit (parts_of p) (meaning_of no_calls ss r).0.store
  -- before the parser and where it ends, with an error or without
  pub start : (port : ℕ) (frame : List ℕ) → IsFitReading (parts_of p) (reading_before (parts_of p) port frame)
  pub parsed : (port : ℕ) (frame : List ℕ) → IsFitReading (parts_of p) (parser_end_of (parts_of p) port frame).reading
  pub verify : (cells : Registers) (port : ℕ) (frame : List ℕ) → IsFit (parts_of p) (verify_run (parts_of p) cells port frame).store
  pub ingress : (cells : Registers) (port : ℕ) (frame : List ℕ) → IsFit (parts_of p) (ingress_run (parts_of p) cells port frame).store
  pub ingress_ends : (held : Tables) (cells : Registers) (port : ℕ) (frame : List ℕ) → IsFit (parts_of p) (ingress_end (parts_of p) held cells port frame).store
  -- what the entry half shows and queues
  pub entry : (held : Tables) (cells : Registers) (port : ℕ) (frame : List ℕ) → IsFit (parts_of p) (enter_of p held cells port frame).entry_state
  pub queued : (held : Tables) (cells : Registers) (port : ℕ) (frame : List ℕ) (q : Queued) → (enter_of p held cells port frame).queued ≡ Some q → IsFitQueued (parts_of p) q
  -- the exit half, where compute checksum begins in the store in which egress ended
  pub egress_ends : (held : Tables) (cells : Registers) (q : Queued) → IsFitQueued (parts_of p) q → IsFit (parts_of p) (egress_end (parts_of p) held cells q).store
  pub computed : (held : Tables) (cells : Registers) (q : Queued) → IsFitQueued (parts_of p) q → IsFit (parts_of p) (meaning_of no_calls (parts_of p).compute (compute_run (parts_of p) held cells q)).0.store
  pub exit : (held : Tables) (cells : Registers) (q : Queued) (g : Going) → IsFitQueued (parts_of p) q → (leave_of p held cells q).going ≡ Some g → IsFit (parts_of p) g.exit_state

abbrev pub PassageStoresFit : Type 0
PassageStoresFit = (p : Program) → IsWellTyped p → StoresFitAlong p
