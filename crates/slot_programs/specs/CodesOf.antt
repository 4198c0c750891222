-- What code of a program, or of a part of it, does wherever its tables choose by numbers. Read `Chooses` before it, and
-- `Programs` of `slot_passages`.
use Rattle.std.specs.Prelude.{◌≡◌, ℕ, ◌+◌, ◌≤◌, List, []}
use Rattle.bit_values.specs.Bits.{Word}
use Rattle.p4_tree.specs.Tree.{Stmts}
use Rattle.p4_meaning.specs.Tables.{Tables}
use Rattle.p4_meaning.specs.Parts.{Cells, Body, Parts}
use Rattle.p4_meaning.specs.Pass.{calls_of}
use Rattle.p4_meaning.specs.DigestBound.{enter_bound, leave_bound}
use Rattle.slot_terms.specs.Places.{Places}
use Rattle.slot_statements.specs.Tables.{NumberedOutcome}
use Rattle.slot_statements.specs.Runs.{Grows}
use Rattle.slot_controls.specs.Callees.{AddsVariables, Callees}
use Rattle.slot_controls.specs.StepRuns.{DoAllSteps}
use Rattle.slot_parsers.specs.Parses.{Parses, heads_of}
use Rattle.slot_deparsers.specs.Emits.{numbers_of}
use Rattle.slot_passages.specs.Codes.{ControlCode, ProgramCode}
use Rattle.slot_passages.specs.Room.{most_digests}
use Rattle.slot_passages.specs.Programs.{IsControl, IsChecksum, IsProgramCode}
use Rattle.slot_programs.specs.Chooses.{Chooses}

-- the code is that of a control
abbrev pub IsControlOf : Parts → Places → Body → ControlCode → Type 0
IsControlOf p m b c = (held : Tables) (chosen : ℕ → List Word → NumberedOutcome) → Chooses p held chosen → IsControl p.registers m (calls_of p held) held chosen c b

-- of verify or compute checksum, over these registers
abbrev pub IsChecksumOf : Parts → List Cells → Places → Stmts → ControlCode → Type 0
IsChecksumOf p rs m ss c = (held : Tables) (chosen : ℕ → List Word → NumberedOutcome) → Chooses p held chosen → IsChecksum rs m held chosen c ss

-- of a program
abbrev pub IsCodeOf : Parts → (room : ℕ) → Places → ProgramCode → Type 0
IsCodeOf p room m c = (held : Tables) (chosen : ℕ → List Word → NumberedOutcome) → Chooses p held chosen → IsProgramCode p room m held chosen c

-- ---- what serves the proof

-- the steps of a control by what its calls stand for: those that set its variables, and those of its body behind them
pub record AreStepsOf (k : Callees) (m : Places) (b : Body) (c : ControlCode) : Type 0 where
  pub behind : Places
  pub last : Places
  pub grows : Grows m behind
  pub adds : AddsVariables m behind
  pub settings : DoAllSteps k m behind c.settings b.locals
  pub body : DoAllSteps k behind last c.body b.body

-- the codes of a program's controls, which give no more digests than the program's statements
pub record AreControlsOf (p : Parts) (m : Places) (verify ingress egress compute : ControlCode) : Type 0 where
  pub verify_is : IsChecksumOf p p.registers m p.verify verify
  pub ingress_is : IsControlOf p m p.ingress ingress
  pub egress_is : IsControlOf p m p.egress egress
  pub compute_is : IsChecksumOf p [] m p.compute compute
  pub enter_told : most_digests verify + most_digests ingress ≤ enter_bound p
  pub leave_told : most_digests egress ≤ leave_bound p
  pub silent : most_digests compute ≡ 0

-- the code of a program by its places
pub record IsCodeAt (p : Parts) (m : Places) (c : ProgramCode) : Type 0 where
  pub headers : c.headers ≡ heads_of p
  pub parser : Parses m c.headers p c.parser
  pub controls : AreControlsOf p m c.verify c.ingress c.egress c.compute
  pub emits : c.emits ≡ numbers_of m.headers p.emits
