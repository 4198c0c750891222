-- What a switch keeps, beside its program.
use Rattle.std.proofs.Common.{◌≡◌, ◌<◌, ℕ, List, [], ◌++◌, length, Option, true, sym, ap, ap₂, subst, ◌∙◌}
use Rattle.p4_tree.specs.Tree.{Program}
use Rattle.p4_tree.specs.View.{program_of}
use Rattle.p4_meaning.specs.Statements.{Digest}
use Rattle.p4_meaning.specs.Parts.{Parts, parts_of}
use Rattle.p4_meaning.specs.Pass.{Registers, Queued, parts_enter}
use Rattle.p4_parts.specs.PartsIn.{parts_in}
use Rattle.p4_statements.specs.Runs.{cells_in}
use Rattle.p4_tables.specs.State.{Held}
use Rattle.p4_tables.specs.Programs.{IsStateOf, shapes}
use Rattle.p4_tables.specs.Named.{tables_in}
use Rattle.p4_machine.specs.Loaded.{fits_in}
use Rattle.p4_machine.specs.Passages.{exit_from, exit_behind, exit_in, passage_in}
use Rattle.p4_machine.specs.State.{State}
use Rattle.p4_machine.specs.Kept.{IsPlan}
use Rattle.p4_machine.specs.declared.plan.Plan.{Plan}
use Rattle.p4_machine.proofs.LoadedLemmas.{state_for, fit}

-- the parts of its plan, which it lends
pub lent_parts : (x y : Plan) → x ≡ y → IsPlan y → parts_in x.parts ≡ parts_of (program_of y.program)
lent_parts x y same is = ap (λ (x : Plan). parts_in x.parts) same ∙ is.parts

-- its tables fit its parts
pub parts_fit : (q : Parts) (p : Program) (st : List Held) → q ≡ parts_of p → IsStateOf p st → length (parts_of p).tables < 4294967296 → fits_in q.tables (shapes st) ≡ true
parts_fit q p st same is few = subst (λ (q : Parts). fits_in q.tables (shapes st) ≡ true) (sym same) (fit (parts_of p).tables (shapes st) (state_for p st is.same) few)

-- the exit half on its parts is that of its program
pub left_by : (q : Parts) (inside s : State) (ds : List Digest) (o w : Option Queued) → q ≡ parts_of (program_of inside.program) → inside ≡ s → ds ≡ [] → o ≡ w
    → exit_from q (tables_in q inside.tables) (cells_in inside.registers) ds o ≡ exit_in (program_of s.program) s.tables (cells_in s.registers) [] w
left_by q inside s ds o w same is none waits =
    ap (λ (q : Parts). exit_from q (tables_in q inside.tables) (cells_in inside.registers) ds o) same
    ∙ ap (λ (s : State). exit_in (program_of s.program) s.tables (cells_in s.registers) ds o) is
    ∙ ap₂ (λ (ds : List Digest) (o : Option Queued). exit_in (program_of s.program) s.tables (cells_in s.registers) ds o) none waits

-- and so is a passage
pub passed_by : (q : Parts) (inside s : State) (cells : Registers) (none ds : List Digest) (o : Option Queued) (port : ℕ) (frame : List ℕ) → q ≡ parts_of (program_of inside.program) → inside ≡ s → none ≡ []
    → (let e = parts_enter q (tables_in q inside.tables) (cells_in inside.registers) port frame in cells ≡ e.registers → ds ≡ none ++ e.digests → o ≡ e.queued
    → exit_from q (tables_in q inside.tables) cells ds o ≡ passage_in (program_of s.program) s.tables (cells_in s.registers) port frame)
passed_by q inside s cells none ds o port frame same is empty kept told waits =
    let t = tables_in q inside.tables in
    let e = parts_enter q t (cells_in inside.registers) port frame in
    ap (λ (l : Registers). exit_from q t l ds o) kept
    ∙ ap₂ (λ (d : List Digest) (w : Option Queued). exit_from q t e.registers d w) (told ∙ ap (λ d. d ++ e.digests) empty) waits
    ∙ ap (λ (q : Parts). exit_behind q (tables_in q inside.tables) (parts_enter q (tables_in q inside.tables) (cells_in inside.registers) port frame)) same
    ∙ ap (λ (s : State). passage_in (program_of s.program) s.tables (cells_in s.registers) port frame) is
