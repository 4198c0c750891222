-- A control over slots does what it means.
use Rattle.std.proofs.Common.{◌≡◌, inl, ℕ, length, List, [], refl, sym, ap, ◌∙◌, subst, arith}
use Rattle.bit_values.specs.Bits.{Word}
use Rattle.p4_tree.specs.Tree.{Stmts}
use Rattle.p4_meaning.specs.Statements.{Flow, Go, Return, Exit, Run, Ended, Calls, after, no_calls, meaning_of}
use Rattle.p4_meaning.specs.Tables.{Tables}
use Rattle.p4_meaning.specs.Parts.{Cells, Body, whole}
use Rattle.p4_meaning.proofs.Sequences.{then_runs}
use Rattle.slot_terms.specs.Places.{Places, Follows}
use Rattle.slot_statements.specs.Runs.{Grows}
use Rattle.slot_statements.specs.Tables.{NumberedOutcome}
use Rattle.slot_statements.proofs.FlowLemmas.{follows_before, grows_same}
use Rattle.slot_controls.specs.Steps.{Steps, SlotRun, run_behind, run_all}
use Rattle.slot_controls.specs.Callees.{Callees, Fits, AreCells, AddsVariables, calls_of}
use Rattle.slot_controls.specs.StepRuns.{HoldsAlike, Stands, StepEnds, DoAllSteps}
use Rattle.slot_controls.proofs.LengthLemmas.{run_all_length}
use Rattle.slot_passages.specs.Codes.{ControlCode}
use Rattle.slot_passages.specs.Halves.{run_control}
use Rattle.slot_passages.specs.Programs.{IsControl, IsChecksum}
use Rattle.slot_passages.specs.Laws.{AreAlike}

-- no variable is added to places
adds_none : (m : Places) → AddsVariables m m
adds_none m = record { grows = grows_same m; next = omega arith; variables = λ p r e. inl e }

-- runs that are alike by other places, with the registers of callees
module _ (rs : List Cells) (base m n : Places) (calls : Calls) (held : Tables) (chosen : ℕ → List Word → NumberedOutcome) (k : Callees) (steps : Steps) (b : Stmts)
    (fits : Fits base k held chosen) (adds : AddsVariables base m) (same : k.registers ≡ rs) (calls_are : calls_of k held ≡ calls) (do_so : DoAllSteps k m n steps b) where
  stands : (u : SlotRun) (r : Run) → AreAlike rs m u r → Stands base k m held chosen u r
  stands u r alike = record {
    fits = fits;
    adds = adds;
    follows = alike.follows;
    headers = (let e : length m.headers ≡ length base.headers = ap length adds.grows.headers in omega (arith, alike.valid, e));
    beside = record { cells = subst (λ l. AreCells l u.cells r.cells) (sym same) alike.cells; digests = alike.digests };
  }

  part_ends : (u : SlotRun) (r : Run) → AreAlike rs m u r → StepEnds k m n (run_all chosen steps u) (meaning_of calls b r)
  part_ends u r alike = subst (λ (c : Calls). StepEnds k m n (run_all chosen steps u) (meaning_of c b r)) calls_are (do_so base held chosen u r (stands u r alike))

  alike_behind : (u : SlotRun) (r y : Run) (q : Places) → AreAlike rs m u r → HoldsAlike k (run_all chosen steps u).0 y → q.headers ≡ m.headers → Follows q (run_all chosen steps u).0.state.slots (run_all chosen steps u).0.state.valid y.store
      → AreAlike rs q (run_all chosen steps u).0 y
  alike_behind u r y q alike beside headers follows = record {
    follows = follows;
    valid = run_all_length chosen steps u ∙ alike.valid ∙ ap length (sym headers);
    cells = subst (λ l. AreCells l (run_all chosen steps u).0.cells y.cells) same beside.cells;
    digests = beside.digests;
  }

-- fewer places
alike_before : (rs : List Cells) (m n : Places) (u : SlotRun) (r : Run) → Grows m n → AreAlike rs n u r → AreAlike rs m u r
alike_before rs m n u r grows alike = record {
  follows = follows_before m n grows u.state r alike.follows;
  valid = alike.valid ∙ ap length grows.headers;
  cells = alike.cells;
  digests = alike.digests;
}

-- the body runs where what was before did not leave
then_alike :
    (rs : List Cells) (m : Places) (f g : Flow) (u : SlotRun) (y : Run) (more : SlotRun → SlotRun × Flow) (means : Run → Ended) → f ≡ g → AreAlike rs m u y → (g ≡ Go → AreAlike rs m (more u).0 (means y).0)
    → AreAlike rs m (run_behind f u more).0 (after g y means).0
then_alike rs m Go Go u y more means e kept next = next refl
then_alike rs m Go Return u y more means e kept next = absurd (cc e)
then_alike rs m Go Exit u y more means e kept next = absurd (cc e)
then_alike rs m Return Go u y more means e kept next = absurd (cc e)
then_alike rs m Return Return u y more means e kept next = kept
then_alike rs m Return Exit u y more means e kept next = absurd (cc e)
then_alike rs m Exit Go u y more means e kept next = absurd (cc e)
then_alike rs m Exit Return u y more means e kept next = absurd (cc e)
then_alike rs m Exit Exit u y more means e kept next = kept

pub control_does :
    (rs : List Cells) (m : Places) (calls : Calls) (held : Tables) (chosen : ℕ → List Word → NumberedOutcome) (c : ControlCode) (b : Body) → IsControl rs m calls held chosen c b
    → (u : SlotRun) (r : Run) → AreAlike rs m u r → AreAlike rs m (run_control chosen c u) (meaning_of calls (whole b) r).0
control_does rs m calls held chosen c b is u r alike =
    let k : Callees = is.callees in
    let x : SlotRun × Flow = run_all chosen c.settings u in
    let y : Ended = meaning_of calls b.locals r in
    let first : StepEnds k m is.behind x y = part_ends rs m m is.behind calls held chosen k c.settings b.locals is.fits (adds_none m) is.registers is.calls_are is.settings u r alike in
    let kept : AreAlike rs m x.0 y.0 = alike_behind rs m m is.behind calls held chosen k c.settings b.locals is.fits (adds_none m) is.registers is.calls_are is.settings u r y.0 m alike first.beside refl first.ends.kept in
    let next : y.1 ≡ Go → AreAlike rs m (run_all chosen c.body x.0).0 (meaning_of calls b.body y.0).0 = λ g.
    let grown : AreAlike rs is.behind x.0 y.0 =
    alike_behind rs m m is.behind calls held chosen k c.settings b.locals is.fits (adds_none m) is.registers is.calls_are is.settings u r y.0 is.behind alike first.beside is.grows.headers (first.ends.grown g) in
    let second : StepEnds k is.behind is.last (run_all chosen c.body x.0) (meaning_of calls b.body y.0) =
    part_ends rs m is.behind is.last calls held chosen k c.body b.body is.fits is.adds is.registers is.calls_are is.body x.0 y.0 grown in
    let all : AreAlike rs is.behind (run_all chosen c.body x.0).0 (meaning_of calls b.body y.0).0 =
    alike_behind rs m is.behind is.last calls held chosen k c.body b.body is.fits is.adds is.registers is.calls_are is.body x.0 y.0 (meaning_of calls b.body y.0).0 is.behind grown second.beside refl second.ends.kept in
    alike_before rs m is.behind (run_all chosen c.body x.0).0 (meaning_of calls b.body y.0).0 is.grows all in
    subst (λ (e : Ended). AreAlike rs m (run_control chosen c u) e.0) (sym (then_runs calls b.locals b.body r))
    (then_alike rs m x.1 y.1 x.0 y.0 (run_all chosen c.body) (meaning_of calls b.body) first.ends.flow kept next)

-- the same where no action is called and no table applied
pub checksum_does :
    (rs : List Cells) (m : Places) (held : Tables) (chosen : ℕ → List Word → NumberedOutcome) (c : ControlCode) (b : Stmts) → IsChecksum rs m held chosen c b
    → (u : SlotRun) (r : Run) → AreAlike rs m u r → AreAlike rs m (run_control chosen c u) (meaning_of no_calls b r).0
checksum_does rs m held chosen c b is u r alike =
    subst (λ ss. AreAlike rs m (run_control chosen c u) (meaning_of no_calls ss r).0) (sym is.is) (control_does rs m no_calls held chosen c is.body is.control u r alike)
