-- Codes of controls, and of a program, do what these mean.
use Rattle.std.proofs.Common.{◌≡◌, ℕ, ◌+◌, List, [], length, take, refl, sym, ap₂, ◌∙◌, subst, arith}
use Rattle.p4_meaning.specs.Parts.{Cells, Body, Parts, whole}
use Rattle.p4_meaning.specs.DigestBound.{none_told, most_of, most_named, most_applied}
use Rattle.slot_terms.specs.Places.{Places}
use Rattle.slot_statements.specs.Runs.{Grows}
use Rattle.slot_places.specs.ProgramPlaces.{AreProgramPlaces, ArePlaced}
use Rattle.slot_controls.specs.Steps.{most_told_all}
use Rattle.slot_controls.specs.Callees.{Callees}
use Rattle.slot_controls.specs.StepRuns.{DoAllSteps, Widens}
use Rattle.slot_parsers.specs.Parses.{Parses, heads_of}
use Rattle.slot_deparsers.specs.Emits.{numbers_of}
use Rattle.slot_passages.specs.Codes.{ControlCode, ProgramCode}
use Rattle.slot_passages.specs.Room.{most_digests}
use Rattle.slot_programs.specs.Sight.{bare_callees, program_callees}
use Rattle.slot_programs.specs.CodesOf.{IsControlOf, IsChecksumOf, IsCodeOf, AreControlsOf, AreStepsOf, IsCodeAt}
use Rattle.slot_programs.proofs.DigestLemmas.{told_then}
use Rattle.slot_programs.proofs.FitLemmas.{adds_none, bare_fits, program_fits}

-- behind a control its places are cut back
pub cut_is : (m q : Places) → Grows m q → (let p : Places = record { rows = take (length m.rows) q.rows; headers = q.headers; next = m.next; size = q.size } in p) ≡ m
cut_is m q g = λ i. record { rows = g.rows i; headers = g.headers i; next = m.next; size = g.size i }

pub steps_are :
    (k : Callees) (m n q : Places) (b : Body) (c : ControlCode) → Grows m n → Widens m n → DoAllSteps k m n c.settings b.locals → DoAllSteps k n q c.body b.body → AreStepsOf k m b c
steps_are k m n q b c grows widens settings body = record { behind = n; last = q; grows = grows; adds = widens m (adds_none m); settings = settings; body = body }

pub control_is : (p : Parts) (m : Places) (b : Body) (c : ControlCode) → AreProgramPlaces p m → AreStepsOf (program_callees p) m b c → IsControlOf p m b c
control_is p m b c are steps held chosen chooses = record {
  callees = program_callees p;
  behind = steps.behind;
  last = steps.last;
  grows = steps.grows;
  adds = steps.adds;
  settings = steps.settings;
  body = steps.body;
  fits = program_fits p m are held chosen chooses;
  registers = refl;
  calls_are = refl;
}

pub checksum_is : (p : Parts) (rs : List Cells) (m : Places) (b : Body) (c : ControlCode) → AreProgramPlaces p m → AreStepsOf (bare_callees p rs) m b c → IsChecksumOf p rs m (whole b) c
checksum_is p rs m b c are steps held chosen chooses = record {
  body = b;
  is = refl;
  control = record {
    callees = bare_callees p rs;
    behind = steps.behind;
    last = steps.last;
    grows = steps.grows;
    adds = steps.adds;
    settings = steps.settings;
    body = steps.body;
    fits = bare_fits p m are rs held chosen;
    registers = refl;
    calls_are = refl;
  };
}

-- digests of both parts of a control
pub control_told :
    (action table : List ℕ → ℕ) (c : ControlCode) (b : Body) → most_told_all c.settings ≡ most_of action table b.locals → most_told_all c.body ≡ most_of action table b.body → most_digests c ≡ most_of action table (whole b)
control_told action table c b settings body = ap₂ (λ i j. i + j) settings body ∙ sym (told_then action table b.locals b.body)

pub controls_are :
    (p : Parts) (m : Places) (verify ingress egress compute : ControlCode) → IsChecksumOf p p.registers m p.verify verify → IsControlOf p m p.ingress ingress → IsControlOf p m p.egress egress → IsChecksumOf p [] m p.compute compute
    → most_digests verify ≡ most_of none_told none_told p.verify → most_digests ingress ≡ most_of (most_named p.actions) (most_applied p.actions p.tables) (whole p.ingress)
    → most_digests egress ≡ most_of (most_named p.actions) (most_applied p.actions p.tables) (whole p.egress) → most_digests compute ≡ 0 → AreControlsOf p m verify ingress egress compute
controls_are p m verify ingress egress compute v i e c vt it et ct = record {
  verify_is = v;
  ingress_is = i;
  egress_is = e;
  compute_is = c;
  enter_told = omega (arith, vt, it);
  leave_told = omega (arith, et);
  silent = ct;
}

pub code_made :
    (p : Parts) (m : Places) (c : ProgramCode) → c.headers ≡ heads_of p → Parses m (heads_of p) p c.parser → AreControlsOf p m c.verify c.ingress c.egress c.compute → c.emits ≡ numbers_of m.headers p.emits → IsCodeAt p m c
code_made p m c headers parser controls emits = record { headers = headers; parser = subst (λ hs. Parses m hs p c.parser) (sym headers) parser; controls = controls; emits = emits }

pub code_is : (p : Parts) (room : ℕ) (m : Places) (c : ProgramCode) → ArePlaced p room m → IsCodeAt p m c → IsCodeOf p room m c
code_is p room m c placed at held chosen chooses = record {
  placed = placed;
  headers = at.headers;
  parser = at.parser;
  verify = at.controls.verify_is held chosen chooses;
  ingress = at.controls.ingress_is held chosen chooses;
  egress = at.controls.egress_is held chosen chooses;
  compute = at.controls.compute_is held chosen chooses;
  emits = at.emits;
}
