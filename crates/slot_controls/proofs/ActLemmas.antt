-- Steps of calls do what the calls do.
use Rattle.std.proofs.Common.{◌≡◌, ℕ, ◌<◌, ◌≤◌, length, List, Bool, is_some, Some, refl, sym, ap, ◌∙◌, subst, arith}
use Rattle.std.specs.Prelude.{slice_get}
use Rattle.p4_tree.specs.Tree.{Stmt}
use Rattle.p4_meaning.specs.Statements as meaning
use Rattle.p4_meaning.specs.Statements.{Run, in_store, meaning_of_stmt}
use Rattle.p4_meaning.specs.Store.{made}
use Rattle.slot_terms.specs.Terms.{valid_at}
use Rattle.slot_terms.specs.Places.{Places, header_number, Follows, IsLaid}
use Rattle.slot_terms.specs.States.{State}
use Rattle.slot_statements.specs.Codes as codes
use Rattle.slot_statements.specs.Codes.{Code}
use Rattle.slot_statements.specs.Runs as code_runs
use Rattle.slot_statements.specs.Known.{places_behind}
use Rattle.slot_packets.specs.Validity.{with_validity}
use Rattle.slot_packets.proofs.ValidityLemmas.{validity_follows}
use Rattle.slot_controls.specs.Steps.{HeaderSlots, SlotRun, plain, makes, run}
use Rattle.slot_controls.specs.Callees.{Callees, AreCells, IsLaidOut, calls_of}
use Rattle.slot_controls.specs.StepRuns.{StepEnds, HoldsAlike, HoldsStill, DoesStep, DoesAct}
use Rattle.slot_controls.proofs.BesideLemmas.{stmt_still}
use Rattle.slot_controls.proofs.VariableLemmas.{number_below, laid_out_there}

-- what registers hold and the digests are as they were
pub still_alike : (k : Callees) (u z : SlotRun) (r q : Run) → HoldsAlike k u r → z.cells ≡ u.cells → z.digests ≡ u.digests → HoldsStill r q → HoldsAlike k z q
still_alike k u z r q holds cells digests still = record {
  cells = subst (λ f. AreCells k.registers z.cells f) (sym still.cells) (subst (λ cs. AreCells k.registers cs r.cells) (sym cells) holds.cells);
  digests = digests ∙ holds.digests ∙ sym still.digests;
}

-- code does as a step what it does
pub plain_does : (k : Callees) (m n : Places) (c : Code) (st : Stmt) → places_behind st m ≡ Some n → code_runs.Does m n c st → DoesStep k m n (plain c) st
plain_does k m n c st there does base held chosen u r stands = record {
  ends = does (calls_of k held) u.state r stands.follows;
  beside = still_alike k u (run chosen (plain c) u).0 r (meaning_of_stmt (calls_of k held) st r).0 stands.beside refl refl (stmt_still (calls_of k held) st m (ap is_some there) r);
}

-- nothing is done
pub nothing_ends : (k : Callees) (m : Places) (u : SlotRun) (r : Run) → Follows m u.state.slots u.state.valid r.store → HoldsAlike k u r → StepEnds k m m (u, meaning.Go) (r, meaning.Go)
nothing_ends k m u r follows beside = record { ends = record { flow = refl; kept = follows; grown = λ g. follows }; beside = beside }

pub idle_does : (k : Callees) (m : Places) → DoesAct k m (plain codes.skip) meaning.idle
idle_does k m base held chosen u r stands = nothing_ends k m u r stands.follows stands.beside

-- ---- headers

pub makes_does : (k : Callees) (m : Places) (p : List (List ℕ)) (n : ℕ) (h : HeaderSlots) (b : Bool) → IsLaid m → header_number m.headers p ≡ Some n → slice_get k.headers n ≡ Some h → DoesAct k m (makes n h b) (meaning.makes p b)
makes_does k m p n h b laid number slots base held chosen u r stands =
    let s : State = u.state in
    let there : header_number base.headers p ≡ Some n = subst (λ hs. header_number hs p ≡ Some n) stands.adds.grows.headers number in
    let at : IsLaidOut m n p h = laid_out_there base m n p h stands.fits.laid stands.adds (stands.fits.headers p n h there slots) in
    let below : n < length base.headers = number_below base.headers p n there in
    let enough : length base.headers ≤ length s.valid = stands.headers in
    let kept : Follows m (with_validity (valid_at s.valid n) b n h.first (length at.header.fields) s).slots (with_validity (valid_at s.valid n) b n h.first (length at.header.fields) s).valid (made (r.store.headers at.header.path) b r.store at.header.path) =
    validity_follows m n at.header h.first b s r.store laid at.fields (omega (arith, below, enough)) at.named stands.follows in
    let same : Follows m (with_validity (valid_at s.valid n) b n h.first h.count s).slots (with_validity (valid_at s.valid n) b n h.first h.count s).valid (made (r.store.headers p) b r.store p) =
    subst (λ c. Follows m (with_validity (valid_at s.valid n) b n h.first c s).slots (with_validity (valid_at s.valid n) b n h.first c s).valid (made (r.store.headers p) b r.store p)) (sym at.count)
    (subst (λ q. Follows m (with_validity (valid_at s.valid n) b n h.first (length at.header.fields) s).slots (with_validity (valid_at s.valid n) b n h.first (length at.header.fields) s).valid (made (r.store.headers q) b r.store q)) at.path kept) in
    record {
      ends = record { flow = refl; kept = same; grown = λ g. same };
      beside = still_alike k u (run chosen (makes n h b) u).0 r (in_store r (made (r.store.headers p) b r.store p)) stands.beside refl refl (record { cells = refl; digests = refl });
    }
