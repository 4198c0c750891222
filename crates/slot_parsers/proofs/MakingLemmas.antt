-- Steps do what statements mean; and key sets, one more.
use Rattle.std.proofs.Common.{◌≡◌, ℕ, List, [], ◌∷◌, ◌++◌, length, Bool, true, false, if◌then◌else◌, Option, Some, None, refl, sym, ap, ◌∙◌, subst}
use Rattle.bit_values.specs.Widths.{sound_width, cast_word}
use Rattle.p4_tree.specs.Tree.{path, Arg, one, call, Keyset}
use Rattle.p4_meaning.specs.Store.{Store, write}
use Rattle.p4_meaning.specs.Value.{value_of}
use Rattle.p4_meaning.specs.Statements.{Run, no_calls, assigned}
use Rattle.p4_meaning.specs.Parsing.{Reading, extracted_at}
use Rattle.p4_meaning.specs.Parts.{Parts}
use Rattle.p4_meaning.specs.Pass.{run_from}
use Rattle.slot_terms.specs.States.{State}
use Rattle.slot_terms.specs.Terms.{eval}
use Rattle.slot_terms.specs.Typed.{Typed}
use Rattle.slot_terms.specs.Places.{Places, header_number, Follows}
use Rattle.slot_statements.specs.Codes.{writes, put}
use Rattle.slot_statements.proofs.StatementLemmas.{assign_does}
use Rattle.slot_places.specs.ProgramRows.{first_header}
use Rattle.slot_places.specs.ProgramPlaces.{AreProgramPlaces}
use Rattle.slot_parsers.specs.ParserCodes.{Key, SlotReading, step_done}
use Rattle.slot_parsers.specs.Parses.{Reads, StepsAlike, DoesStep, heads_of}
use Rattle.slot_parsers.specs.Extracts.{extract_step, call_of, ExtractsDo, AssignmentsDo, FixedPathsStay}
use Rattle.slot_parsers.specs.Selects.{FitEach, FitsInWidth, AreOneKind, AreOfKinds, width_at}
use Rattle.slot_parsers.proofs.TakeLemmas.{takes_does, header_missing}

-- ---- extracts

module _ (p : Parts) (m : Places) (are : AreProgramPlaces p m) where
  extract_at : (names : List (List ℕ)) (o : Option ℕ) (q : ℕ) (callee : List (List ℕ)) → header_number m.headers names ≡ o → (r : SlotReading) (s : Reading) → Reads m r s
      → StepsAlike m (step_done (heads_of p) (extract_step o) r) (extracted_at p.headers names s)
  extract_at names None q callee is r s reads =
      subst (λ y. StepsAlike m (step_done (heads_of p) (extract_step None) r) y) (sym (header_missing p.headers names s (ap (λ hs. header_number hs names) (sym are.paths) ∙ is))) reads
  extract_at names (Some n) q callee is r s reads = takes_does m p.headers (first_header p) names n r s are.laid are.headers are.paths is reads

  pub call_does : (q : ℕ) (callee : List (List ℕ)) (args : List Arg) → DoesStep m (heads_of p) p.headers (call_of m args) (call q callee args)
  call_does q callee (one i (path j names) ∷ []) r s reads = extract_at names (header_number m.headers names) q callee refl r s reads
  call_does q callee _ r s reads = reads

pub extracts_do : ExtractsDo
extracts_do p m are q callee args = call_does p m are q callee args

-- ---- assignments

valid_kept : (b : Bool) (s : State) (i v : ℕ) → length (if b then put s i v else s).valid ≡ length s.valid
valid_kept true s i v = refl
valid_kept false s i v = refl

pub set_does : AssignmentsDo
set_does m p r e t laid is may width fills heads hs q s reads =
    let run : Run = run_from s.store (λ x. []) in
    let ends = assign_does m p r 0 e t laid is may width fills no_calls q.state run reads.follows in
    record { follows = ends.kept; rest = reads.rest; bits = reads.bits; valid = valid_kept (writes r.header q.state.valid) q.state r.slot (eval q.state.slots q.state.valid t.term) ∙ reads.valid }

pub fixed_does : FixedPathsStay
fixed_does m p e fixed heads hs q s reads =
    let kept : assigned s.store p (value_of e (s.store.values p).width s.store) ≡ s.store = ap (λ b. if b then write s.store p (cast_word (sound_width (s.store.values p).width) (value_of e (s.store.values p).width s.store)) else s.store) fixed in
    record { follows = subst (λ (z : Store). Follows m q.state.slots q.state.valid z) (sym kept) reads.follows; rest = reads.rest; bits = reads.bits; valid = reads.valid }

-- ---- key sets, one more

pub kinds_more : (ks : List Key) (sets : List Keyset) (k : Key) (a : Keyset) → AreOfKinds ks sets → AreOneKind k a → AreOfKinds (ks ++ k ∷ []) (sets ++ a ∷ [])
kinds_more [] [] k a h last = (last, tt)
kinds_more (x ∷ ks) [] k a h last = absurd h
kinds_more [] (y ∷ sets) k a h last = absurd h
kinds_more (x ∷ ks) (y ∷ sets) k a h last = (h.0, kinds_more ks sets k a h.1 last)

pub fit_more : (m : Places) (ts : List Typed) (ks : List Key) (sets : List Keyset) (k : Key) (a : Keyset) → FitEach m ts ks sets → FitsInWidth m (width_at ts (length ks)) k a → FitEach m ts (ks ++ k ∷ []) (sets ++ a ∷ [])
fit_more m [] [] [] k a h last = tt
fit_more m (t ∷ ts) [] [] k a h last = (last t refl, rest ts)
  where
    rest : (ts : List Typed) → FitEach m ts [] []
    rest [] = tt
    rest (t ∷ ts) = tt
fit_more m [] (x ∷ ks) (y ∷ sets) k a h last = tt
fit_more m (t ∷ ts) (x ∷ ks) (y ∷ sets) k a h last = (h.0, fit_more m ts ks sets k a h.1 last)
fit_more m ts [] (y ∷ sets) k a h last = absurd h
fit_more m ts (x ∷ ks) [] k a h last = absurd h
