-- Rewritten code on a run ends as the code does on the run where `packet_length` holds the length without telemetry.
use Rattle.std.proofs.Common.{◌≡◌, ℕ, List, [], ◌∷◌, Bool, true, false, cond, Option, None, refl, sym, ap, ◌∙◌}
use Rattle.bit_values.specs.Bits.{Word}
use Rattle.lex_text.specs.Names.{same_path}
use Rattle.p4_tree.specs.Tree.{Stmts}
use Rattle.p4_meaning.specs.Standard.{metadata_root, standard_root, packet_length}
use Rattle.p4_meaning.specs.Statements.{Digest, Run, Calls, meaning_of}
use Rattle.own_code.proofs.Apart.{path_decides}
use Rattle.packet_lengths.specs.Lengths.{length_path, plain_stmts, KeepLength, Lengths, Ends, AreLengthCalls, plainly, EndsPlainly}
use Rattle.packet_lengths.proofs.Lengths.{all_ends}

-- a run with its four parts
abbrev run_with : (List (List ℕ) → Word) → (List (List ℕ) → Option Bool) → (List ℕ → List Word) → List Digest → Run
run_with v h c d = record { store = record { values = v; headers = h }; cells = c; digests = d }

run_is : (v v' : List (List ℕ) → Word) (h h' : List (List ℕ) → Option Bool) (c c' : List ℕ → List Word) (d d' : List Digest) → v ≡ v' → h ≡ h' → c ≡ c' → d ≡ d' → run_with v h c d ≡ run_with v' h' c' d'
run_is v v' h h' c c' d d' ev eh ec ed = λ i. run_with (ev i) (eh i) (ec i) (ed i)

-- two runs that differ in the length are one, with the length in its place
pub plainly_is : (n : Word) (a b : Run) → Lengths n a b → plainly b ≡ a
plainly_is n a b h =
    let point : (p : List (List ℕ)) → (plainly b).store.values p ≡ a.store.values p = λ p. at p (same_path packet_length p) refl in
    run_is (plainly b).store.values a.store.values b.store.headers a.store.headers b.cells a.cells b.digests a.digests (λ i p. point p i) h.headers h.cells h.digests
  where
    at : (p : List (List ℕ)) (t : Bool) → same_path packet_length p ≡ t → (plainly b).store.values p ≡ a.store.values p
    at p true e = ap (λ t. cond t (b.store.values length_path) (b.store.values p)) e ∙ h.long ∙ ap (λ q. a.store.values q) ((path_decides packet_length p).0 e)
    at p false e = ap (λ t. cond t (b.store.values length_path) (b.store.values p)) e ∙ h.values p e

-- a run, and itself with the length in its place
pub plainly_lengths : (b : Run) → b.store.headers (standard_root ∷ []) ≡ None → b.store.headers (metadata_root ∷ []) ≡ None → Lengths (b.store.values packet_length) (plainly b) b
plainly_lengths b standard meta =
    record {
      here = refl;
      values = λ p i. sym (ap (λ t. cond t (b.store.values length_path) (b.store.values p)) i);
      long = refl;
      headers = refl;
      cells = refl;
      digests = refl;
      standard = standard;
      meta = meta;
    }

module _ (c d : Calls) (ss : Stmts) (b : Run) (calls : AreLengthCalls (b.store.values packet_length) c d) (keep : KeepLength ss) (standard : b.store.headers (standard_root ∷ []) ≡ None) (meta : b.store.headers (metadata_root ∷ []) ≡ None) where
  -- as ends that differ in the length
  pub plainly_runs : Ends (b.store.values packet_length) (meaning_of c ss (plainly b)) (meaning_of d (plain_stmts ss) b)
  plainly_runs = all_ends (b.store.values packet_length) c d calls ss (plainly b) b keep (plainly_lengths b standard meta)

  -- as an equation
  pub plainly_run : plainly (meaning_of d (plain_stmts ss) b).0 ≡ (meaning_of c ss (plainly b)).0
  plainly_run = plainly_is (b.store.values packet_length) (meaning_of c ss (plainly b)).0 (meaning_of d (plain_stmts ss) b).0 plainly_runs.same

  -- it goes on, returns or exits as the code does
  pub plainly_flow : (meaning_of d (plain_stmts ss) b).1 ≡ (meaning_of c ss (plainly b)).1
  plainly_flow = plainly_runs.flow

  -- the two structs are still no headers
  pub plainly_none : ((meaning_of d (plain_stmts ss) b).0.store.headers (standard_root ∷ []) ≡ None) × ((meaning_of d (plain_stmts ss) b).0.store.headers (metadata_root ∷ []) ≡ None)
  plainly_none =
      let same = plainly_runs.same in
      (ap (λ g. g (standard_root ∷ [])) same.headers ∙ same.standard, ap (λ g. g (metadata_root ∷ [])) same.headers ∙ same.meta)

  pub plainly_ends : EndsPlainly (meaning_of c ss (plainly b)) (meaning_of d (plain_stmts ss) b)
  plainly_ends = record { run = plainly_run; flow = plainly_flow; standard = plainly_none.0; meta = plainly_none.1 }
