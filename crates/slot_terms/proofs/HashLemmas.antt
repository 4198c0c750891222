-- Paths that are the same have one hash.
use Rattle.std.proofs.Common.{◌≡◌, ◌≢◌, ℕ, List, ap, sym, ◌∙◌, Bool, true, false, refl, inl, inr, nat_eq}
use Rattle.std.proofs.lemmas.Slice.Eq.{slice_eq-Decides, bytes_eq-Decides}
use Rattle.std.proofs.lemmas.Bool.Decides.{eqb_tells}
use Rattle.lex_text.specs.Names.{same_path}
use Rattle.slot_terms.specs.Hashes.{path_hash}

same_hash : (q p : List (List ℕ)) → same_path q p ≡ true → path_hash q ≡ path_hash p
same_hash q p e = ap path_hash ((slice_eq-Decides bytes_eq-Decides q p (same_path q p) refl).0 e)

-- where the hashes differ, so do the paths
pub told_apart : (known hash : ℕ) (q p : List (List ℕ)) → known ≡ path_hash q → hash ≡ path_hash p → known ≢ hash → nat_eq known hash ≡ same_path q p
told_apart known hash q p hk hh other = go (same_path q p) refl
  where
    go : (b : Bool) → same_path q p ≡ b → nat_eq known hash ≡ b
    go true e = absurd (other (hk ∙ same_hash q p e ∙ sym hh))
    go false e = elim (eqb_tells known hash) [ inl h ↦ absurd (other h.1) | inr h ↦ h.0 ]
