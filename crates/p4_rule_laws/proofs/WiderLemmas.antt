-- A struct with more fields, whose names are not old, is the same to old paths.
use Rattle.std.proofs.Common.{◌≡◌, ℕ, List, [], ◌∷◌, ◌++◌, Bool, true, false, cond, refl, sym, ap, ◌∙◌}
use Rattle.std.proofs.lemmas.Slice.Eq.{bytes_eq-Decides}
use Rattle.lex_text.specs.Names.{same_text}
use Rattle.p4_tree.specs.declared.statement.PTy.{PTy}
use Rattle.p4_scopes.specs.Scopes.{Stands, missing, Scope, type_at, field_at, fields, behind, declare}
use Rattle.p4_scopes.specs.declared.thing.Thing.{Thing}
use Rattle.p4_rule_laws.specs.Old.{Names, OldPath, Alike, OldType, OldFields}
use Rattle.p4_rule_laws.specs.Kept.{NewFields}
use Rattle.p4_rule_laws.proofs.AlikeScopes.{type_alike}

pub told : (b : Bool) → (b ≡ true → ⊥) → b ≡ false
told true h = absurd (h refl)
told false h = refl

-- an old name is none that is new
pub new_is_other : (old : Names) (n x : List ℕ) → old n ≡ false → old x ≡ true → same_text n x ≡ false
new_is_other old n x nw o = told (same_text n x) (λ e. let h : n ≡ x = (bytes_eq-Decides n x).0 e in let c : false ≡ true = sym nw ∙ (ap old h ∙ o) in cc)

pub old_is_other : (old : Names) (n x : List ℕ) → old n ≡ true → old x ≡ false → same_text n x ≡ false
old_is_other old n x o nw = told (same_text n x) (λ e. let h : n ≡ x = (bytes_eq-Decides n x).0 e in let c : false ≡ true = sym nw ∙ (ap old (sym h) ∙ o) in cc)

module _ (old : Names) (s t : Scope) (a : Alike old s t) where
  -- fields with new names are passed over
  new_passed : (gs : List (PTy × List ℕ)) → NewFields old gs → (fs : List (PTy × List ℕ)) (x : List ℕ) (xs : List (List ℕ)) → old x ≡ true → field_at t (gs ++ fs) x xs ≡ field_at t fs x xs
  new_passed [] n fs x xs o = refl
  new_passed (g ∷ gs) n fs x xs o = ap (λ (b : Bool). cond b (type_at t g.0 xs) (field_at t (gs ++ fs) x xs)) (new_is_other old g.1 x n.0 o) ∙ new_passed gs n.1 fs x xs o

  none_behind : (gs : List (PTy × List ℕ)) → NewFields old gs → (x : List ℕ) (xs : List (List ℕ)) → old x ≡ true → missing ≡ field_at t gs x xs
  none_behind [] n x xs o = refl
  none_behind (g ∷ gs) n x xs o = none_behind gs n.1 x xs o ∙ sym (ap (λ (b : Bool). cond b (type_at t g.0 xs) (field_at t gs x xs)) (new_is_other old g.1 x n.0 o))

  more_step : (b : Bool) (y : PTy) (xs : List (List ℕ)) (u v : Stands) → OldType old y → OldPath old xs → u ≡ v → cond b (type_at s y xs) u ≡ cond b (type_at t y xs) v
  more_step true y xs u v o os e = type_alike old s t a y o xs os
  more_step false y xs u v o os e = e

  more_behind : (gs : List (PTy × List ℕ)) → NewFields old gs → (fs : List (PTy × List ℕ)) → OldFields old fs → (x : List ℕ) (xs : List (List ℕ)) → old x ≡ true → OldPath old xs → field_at s fs x xs ≡ field_at t (fs ++ gs) x xs
  more_behind gs n [] o x xs ox os = none_behind gs n x xs ox
  more_behind gs n (f ∷ fs) o x xs ox os = more_step (same_text f.1 x) f.0 xs (field_at s fs x xs) (field_at t (fs ++ gs) x xs) o.0 os (more_behind gs n fs o.2 x xs ox os)

  module _ (bs gs : List (PTy × List ℕ)) (nb : NewFields old bs) (ng : NewFields old gs) where
    wider_behind : (h : Thing) (fs : List (PTy × List ℕ)) → OldFields old fs → (xs : List (List ℕ)) → OldPath old xs → behind s (fields h fs) xs ≡ behind t (fields h (bs ++ (fs ++ gs))) xs
    wider_behind h fs o [] os = refl
    wider_behind h fs o (x ∷ xs) os = more_behind gs ng fs o x xs os.0 os.1 ∙ sym (new_passed bs nb (fs ++ gs) x xs os.0)

    wider_step : (b : Bool) (h : Thing) (fs : List (PTy × List ℕ)) → OldFields old fs → (x : List ℕ) (xs : List (List ℕ)) → OldPath old (x ∷ xs) → cond b (behind s (fields h fs) xs) (s (x ∷ xs)) ≡ cond b (behind t (fields h (bs ++ (fs ++ gs))) xs) (t (x ∷ xs))
    wider_step true h fs o x xs os = wider_behind h fs o xs os.1
    wider_step false h fs o x xs os = a.same (x ∷ xs) os

    wider_same : (m : List ℕ) (h : Thing) (fs : List (PTy × List ℕ)) → OldFields old fs → (xs : List (List ℕ)) → OldPath old xs → declare s m (fields h fs) xs ≡ declare t m (fields h (bs ++ (fs ++ gs))) xs
    unfolding declare
    wider_same m h fs o [] os = a.same [] os
    wider_same m h fs o (x ∷ xs) os = wider_step (same_text m x) h fs o x xs os

    -- a type with more fields, in front and behind
    pub wider_alike : (m : List ℕ) (h : Thing) (fs : List (PTy × List ℕ)) → OldFields old fs → Alike old (declare s m (fields h fs)) (declare t m (fields h (bs ++ (fs ++ gs))))
    wider_alike m h fs o = record { same = wider_same m h fs o }
