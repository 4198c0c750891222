-- What serves numbered reads serves each part of them.
use Rattle.std.proofs.Common.{◌≡◌, ℕ, List, [], ◌∷◌, ◌++◌, Option, refl, sym, ap, ◌∙◌, subst, append_assoc}
use Rattle.std.specs.List.{AllByRecursion}
use Rattle.indus_tree.specs.Tree.{Decl}
use Rattle.lowered_code.specs.Statements.{Var, read_vars, read_lookups, vars_in, lookups_in}
use Rattle.lowered_code.specs.Standing.{Setting, HasWidths}
use Rattle.lowered_code.specs.Lookups.{Finds, AreServed}

-- ---- lists

pub all_left : {A : Type 0} (P : A → Type 0) (xs ys : List A) → AllByRecursion P (xs ++ ys) → AllByRecursion P xs
all_left P [] ys h = tt
all_left P (x ∷ xs) ys h = (h.0, all_left P xs ys h.1)

pub all_right : {A : Type 0} (P : A → Type 0) (xs ys : List A) → AllByRecursion P (xs ++ ys) → AllByRecursion P ys
all_right P [] ys h = h
all_right P (x ∷ xs) ys h = all_right P xs ys h.1

module _ (ds : List Decl) where
  pub vars_both : (xs ys : List (ℕ × Option Decl)) → vars_in (xs ++ ys) ≡ vars_in xs ++ vars_in ys
  vars_both [] ys = refl
  vars_both (x ∷ xs) ys = ap (λ (l : List Var). read_vars x.0 x.1 ++ l) (vars_both xs ys) ∙ sym (append_assoc (read_vars x.0 x.1) (vars_in xs) (vars_in ys))

  pub lookups_both : (xs ys : List (ℕ × Option Decl)) → lookups_in (xs ++ ys) ≡ lookups_in xs ++ lookups_in ys
  lookups_both [] ys = refl
  lookups_both (x ∷ xs) ys = ap (λ (l : List (ℕ × Decl)). read_lookups x.0 x.1 ++ l) (lookups_both xs ys) ∙ sym (append_assoc (read_lookups x.0 x.1) (lookups_in xs) (lookups_in ys))

-- ---- reads

module _ (p : Setting) where
  abbrev ds : List Decl
  ds = p.hop.decls

  pub served_left : (xs ys : List (ℕ × Option Decl)) → AreServed p (xs ++ ys) → AreServed p xs
  served_left xs ys h =
      record {
        declared = λ s w. all_left _ (vars_in xs) (vars_in ys) (subst (λ vs. HasWidths vs s) (vars_both ds xs ys) (h.declared s w));
        found = all_left (Finds p) (lookups_in xs) (lookups_in ys) (subst (AllByRecursion (Finds p)) (lookups_both ds xs ys) h.found);
      }

  pub served_right : (xs ys : List (ℕ × Option Decl)) → AreServed p (xs ++ ys) → AreServed p ys
  served_right xs ys h =
      record {
        declared = λ s w. all_right _ (vars_in xs) (vars_in ys) (subst (λ vs. HasWidths vs s) (vars_both ds xs ys) (h.declared s w));
        found = all_right (Finds p) (lookups_in xs) (lookups_in ys) (subst (AllByRecursion (Finds p)) (lookups_both ds xs ys) h.found);
      }
