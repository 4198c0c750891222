-- Declarations by their names and by their numbers.
use Rattle.std.proofs.Common.{◌≡◌, ℕ, suc, ◌+◌, List, [], ◌∷◌, slice_get, Bool, true, false, cond, Option, Some, None, refl, sym, ap, ◌∙◌, arith}
use Rattle.lex_text.specs.Names.{same_text}
use Rattle.indus_tree.specs.Tree.{Decl}
use Rattle.indus_tree.specs.State.{lookup}
use Rattle.indus_tree.specs.Hops.{variable_number, variable_number_from}

-- the declaration of a number, where there is one
abbrev pub numbered_decl : List Decl → Option ℕ → Option Decl
numbered_decl ds None = None
numbered_decl ds (Some v) = slice_get ds v

abbrev later : (n : ℕ) → Option ℕ → Option ℕ
later n None = None
later n (Some i) = Some (i + n)

number_later : (ds : List Decl) (n : ℕ) (x : List ℕ) → variable_number_from n ds x ≡ later n (variable_number_from 0 ds x)
number_later [] n x = refl
number_later (d ∷ ds) n x = step (same_text d.name x) (number_later ds (n + 1) x) (number_later ds 1 x)
  where
    later_later : (o : Option ℕ) → later (n + 1) o ≡ later n (later 1 o)
    later_later None = refl
    later_later (Some i) = let e : i + (n + 1) ≡ i + 1 + n = omega arith in ap Some e

    step : (b : Bool) → variable_number_from (n + 1) ds x ≡ later (n + 1) (variable_number_from 0 ds x) → variable_number_from 1 ds x ≡ later 1 (variable_number_from 0 ds x) → cond b (Some n) (variable_number_from (n + 1) ds x) ≡ later n (cond b (Some 0) (variable_number_from 1 ds x))
    step true e f = let z : n ≡ 0 + n = omega arith in ap Some z
    step false e f = e ∙ later_later (variable_number_from 0 ds x) ∙ ap (later n) (sym f)

pub lookup_number : (ds : List Decl) (x : List ℕ) → lookup ds x ≡ numbered_decl ds (variable_number ds x)
lookup_number [] x = refl
lookup_number (d ∷ ds) x = step (same_text d.name x) (lookup_number ds x) (number_later ds 1 x)
  where
    behind : (o : Option ℕ) → numbered_decl ds o ≡ numbered_decl (d ∷ ds) (later 1 o)
    behind None = refl
    behind (Some i) = let e : suc i ≡ i + 1 = omega arith in ap (slice_get (d ∷ ds)) e

    step : (b : Bool) → lookup ds x ≡ numbered_decl ds (variable_number ds x) → variable_number_from 1 ds x ≡ later 1 (variable_number_from 0 ds x) → cond b (Some d) (lookup ds x) ≡ numbered_decl (d ∷ ds) (cond b (Some 0) (variable_number_from 1 ds x))
    step true e f = refl
    step false e f = e ∙ behind (variable_number ds x) ∙ ap (numbered_decl (d ∷ ds)) (sym f)
