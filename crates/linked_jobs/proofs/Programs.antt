-- Programs in a list, as what is linked.
use Rattle.std.proofs.Common.{◌≡◌, ℕ, zero, suc, ◌+◌, List, [], ◌∷◌, length, map, get_or, Some, refl, sym, ap, ap₂, ◌∙◌, subst, arith}
use Rattle.std.specs.Prelude.{slice_get}
use Rattle.std.specs.List.{range_with_len}
use Rattle.std.proofs.lemmas.Option.{get_or_from_slice_get}
use Rattle.p4_tree.specs.Tree.{Program}
use Rattle.loaded_tables.specs.Rows.{Row}
use Rattle.linked_starts.specs.Starts.{found_row}
use Rattle.program_linker.specs.Simpler.{AreSimplyLinked}
use Rattle.linked_jobs.specs.Job.{Job}
use Rattle.linked_jobs.specs.Run.{Linked, programs_of, IsLinked, no_program, linked_in}

-- a list is what its items by their numbers are
from_number : {A : Type 0} (xs : List A) (f : ℕ → A) (n : ℕ) → ((i : ℕ) (x : A) → slice_get xs i ≡ Some x → f (n + i) ≡ x) → map f (range_with_len n (length xs)) ≡ xs
from_number [] f n h = refl
from_number {A} (x ∷ xs) f n h =
    (let first : n ≡ n + 0 = omega arith in
    ap₂ (λ (y : A) (ys : List A). y ∷ ys) (ap f first ∙ h zero x refl)
    (from_number xs f (n + 1) (λ i y e. (let later : n + 1 + i ≡ n + suc i = omega arith in ap f later ∙ h (suc i) y e))))

by_numbers : {A : Type 0} (xs : List A) (d : A) → map (λ s. get_or xs s d) (range_with_len 0 (length xs)) ≡ xs
by_numbers xs d =
    from_number xs (λ s. get_or xs s d) 0
    (λ i x e. (let same : 0 + i ≡ i = omega arith in ap (λ (n : ℕ). get_or xs n d) same ∙ get_or_from_slice_get xs i x d e))

-- programs of so many switches, in their order
pub programs_in_order : (n : ℕ) (ps : List Program) → length ps ≡ n → map (λ s. get_or ps s no_program) (range_with_len 0 n) ≡ ps
programs_in_order n ps count = ap (λ (m : ℕ). map (λ s. get_or ps s no_program) (range_with_len 0 m)) (sym count) ∙ by_numbers ps no_program

module _ (j : Job) (ps : List Program) (rows : List Row) (count : length ps ≡ length j.network.names) where
  -- there is one for each switch
  pub programs_again : programs_of j (linked_in ps rows) ≡ ps
  programs_again = programs_in_order (length j.network.names) ps count

  pub is_linked : AreSimplyLinked j.program j.property j.network ps (map found_row rows) → IsLinked j (linked_in ps rows)
  is_linked are = subst (λ (qs : List Program). AreSimplyLinked j.program j.property j.network qs (map found_row rows)) (sym programs_again) are
