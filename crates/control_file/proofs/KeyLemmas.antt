-- A key beside the table of the keys before it.
use Rattle.std.proofs.Common.{◌≡◌, ℕ, Bool, true, false, not, ◌||◌, List, [], ◌∷◌, Ok, Err, Vec, Global, refl, sym, ap, ◌∙◌}
use Rattle.std.specs.List.{list_any}
use Rattle.bit_values.specs.Bits.{Word}
use Rattle.table_faults.specs.declared.table.TableFault.TheVariants as fault
use Rattle.control_file.specs.Keys.{numbers_of, same_numbers, fresh}
use Rattle.control_file.specs.Views.{seen_numbers}

among : (k : Vec ℕ Global) (ks : List (Vec ℕ Global)) → list_any (λ j. same_numbers k.items j.items) ks ≡ list_any (same_numbers k.items) (seen_numbers ks)
among k [] = refl
among k (j ∷ ks) = ap (λ (b : Bool). same_numbers k.items j.items || b) (among k ks)

not_true : (b : Bool) → not b ≡ true → b ≡ false
not_true true e = absurd cc
not_true false e = refl

not_false : (b : Bool) → not b ≡ false → b ≡ true
not_false true e = refl
not_false false e = absurd cc

-- `added` is what the table answers
module _ (path : List ℕ) (ks : List (Vec ℕ Global)) (k : Vec ℕ Global) (key : List Word) (same : k.items ≡ numbers_of key) (added : Bool) (answer : added ≡ not (list_any (λ j. same_numbers k.items j.items) ks)) where
  here : list_any (same_numbers (numbers_of key)) (seen_numbers ks) ≡ list_any (λ j. same_numbers k.items j.items) ks
  here = rw (← same) (sym (among k ks))

  pub key_is_new : added ≡ true → fresh path (seen_numbers ks) key ≡ Ok (tt {0})
  key_is_new new = rw (here, not_true _ (sym answer ∙ new)) refl

  pub key_was_seen : added ≡ false → fresh path (seen_numbers ks) key ≡ Err (fault.KeyTwice path)
  key_was_seen old = rw (here, not_false _ (sym answer ∙ old)) refl
