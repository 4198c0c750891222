-- Key sets and keys, where one kind is left.
use Rattle.std.proofs.Common.{◌≡◌, ℕ, zero, suc, ◌<◌, List, [], ◌∷◌, length, map, drop, false, refl, arith}
use Rattle.bit_values.specs.Bits.{Word}
use Rattle.p4_tree.specs.View.{keyset_of}
use Rattle.p4_tree.specs.declared.program.Keyset as code_keyset
use Rattle.p4_meaning.specs.Store.{Store}
use Rattle.p4_meaning.specs.Parsing.{fits_each}

-- key sets are left, and no keys
pub no_keys : (sets : List code_keyset.Keyset) (i : ℕ) (s : Store) → i < length sets → fits_each (map keyset_of (drop i sets)) [] s ≡ false
no_keys [] i s lt = absurd (omega arith)
no_keys (a ∷ sets) zero s lt = refl
no_keys (a ∷ sets) (suc i) s lt = no_keys sets i s (omega arith)

-- keys are left, and no key sets
pub no_sets : (ks : List Word) (n : ℕ) (s : Store) → n < length ks → fits_each [] (drop n ks) s ≡ false
no_sets [] n s lt = absurd (omega arith)
no_sets (k ∷ ks) zero s lt = refl
no_sets (k ∷ ks) (suc n) s lt = no_sets ks n s (omega arith)
