-- The items of a turn with their names, where names or items end.
use Rattle.std.proofs.Common.{◌≡◌, ◌⊎◌, inl, inr, ℕ, List, [], ◌∷◌, ◌++◌, refl, sym, ap, ◌∙◌, append-nil}
use Rattle.bit_values.specs.Bits.{Word}
use Rattle.indus_tree.specs.Reads.{Items}
use Rattle.indus_tree.specs.Meaning.{named}

-- nothing is left to name
none_left : (xs : List (List ℕ)) (ws : List Word) → (xs ≡ []) ⊎ (ws ≡ []) → named xs ws ≡ []
none_left [] ws e = refl
none_left (x ∷ xs) [] e = refl
none_left (x ∷ xs) (w ∷ ws) (inl e) = absurd (cc e)
none_left (x ∷ xs) (w ∷ ws) (inr e) = absurd (cc e)

-- so all is named
pub all_named : (all whole : Items) (xs : List (List ℕ)) (ws : List Word) → all ++ named xs ws ≡ whole → (xs ≡ []) ⊎ (ws ≡ []) → all ≡ whole
all_named all whole xs ws e none = sym (append-nil all) ∙ ap (λ r. all ++ r) (sym (none_left xs ws none)) ∙ e
