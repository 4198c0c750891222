-- The first broken rule is broken, and where there is none no rule is.
use Rattle.std.proofs.Common.{◌≡◌, ℕ, List, [], ◌∷◌, Bool, true, false, cond, Option, Some, None, refl, sym, ap, ◌∙◌, ◌⊎◌, inl, inr}
use Rattle.rule_sites.specs.Sites.{Sites, nowhere, here, both, or_else, at_place, BreaksAt, AllFine, first_rule, first_broken}

-- a rule of a list
abbrev pub In : {R : Type 0} → R → List R → Type 0
In r [] = ⊥
In r (q ∷ qs) = (q ≡ r) ⊎ In r qs

module _ (R S : Type 0) (place_of : S → ℕ) (broken : R → S → Bool) where
  rule_step : (b : Bool) (q r : R) (s : S) (rest : Option R) → broken q s ≡ b → (rest ≡ Some r → broken r s ≡ true) → cond b (Some q) rest ≡ Some r → broken r s ≡ true
  rule_step true q r s rest e h k = let same : q ≡ r = cc in ap (λ x. broken x s) (sym same) ∙ e
  rule_step false q r s rest e h k = h k

  pub rule_sound : (rs : List R) (s : S) (r : R) → first_rule R S place_of broken rs s ≡ Some r → broken r s ≡ true
  rule_sound [] s r h = absurd (let e : (let n : Option R = None in n) ≡ Some r = h in cc)
  rule_sound (q ∷ qs) s r h = rule_step (broken q s) q r s (first_rule R S place_of broken qs s) refl (rule_sound qs s r) h

  none_step : (b : Bool) (q r : R) (s : S) (rest : Option R) (Q : Type 0) → broken q s ≡ b → (rest ≡ None → Q → broken r s ≡ false) → cond b (Some q) rest ≡ None → (q ≡ r) ⊎ Q → broken r s ≡ false
  none_step true q r s rest Q e h k m = absurd (let c : Some q ≡ None = k in cc)
  none_step false q r s rest Q e h k (inl same) = ap (λ x. broken x s) (sym same) ∙ e
  none_step false q r s rest Q e h k (inr m) = h k m

  pub rule_none : (rs : List R) (s : S) (r : R) → first_rule R S place_of broken rs s ≡ None → In r rs → broken r s ≡ false
  rule_none [] s r h m = elim m [ ]
  rule_none (q ∷ qs) s r h m = none_step (broken q s) q r s (first_rule R S place_of broken qs s) (In r qs) refl (rule_none qs s r) h m

  here_sound : (rs : List R) (o : Option R) (s : S) (f : ℕ × R) → first_rule R S place_of broken rs s ≡ o → at_place (place_of s) o ≡ Some f → (place_of s ≡ f.0) × (broken f.1 s ≡ true)
  here_sound rs None s f e h = absurd (let c : (let n : Option (ℕ × R) = None in n) ≡ Some f = h in cc)
  here_sound rs (Some r) s f e h =
      let pair : ℕ × R = (place_of s, r) in
      let same : pair ≡ f = cc in
      (ap (λ (x : ℕ × R). x.0) same, ap (λ (x : ℕ × R). broken x.1 s) (sym same) ∙ rule_sound rs s r e)

  or_sound : (o p : Option (ℕ × R)) (f : ℕ × R) (A B : Type 0) → (o ≡ Some f → A) → (p ≡ Some f → B) → or_else o p ≡ Some f → A ⊎ B
  or_sound (Some x) p f A B g h k = inl (g k)
  or_sound None p f A B g h k = inr (h k)

  -- the first broken rule is broken at its place
  pub sound : (rs : List R) (sites : Sites S) (f : ℕ × R) → first_broken R S place_of broken rs sites ≡ Some f → BreaksAt R S place_of broken f.1 f.0 sites
  sound rs nowhere f h = absurd (let c : (let n : Option (ℕ × R) = None in n) ≡ Some f = h in cc)
  sound rs (here s) f h = here_sound rs (first_rule R S place_of broken rs s) s f refl h
  sound rs (both a b) f h = or_sound (first_broken R S place_of broken rs a) (first_broken R S place_of broken rs b) f _ _ (sound rs a f) (sound rs b f) h

  here_none : (rs : List R) (o : Option R) (s : S) (r : R) → first_rule R S place_of broken rs s ≡ o → at_place (place_of s) o ≡ None → In r rs → broken r s ≡ true → ⊥
  here_none rs None s r e h m k = let n : broken r s ≡ false = rule_none rs s r e m in let c : false ≡ true = sym n ∙ k in cc
  here_none rs (Some q) s r e h m k = let c : at_place (place_of s) (Some q) ≡ None = h in cc

  or_none : (o p : Option (ℕ × R)) → or_else o p ≡ None → (o ≡ None) × (p ≡ None)
  or_none (Some x) p h = absurd (let c : Some x ≡ None = h in cc)
  or_none None p h = (refl, h)

  -- where no rule of the list is found broken, a rule of the list is broken nowhere
  pub complete : (rs : List R) (sites : Sites S) (r : R) (p : ℕ) → In r rs → first_broken R S place_of broken rs sites ≡ None → BreaksAt R S place_of broken r p sites → ⊥
  complete rs nowhere r p m h b = b
  complete rs (here s) r p m h b = here_none rs (first_rule R S place_of broken rs s) s r refl h m b.1
  complete rs (both a b) r p m h (inl k) = complete rs a r p m (or_none (first_broken R S place_of broken rs a) (first_broken R S place_of broken rs b) h).0 k
  complete rs (both a b) r p m h (inr k) = complete rs b r p m (or_none (first_broken R S place_of broken rs a) (first_broken R S place_of broken rs b) h).1 k

  here_fine : (s : S) (r : R) (b : Bool) → broken r s ≡ b → ((q : R) (p : ℕ) → BreaksAt R S place_of broken q p (here s) → ⊥) → b ≡ false
  here_fine s r true e h = absurd (h r (place_of s) (refl, e))
  here_fine s r false e h = refl

  -- where no rule is broken, each site is fine by itself
  pub all_fine : (sites : Sites S) → ((r : R) (p : ℕ) → BreaksAt R S place_of broken r p sites → ⊥) → AllFine R S place_of broken sites
  all_fine nowhere h = tt
  all_fine (here s) h = λ r. here_fine s r (broken r s) refl h
  all_fine (both a b) h = (all_fine a (λ r p k. h r p (inl k)), all_fine b (λ r p k. h r p (inr k)))
