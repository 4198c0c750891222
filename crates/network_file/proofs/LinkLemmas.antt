-- No link has a port, exactly where the port has no far end.
use Rattle.std.proofs.Common.{◌≡◌, ℕ, Bool, true, false, ◌&&◌, inl, inr, List, [], ◌∷◌, Option, Some, refl, sym, ap, ◌∙◌}
use Rattle.std.specs.Prelude.{◌↔◌, ◌==◌, All, IsNone, is_some, if◌then◌else◌}
use Rattle.std.proofs.lemmas.List.Elements.{All-nil, All-cons, All-head, All-tail}
use Rattle.std.proofs.lemmas.Bool.{false_from_ne_true, both_ways, eqb-true}
use Rattle.network_run.specs.Network.{Link, far_end_among}
use Rattle.network_run.proofs.Numbers.{nat_eq_self}
use Rattle.network_file.specs.Network.{Port}
use Rattle.network_file.specs.Wiring.{IsAt}

both_pass : (a b : Bool) → (a && b) ≡ true → (a ≡ true) × (b ≡ true)
both_pass true b e = (refl, e)
both_pass false b e = absurd cc

module _ (s p : ℕ) where
  -- whether the port is the end a, b
  abbrev at_end : ℕ → ℕ → Bool
  at_end a b = s == a && p == b

  passes : (a b : ℕ) → (s ≡ a) × (p ≡ b) → at_end a b ≡ true
  passes a b is = rw (is.0, is.1, nat_eq_self a, nat_eq_self b) refl

  fails : (a b : ℕ) → ¬ ((s ≡ a) × (p ≡ b)) → at_end a b ≡ false
  fails a b other = false_from_ne_true (at_end a b) (λ t.
      let parts = both_pass (s == a) (p == b) t in
      other (eqb-true s a parts.0, eqb-true p b parts.1))

  none_before : (ls : List Link) → is_some (far_end_among ls s p) ≡ false → All (λ l. ¬ IsAt s p l) ls
  none_before [] e = All-nil (λ l. ¬ IsAt s p l)
  none_before (l ∷ ls) e = by (none_before ls) (at_end l.one l.one_port) (at_end l.other l.other_port) refl refl e
    where
      nowhere : at_end l.one l.one_port ≡ false → at_end l.other l.other_port ≡ false → IsAt s p l → ⊥
      nowhere one other (inl h) = both_ways (at_end l.one l.one_port) one (passes l.one l.one_port h)
      nowhere one other (inr h) = both_ways (at_end l.other l.other_port) other (passes l.other l.other_port h)

      by : (is_some (far_end_among ls s p) ≡ false → All (λ l. ¬ IsAt s p l) ls) → (a b : Bool) → at_end l.one l.one_port ≡ a → at_end l.other l.other_port ≡ b
          → is_some (if a then Some (l.other, l.other_port) else (if b then Some (l.one, l.one_port) else far_end_among ls s p)) ≡ false → All (λ l. ¬ IsAt s p l) (l ∷ ls)
      by again true b one other r = absurd cc
      by again false true one other r = absurd cc
      by again false false one other r = All-cons (λ l. ¬ IsAt s p l) l ls (nowhere one other) (again r)

  none_after : (ls : List Link) → All (λ l. ¬ IsAt s p l) ls → is_some (far_end_among ls s p) ≡ false
  none_after [] h = refl
  none_after (l ∷ ls) h =
      let here = All-head (λ l. ¬ IsAt s p l) l ls h in
      let one : at_end l.one l.one_port ≡ false = fails l.one l.one_port (λ x. here (inl x)) in
      let other : at_end l.other l.other_port ≡ false = fails l.other l.other_port (λ x. here (inr x)) in
      rw (one, other) (none_after ls (All-tail (λ l. ¬ IsAt s p l) l ls h))

  pub unlinked_is : (r : Option Port) (ls : List Link) → r ≡ far_end_among ls s p → IsNone r ↔ All (λ l. ¬ IsAt s p l) ls
  unlinked_is r ls e = (λ none. none_before ls (ap is_some (sym e) ∙ none), λ all. ap is_some e ∙ none_after ls all)
