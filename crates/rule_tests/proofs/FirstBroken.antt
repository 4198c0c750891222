-- The first broken rule is broken and none comes before it; where there is none, no rule is broken.
use Rattle.std.proofs.Common.{◌≡◌, ℕ, Bool, true, false, ◌&&◌, ◌||◌, nat_eq, nat_lt, cond, Option, Some, None, refl, sym, ap, ◌∙◌, ◌⊎◌, inl, inr, subst, arith}
use Rattle.std.proofs.lemmas.Bool.Decides.{nat_tests}
use Rattle.rule_tests.specs.Tests.{Tests, fine, test, both, BreaksAt, IsFine, is_before, first_from, first_broken, IsFirst}

-- where all is fine, no rule is broken
pub fine_unbroken : {R : Type 0} (ts : Tests R) → IsFine ts → (r : R) (p : ℕ) → BreaksAt r p ts → ⊥
fine_unbroken fine f r p h = h
fine_unbroken (test q s b) f r p h = let c : false ≡ true = sym f ∙ h.2 in cc
fine_unbroken (both a b) f r p (inl h) = fine_unbroken a f.0 r p h
fine_unbroken (both a b) f r p (inr h) = fine_unbroken b f.1 r p h

test_unbroken : (b : Bool) → (b ≡ true → ⊥) → b ≡ false
test_unbroken true h = absurd (h refl)
test_unbroken false h = refl

-- where no rule is broken, all is fine
pub unbroken_fine : {R : Type 0} (ts : Tests R) → ((r : R) (p : ℕ) → BreaksAt r p ts → ⊥) → IsFine ts
unbroken_fine fine h = tt
unbroken_fine (test q s b) h = test_unbroken b (λ e. h s q (refl, refl, e))
unbroken_fine (both a b) h = (unbroken_fine a (λ r p k. h r p (inl k)), unbroken_fine b (λ r p k. h r p (inr k)))

-- ---- the first

lex_refl : (p x : ℕ) → (nat_lt p p || (nat_eq p p && nat_lt x x)) ≡ false
lex_refl p x = grind (arith, nat_tests)

lex_over : (p q x y : ℕ) → (nat_lt q p || (nat_eq q p && nat_lt y x)) ≡ true → (nat_lt p q || (nat_eq p q && nat_lt x y)) ≡ false
lex_over p q x y h = grind (arith, nat_tests, h)

lex_trans : (p q r x y z : ℕ) → (nat_lt q p || (nat_eq q p && nat_lt y x)) ≡ false → (nat_lt r q || (nat_eq r q && nat_lt z y)) ≡ false → (nat_lt r p || (nat_eq r p && nat_lt z x)) ≡ false
lex_trans p q r x y z h k = grind (arith, nat_tests, h, k)

module _ {R : Type 0} (rank : R → ℕ) where
  abbrev Found : Type 0
  Found = ℕ × R

  -- the first does not come before the second
  abbrev NotBefore : Found → Found → Type 0
  NotBefore g f = is_before rank g f ≡ false

  same_not_before : (f g : Found) → g ≡ f → NotBefore g f
  same_not_before f g same = let P : Found → Type 0 = λ h. NotBefore h f in subst P (sym same) (lex_refl f.0 (rank f.1))

  some_same : (f g : Found) → Some g ≡ Some f → g ≡ f
  some_same f g h = cc

  none_some : {X : Type 0} (f : Found) → (let n : Option Found = None in n) ≡ Some f → X
  none_some f h = absurd (cc)

  -- what tests find that follow others: where it is from, and before what it does not come
  pub record Least (found : Option Found) (ts : Tests R) (f : Found) : Type 0 where
    pub from : (found ≡ Some f) ⊎ BreaksAt f.1 f.0 ts
    pub past : (g : Found) → found ≡ Some g → NotBefore g f
    pub least : (s : R) (q : ℕ) → BreaksAt s q ts → NotBefore (q, s) f

  broken_at : (q : ℕ) (s : R) (b : Bool) (f : Found) → b ≡ true → (let n : Found = (q, s) in n) ≡ f → BreaksAt f.1 f.0 (test q s b)
  broken_at q s b f h same = (ap (λ (x : Found). x.0) same, ap (λ (x : Found). x.1) same, h)

  tested : (q : ℕ) (s : R) (b : Bool) (g : Found) → ((let n : Found = (q, s) in n) ≡ g → NotBefore (q, s) g) → (r : R) (p : ℕ) → NotBefore (q, s) g → BreaksAt r p (test q s b) → NotBefore (p, r) g
  tested q s b g k r p h u =
      let P : ℕ → Type 0 = λ n. NotBefore (n, s) g in
      let Q : R → Type 0 = λ t. NotBefore (p, t) g in
      subst Q u.1 (subst P u.0 h)

  test_none : (q : ℕ) (s : R) (f : Found) → Some (q, s) ≡ Some f → Least None (test q s true) f
  test_none q s f h =
      let same : (let n : Found = (q, s) in n) ≡ f = cc in
      record { from = inr (broken_at q s true f refl same); past = λ g k. none_some g k; least = λ r p u. tested q s true f (λ e. same_not_before f (q, s) e) r p (same_not_before f (q, s) same) u }

  test_some : (q : ℕ) (s : R) (g f : Found) (v : Bool) → is_before rank (q, s) g ≡ v → cond v (Some (q, s)) (Some g) ≡ Some f → Least (Some g) (test q s true) f
  test_some q s g f true e h =
      let same : (let n : Found = (q, s) in n) ≡ f = cc in
      let over : NotBefore g (q, s) = lex_over g.0 q (rank g.1) (rank s) e in
      record { from = inr (broken_at q s true f refl same); past = λ k i. (let P : Found → Type 0 = λ x. NotBefore k x in let Q : Found → Type 0 = λ x. NotBefore x (q, s) in subst P same (subst Q (some_same k g i) over)); least = λ r p u. tested q s true f (λ d. same_not_before f (q, s) d) r p (same_not_before f (q, s) same) u }
  test_some q s g f false e h =
      let same : g ≡ f = some_same f g h in
      record { from = inl h; past = λ k i. same_not_before f k (some_same f k (sym i ∙ h)); least = λ r p u. tested q s true f (λ d. same_not_before f (q, s) d) r p (let P : Found → Type 0 = λ x. NotBefore (q, s) x in subst P same e) u }

  not_broken : (q : ℕ) (s : R) (found : Option Found) (f : Found) → found ≡ Some f → Least found (test q s false) f
  not_broken q s found f h = record { from = inl h; past = λ g k. same_not_before f g (some_same f g (sym k ∙ h)); least = λ r p u. absurd (let c : false ≡ true = u.2 in cc) }

  some_left : (q : ℕ) (s : R) (g : Found) (v : Bool) → cond v (Some (q, s)) (Some g) ≡ None → (Some g ≡ None) × (true ≡ false)
  some_left q s g true h = absurd (let c : Some (q, s) ≡ None = h in cc)
  some_left q s g false h = absurd (let c : Some g ≡ None = h in cc)

  tests_none : (ts : Tests R) (found : Option Found) → first_from rank found ts ≡ None → (found ≡ None) × IsFine ts
  tests_none fine found h = (h, tt)
  tests_none (test q s true) None h = absurd (let c : Some (q, s) ≡ None = h in cc)
  tests_none (test q s true) (Some g) h = some_left q s g (is_before rank (q, s) g) h
  tests_none (test q s false) found h = (h, refl)
  tests_none (both a b) found h =
      let second : (first_from rank found a ≡ None) × IsFine b = tests_none b (first_from rank found a) h in
      let first : (found ≡ None) × IsFine a = tests_none a found second.0 in
      (first.0, (first.1, second.1))

  from_none : (a b : Tests R) (found : Option Found) (f : Found) → ((let n : Option Found = None in n) ≡ Some f) ⊎ BreaksAt f.1 f.0 b → (found ≡ Some f) ⊎ BreaksAt f.1 f.0 (both a b)
  from_none a b found f (inl h) = none_some f h
  from_none a b found f (inr u) = inr (inr u)

  least_none : (a b : Tests R) (f : Found) → IsFine a → ((s : R) (q : ℕ) → BreaksAt s q b → NotBefore (q, s) f) → (s : R) (q : ℕ) → BreaksAt s q (both a b) → NotBefore (q, s) f
  least_none a b f k l s q (inl u) = absurd (fine_unbroken a k s q u)
  least_none a b f k l s q (inr u) = l s q u

  -- what is not before m, which is not before f, is not before f
  on_from : (f m g : Found) → NotBefore m f → NotBefore g m → NotBefore g f
  on_from f m g h k = lex_trans f.0 m.0 g.0 (rank f.1) (rank m.1) (rank g.1) h k

  least_both : (a b : Tests R) (m f : Found) → NotBefore m f → ((s : R) (q : ℕ) → BreaksAt s q a → NotBefore (q, s) m) → ((s : R) (q : ℕ) → BreaksAt s q b → NotBefore (q, s) f) → (s : R) (q : ℕ) → BreaksAt s q (both a b) → NotBefore (q, s) f
  least_both a b m f h k l s q (inl u) = on_from f m (q, s) h (k s q u)
  least_both a b m f h k l s q (inr u) = l s q u

  from_first : (a b : Tests R) (found : Option Found) (m f : Found) → m ≡ f → (found ≡ Some m) ⊎ BreaksAt m.1 m.0 a → (found ≡ Some f) ⊎ BreaksAt f.1 f.0 (both a b)
  from_first a b found m f same (inl h) = inl (h ∙ ap (λ (x : Found). Some x) same)
  from_first a b found m f same (inr u) = (let P : Found → Type 0 = λ x. BreaksAt x.1 x.0 a in inr (inl (subst P same u)))

  from_both : (a b : Tests R) (found : Option Found) (m f : Found) → (found ≡ Some m) ⊎ BreaksAt m.1 m.0 a → (Some m ≡ Some f) ⊎ BreaksAt f.1 f.0 b → (found ≡ Some f) ⊎ BreaksAt f.1 f.0 (both a b)
  from_both a b found m f k (inl h) = from_first a b found m f (some_same f m h) k
  from_both a b found m f k (inr u) = inr (inr u)

  joined : (a b : Tests R) (found : Option Found) (m f : Found) → Least found a m → Least (Some m) b f → Least found (both a b) f
  joined a b found m f k l =
      record {
        from = from_both a b found m f k.from l.from;
        past = λ g i. on_from f m g (l.past m refl) (k.past g i);
        least = least_both a b m f (l.past m refl) k.least l.least;
      }

  one_then : (a b : Tests R) (found mid : Option Found) (f : Found) → first_from rank found a ≡ mid → ((m : Found) → first_from rank found a ≡ Some m → Least found a m) → first_from rank mid b ≡ Some f → Least mid b f → Least found (both a b) f
  one_then a b found None f e ih h l =
      let none : (found ≡ None) × IsFine a = tests_none a found e in
      record { from = from_none a b found f l.from; past = λ g k. none_some g (sym none.0 ∙ k); least = λ r p u. least_none a b f none.1 l.least r p u }
  one_then a b found (Some m) f e ih h l = joined a b found m f (ih m e) l

  least_of : (ts : Tests R) (found : Option Found) (f : Found) → first_from rank found ts ≡ Some f → Least found ts f
  least_of fine found f h = record { from = inl h; past = λ g k. same_not_before f g (some_same f g (sym k ∙ h)); least = λ r p u. absurd u }
  least_of (test q s true) None f h = test_none q s f h
  least_of (test q s true) (Some g) f h = test_some q s g f (is_before rank (q, s) g) refl h
  least_of (test q s false) found f h = not_broken q s found f h
  least_of (both a b) found f h = one_then a b found (first_from rank found a) f refl (λ m e. least_of a found m e) h (least_of b (first_from rank found a) f h)

  -- the first broken rule is broken, and none comes before it
  broken_from : (ts : Tests R) (f : Found) → ((let n : Option Found = None in n) ≡ Some f) ⊎ BreaksAt f.1 f.0 ts → BreaksAt f.1 f.0 ts
  broken_from ts f (inl h) = none_some f h
  broken_from ts f (inr u) = u

  pub is_first : (ts : Tests R) (f : ℕ × R) → first_broken rank ts ≡ Some f → IsFirst rank f.1 f.0 ts
  is_first ts f h = (let l : Least None ts f = least_of ts None f h in record { broken = broken_from ts f l.from; least = l.least })

  -- where there is none, all is fine
  pub none_is_fine : (ts : Tests R) → first_broken rank ts ≡ None → IsFine ts
  none_is_fine ts h = (tests_none ts None h).1
