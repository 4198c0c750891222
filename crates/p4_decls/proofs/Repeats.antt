-- What is read again and again: on what it rests, and what is spelled.
use Rattle.std.proofs.Common.{◌≡◌, ℕ, zero, suc, ◌+◌, ◌≤◌, Bool, cond, List, [], ◌∷◌, ◌++◌, length, Option, Ok, refl, subst, arith}
use Rattle.std.proofs.lemmas.List.{append-nil}
use Rattle.std.specs.Prelude.{slice_get}
use Rattle.lex_words.specs.declared.key.Key.TheVariants.{Comma, Close}
use Rattle.lex_words.specs.Seen.{Lexeme, at_key}
use Rattle.lex_words.specs.Reading.{Read, look, more_of}
use Rattle.lex_words.proofs.Even.{Even, flat, joined}
use Rattle.lex_words.proofs.Locality.{Follows, Follows-bind, Follows-cond, Follows-spent, Follows-ok, Follows-look, Follows-more}
use Rattle.lex_words.proofs.Spelled.{Reads, Reads-bind, Reads-map, Reads-ok, Reads-spent, Reads-cond, Reads-either}
use Rattle.lex_words.proofs.Standing.{Stands-length}
use Rattle.p4_spelling.specs.Lists.{SpellsList, last, then, SpellsSome, no_item, items, SpellsEach, no_more, one_more}
use Rattle.p4_decls.specs.Repeating.{each_at, more_at, list_at, some_at}

-- ---- locality

module _ (ws vs : List Lexeme) (Hs Bs : Type 0) (n m : ℕ) (turns : n ≤ m) {A : Type 0} (item item' : ℕ → Read A) (lower : (i : ℕ) → Follows ws vs Hs Bs i (item i) (item' i)) where
  abbrev F : {A : Type 0} → ℕ → Read A → Read A → Type 0
  F = Follows ws vs Hs Bs

  -- in j and k turns
  each_follows : (stop : Option Lexeme → Bool) (j k i : ℕ) → j ≤ k → F i (each_at ws stop item j i) (each_at vs stop item' k i)
  unfolding each_at
  each_follows stop zero k i le = Follows-spent ws vs Hs Bs i _
  each_follows stop (suc j) zero i le = absurd (omega arith)
  each_follows stop (suc j) (suc k) i le =
      Follows-look ws vs Hs Bs i _ _ (λ o. Follows-cond ws vs Hs Bs i (stop o) _ _ _ _ (Follows-ok ws vs Hs Bs i i _ (omega arith))
      (Follows-bind ws vs Hs Bs i _ _ _ _ (lower i) (λ x. Follows-bind ws vs Hs Bs x.1 _ _ _ _ (each_follows stop j k x.1 (omega arith)) (λ y. Follows-ok ws vs Hs Bs y.1 y.1 _ (omega arith)))))

  pub Follows-each : (stop : Option Lexeme → Bool) (i : ℕ) → F i (each_at ws stop item n i) (each_at vs stop item' m i)
  Follows-each stop i = each_follows stop n m i turns

  pub Follows-list : (i : ℕ) → F i (list_at ws item n i) (list_at vs item' m i)
  unfolding list_at more_at
  Follows-list i =
      Follows-bind ws vs Hs Bs i _ _ _ _ (lower i) (λ x. Follows-bind ws vs Hs Bs x.1 _ _ _ _ (Follows-more ws vs Hs Bs item item' lower Comma n m x.1 turns) (λ y. Follows-ok ws vs Hs Bs y.1 y.1 _ (omega arith)))

  pub Follows-some : (i : ℕ) → F i (some_at ws item n i) (some_at vs item' m i)
  unfolding some_at look
  Follows-some i =
      Follows-look ws vs Hs Bs i (λ o. cond (at_key Close o) (Ok ([], i)) (list_at ws item n i)) (λ o. cond (at_key Close o) (Ok ([], i)) (list_at vs item' m i))
      (λ o. Follows-cond ws vs Hs Bs i (at_key Close o) _ _ _ _ (Follows-ok ws vs Hs Bs i i _ (omega arith)) (Follows-list i))

-- ---- what is read is spelled

-- each item is so
abbrev pub Each : {A : Type 0} → (A → Type 0) → List A → Type 0
Each P [] = Unit {0}
Each P (a ∷ xs) = P a × Each P xs

-- a shortest item at a place, within its bound
pub record Least {A : Type 0} (S : (p : ℕ) → A → List Lexeme → Type 0) (P : A → Type 0) (p : ℕ) : Type 0 where
  pub item : A
  pub lexemes : List Lexeme
  pub spells : S p item lexemes
  pub bound : P item

-- S: which lexemes spell an item. P: its bound. b: how many brackets may be opened before an item and behind it.
module _ (ws : List Lexeme) {A : Type 0} (S : (p : ℕ) → A → List Lexeme → Type 0) (P : A → Type 0) (item : ℕ → Read A) (b : ℕ) (sound : (i : ℕ) → Reads ws (S i) P b b i (item i)) where
  -- the place behind the first item
  onward : (p m : ℕ) (xs : List A) (u v : List Lexeme) → m ≡ p + length u → SpellsEach S m xs v → SpellsEach S (p + length u) xs v
  onward p m xs u v at r = subst (λ i. SpellsEach S i xs v) at r

  pub Reads-each : (stop : Option Lexeme → Bool) (j i : ℕ) → Reads ws (SpellsEach S i) (Each P) b b i (each_at ws stop item j i)
  unfolding each_at look
  Reads-each stop zero i = Reads-spent ws _ _ b b i
  Reads-each stop (suc j) i =
      Reads-cond ws _ _ b b i (stop (slice_get ws i)) _ _ (λ _. Reads-ok ws _ _ b i [] no_more tt)
      (λ _. Reads-bind ws (S i) _ P _ b b b i _ _ (sound i)
      (λ a u s. (a ∷ [], [], one_more s no_more, λ p. (p, tt)))
      (λ x u st s p. let at = Stands-length ws i x.1 u st in
      Reads-bind ws (SpellsEach S x.1) _ (Each P) _ b b b x.1 _ _ (Reads-each stop j x.1)
      (λ xs v r. (x.0 ∷ xs, [], rw (append-nil v) (one_more s (onward i x.1 xs u v at r)), λ q. (p, q)))
      (λ y v st' r q. Reads-ok ws _ _ b y.1 (x.0 ∷ y.0) (rw (append-nil v) (one_more s (onward i x.1 y.0 u v at r))) (p, q))))

  module _ (least : (p : ℕ) → Least S P p) where
    -- behind the item a, which begins at p and whose lexemes are u
    behind : (p m : ℕ) (xs : List A) (u v : List Lexeme) → m ≡ p + length u → SpellsList S (m + 1) xs v → SpellsList S (p + length u + 1) xs v
    behind p m xs u v at r = subst (λ i. SpellsList S (i + 1) xs v) at r

    Reads-more : (k p i : ℕ) (a : A) (u : List Lexeme) → S p a u → i ≡ p + length u → Reads ws (λ xs v. SpellsList S p (a ∷ xs) (u ++ v)) (Each P) b b i (more_of ws Comma item k i)
    unfolding more_of
    Reads-more zero p i a u s at = Reads-spent ws _ _ b b i
    Reads-more (suc k) p i a u s at =
        let l = least (i + 1) in
        Reads-either ws _ _ b b b i Comma _ _ refl (l.item ∷ [], l.lexemes, then s (behind p i (l.item ∷ []) u l.lexemes at (last l.spells)), (l.bound, tt))
        (Reads-bind ws (S (i + 1)) _ P _ b b b (i + 1) _ _ (sound (i + 1))
        (λ c v t. (c ∷ [], [], rw (append-nil v) (then s (behind p i (c ∷ []) u v at (last t))), λ q. (q, tt)))
        (λ x v st t q. let on = Stands-length ws (i + 1) x.1 v st in
        Reads-bind ws (λ zs w. SpellsList S (i + 1) (x.0 ∷ zs) (v ++ w)) _ (Each P) _ b b b x.1 _ _ (Reads-more k (i + 1) x.1 x.0 v t on)
        (λ zs w r. (x.0 ∷ zs, [], rw (append-nil w) (then s (behind p i (x.0 ∷ zs) u (v ++ w) at r)), λ o. (q, o)))
        (λ z w st' r o. Reads-ok ws _ _ b z.1 (x.0 ∷ z.0) (rw (append-nil w) (then s (behind p i (x.0 ∷ z.0) u (v ++ w) at r))) (q, o))))
        (Reads-ok ws _ _ b i [] (rw (append-nil u) (last s)) tt)

    pub Reads-list : (n i : ℕ) → Reads ws (SpellsList S i) (Each P) b b i (list_at ws item n i)
    unfolding list_at more_at
    Reads-list n i =
        Reads-bind ws (S i) _ P _ b b b i _ _ (sound i) (λ a u s. (a ∷ [], [], rw (append-nil u) (last s), λ p. (p, tt)))
        (λ x u st s p. Reads-bind ws (λ xs v. SpellsList S i (x.0 ∷ xs) (u ++ v)) _ (Each P) _ b b b x.1 _ _ (Reads-more n i x.1 x.0 u s (Stands-length ws i x.1 u st))
        (λ xs v r. (x.0 ∷ xs, [], rw (append-nil v) r, λ q. (p, q)))
        (λ y v st' r q. Reads-ok ws _ _ b y.1 (x.0 ∷ y.0) (rw (append-nil v) r) (p, q)))

    pub Reads-some : (n i : ℕ) → Reads ws (SpellsSome S i) (Each P) b b i (some_at ws item n i)
    unfolding some_at
    Reads-some n i =
        Reads-cond ws _ _ b b i (at_key Close (slice_get ws i)) _ _ (λ _. Reads-ok ws _ _ b i [] no_item tt)
        (λ _. Reads-map ws _ _ _ _ b b i _ (λ xs v s. items s) (λ xs p. p) (Reads-list n i))

-- ---- brackets

pub even_each : {A : Type 0} {S : (p : ℕ) → A → List Lexeme → Type 0} {p : ℕ} {xs : List A} {u : List Lexeme} → ((p : ℕ) (a : A) (u : List Lexeme) → S p a u → Even u) → SpellsEach S p xs u → Even u
even_each even no_more = flat _ (λ b. refl)
even_each even (one_more {u = u} {v = v} s r) = joined u v (even _ _ u s) (even_each even r)
