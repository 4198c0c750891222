-- Lists of expressions with commas between them: what is read is spelled so.
use Rattle.std.proofs.Common.{◌≡◌, ℕ, zero, suc, ◌+◌, ◌≤◌, true, List, [], ◌∷◌, ◌++◌, length, Ok, refl, subst, arith}
use Rattle.std.proofs.lemmas.List.{append-nil}
use Rattle.std.specs.Prelude.{slice_get}
use Rattle.lex_words.specs.declared.key.Key.TheVariants.{Comma}
use Rattle.lex_words.specs.Seen.{Lexeme, number, key, at_key}
use Rattle.lex_words.specs.Reading.{◌>>=◌, either, more_of}
use Rattle.lex_words.proofs.KeyCodes.{at_key-is}
use Rattle.lex_words.proofs.Standing.{Stands-length}
use Rattle.lex_words.proofs.Spelled.{Reads, Reads-bind, Reads-map, Reads-lexeme, Reads-ok, Reads-spent, Reads-either}
use Rattle.indus_tree.specs.Tree.{Expr, Exprs, num, none, more, exprs_from}
use Rattle.indus_tree.specs.Height.{expr_height, exprs_height}
use Rattle.indus_spelling.specs.Operators.{top}
use Rattle.indus_spelling.specs.Expressions.{Spells, SpellsAll, last, then}
use Rattle.indus_expressions.specs.Reading.{Reader, rest_of, all_of}
use Rattle.indus_expressions.proofs.Turns.{expr_tall}
use Rattle.indus_expressions.proofs.SoundSteps.{zero_lexeme, a_number_up}

abbrev pub Low : ℕ → Expr → Type 0
Low h t = expr_height t ≤ h

abbrev pub LowAll : ℕ → List Expr → Type 0
LowAll h ts = exprs_height (exprs_from ts) ≤ h

-- what the reader gives is spelled so, is at most h high, and leaves as many brackets as before it
abbrev pub ReadsEach : (ws : List Lexeme) → Reader → (h b : ℕ) → Type 0
ReadsEach ws f h b = (l p : ℕ) → Reads ws (Spells l p) (Low h) b b p (f l p)

-- one expression at least
abbrev pub AreSome : List Expr → Type 0
AreSome [] = ⊥
AreSome (a ∷ ts) = Unit {0}

-- two expressions at least
abbrev pub AreSeveral : List Expr → Type 0
AreSeveral [] = ⊥
AreSeveral (a ∷ ts) = AreSome ts

pub then_at : (p q : ℕ) (a : Expr) (rest : Exprs) (u v : List Lexeme) → Spells top p a u → q ≡ p + length u → SpellsAll (q + 1) rest v → SpellsAll p (more a rest) (u ++ key Comma ∷ v)
then_at p q a rest u v s e t = then s (subst (λ x. SpellsAll (x + 1) rest v) e t)

-- the shortest list behind a comma
pub also_at : (p q : ℕ) (a : Expr) (u : List Lexeme) → Spells top p a u → q ≡ p + length u → SpellsAll p (more a (exprs_from (num (q + 1) zero_lexeme ∷ []))) (u ++ key Comma ∷ number zero_lexeme ∷ [])
also_at p q a u s e = then_at p q a (more (num (q + 1) zero_lexeme) none) u (number zero_lexeme ∷ []) s e (last (a_number_up top (q + 1) zero_lexeme))

module _ (ws : List Lexeme) (n : ℕ) (below : Reader) (h b : ℕ) (lower : ReadsEach ws below h b) where
  -- behind the expression a: none or more
  abbrev ReadsMore : ℕ → Type 0
  ReadsMore k = (p q : ℕ) (a : Expr) (u : List Lexeme) → Spells top p a u → q ≡ p + length u → 1 ≤ h
      → Reads ws (λ ts v. SpellsAll p (more a (exprs_from ts)) (u ++ v)) (LowAll h) b b q (more_of ws Comma (below top) k q)

  -- behind the expression a and a comma: one or more
  Reads-next : (k : ℕ) → ReadsMore k → (p q : ℕ) (a : Expr) (u : List Lexeme) → Spells top p a u → q ≡ p + length u → 1 ≤ h
      → Reads ws (λ ts v. AreSome ts × SpellsAll p (more a (exprs_from ts)) (u ++ key Comma ∷ v)) (LowAll h) b b (q + 1)
      (below top (q + 1) >>= λ x. more_of ws Comma (below top) k x.1 >>= λ y. Ok (x.0 ∷ y.0, y.1))
  Reads-next k on p q a u s e some =
      Reads-bind ws (Spells top (q + 1)) _ (Low h) _ b b b (q + 1) (below top (q + 1)) _ (lower top (q + 1))
      (λ c w t. (c ∷ [], [], (tt, rw (append-nil w) (then_at p q a (more c none) u w s e (last t))), λ fits. omega arith))
      (λ x w st t low. Reads-bind ws (λ ts v. SpellsAll (q + 1) (more x.0 (exprs_from ts)) (w ++ v)) _ (LowAll h) _ b b b x.1 _ _ (on (q + 1) x.1 x.0 w t (Stands-length ws (q + 1) x.1 w st) some)
      (λ ts v al. (x.0 ∷ ts, [], (tt, rw (append-nil v) (then_at p q a (more x.0 (exprs_from ts)) u (w ++ v) s e al)), λ fits. omega arith))
      (λ y v st' al low'. Reads-ok ws _ _ b y.1 _ (tt, rw (append-nil v) (then_at p q a (more x.0 (exprs_from y.0)) u (w ++ v) s e al)) (omega (arith, low, low'))))

  pub Reads-more : (k : ℕ) → ReadsMore k
  unfolding more_of
  Reads-more zero p q a u s e some = Reads-spent ws _ _ b b q
  Reads-more (suc k) p q a u s e some =
      Reads-either ws _ _ b b b q Comma _ _ refl (num (q + 1) zero_lexeme ∷ [], number zero_lexeme ∷ [], also_at p q a u s e, omega (arith, some))
      (Reads-map ws _ _ (LowAll h) (LowAll h) b b (q + 1) _ (λ ts v z. z.1) (λ ts z. z) (Reads-next k (λ i j. Reads-more k i j) p q a u s e some))
      (Reads-ok ws _ _ b q [] (rw (append-nil u) (last s)) (omega arith))

  -- where a comma stands behind a
  pub Reads-some : (k p q : ℕ) (a : Expr) (u : List Lexeme) → Spells top p a u → q ≡ p + length u → 1 ≤ h → at_key Comma (slice_get ws q) ≡ true
      → Reads ws (λ ts v. AreSome ts × SpellsAll p (more a (exprs_from ts)) (u ++ v)) (LowAll h) b b q (more_of ws Comma (below top) k q)
  unfolding more_of either
  Reads-some zero p q a u s e some c = Reads-spent ws _ _ b b q
  Reads-some (suc k) p q a u s e some c =
      rw c (Reads-lexeme ws _ _ b b b q (key Comma) _ (at_key-is Comma (slice_get ws q) c) refl (num (q + 1) zero_lexeme ∷ [], number zero_lexeme ∷ [], (tt, also_at p q a u s e), omega (arith, some)) (Reads-next k (λ i j. Reads-more k i j) p q a u s e some))

  pub Reads-rest : (p q : ℕ) (a : Expr) (u : List Lexeme) → Spells top p a u → q ≡ p + length u → expr_height a ≤ h
      → Reads ws (λ ts v. SpellsAll p (exprs_from ts) (u ++ v)) (LowAll h) b b q (rest_of ws n below a q)
  unfolding rest_of
  Reads-rest p q a u s e low =
      Reads-bind ws (λ ts v. SpellsAll p (more a (exprs_from ts)) (u ++ v)) _ (LowAll h) _ b b b q _ _ (Reads-more n p q a u s e (omega (arith, low, expr_tall a)))
      (λ ts v al. (a ∷ ts, [], rw (append-nil v) al, λ fits. omega arith))
      (λ y v st al low'. Reads-ok ws _ _ b y.1 _ (rw (append-nil v) al) (omega (arith, low, low')))

  -- two or more, where a comma stands behind a
  pub Reads-several : (p q : ℕ) (a : Expr) (u : List Lexeme) → Spells top p a u → q ≡ p + length u → expr_height a ≤ h → at_key Comma (slice_get ws q) ≡ true
      → Reads ws (λ ts v. AreSeveral ts × SpellsAll p (exprs_from ts) (u ++ v)) (LowAll h) b b q (rest_of ws n below a q)
  unfolding rest_of
  Reads-several p q a u s e low c =
      Reads-bind ws (λ ts v. AreSome ts × SpellsAll p (more a (exprs_from ts)) (u ++ v)) _ (LowAll h) _ b b b q _ _ (Reads-some n p q a u s e (omega (arith, low, expr_tall a)) c)
      (λ ts v al. (a ∷ ts, [], (al.0, rw (append-nil v) (al.1)), λ fits. omega arith))
      (λ y v st al low'. Reads-ok ws _ _ b y.1 _ (al.0, rw (append-nil v) (al.1)) (omega (arith, low, low')))

  pub Reads-list : (p : ℕ) → Reads ws (λ ts v. SpellsAll p (exprs_from ts) v) (LowAll h) b b p (all_of ws n below p)
  unfolding all_of
  Reads-list p =
      Reads-bind ws (Spells top p) _ (Low h) _ b b b p (below top p) _ (lower top p)
      (λ c w t. (c ∷ [], [], rw (append-nil w) (last t), λ fits. omega arith))
      (λ x w st t low. Reads-rest p x.1 x.0 w t (Stands-length ws p x.1 w st) low)
