-- What is joined behind an operand: what is read is spelled so.
use Rattle.std.proofs.Common.{◌≡◌, ℕ, suc, ◌+◌, ◌-◌, ◌≤◌, ◌<◌, List, [], ◌∷◌, ◌++◌, length, refl, subst, arith}
use Rattle.std.proofs.lemmas.List.{append-nil}
use Rattle.std.proofs.lemmas.Bool.{eqb-true}
use Rattle.std.specs.Prelude.{slice_get, ◌==◌}
use Rattle.lex_words.specs.declared.key.Key.{Key}
use Rattle.lex_words.specs.declared.key.Key.TheVariants.{Question, Colon}
use Rattle.lex_words.specs.Seen.{Lexeme, number, key, at_key}
use Rattle.lex_words.proofs.Joins as joins
use Rattle.lex_words.proofs.Joins.{level_join, Finish}
use Rattle.lex_words.proofs.KeyCodes.{at_key-is}
use Rattle.lex_words.proofs.Standing.{Stands-length}
use Rattle.lex_words.proofs.Spelled.{Reads, Reads-bind, Reads-ok, Reads-cond, Reads-expect, Reads-room}
use Rattle.p4_tree.specs.Tree.{Expr, num, binary, conditional}
use Rattle.p4_tree.specs.Height.{expr_height}
use Rattle.p4_tree.specs.declared.statement.Op.{Op}
use Rattle.p4_spelling.specs.Operators.{top, op_at}
use Rattle.p4_spelling.specs.Expressions.{Spells, tighter, joined, a_conditional}
use Rattle.p4_expressions.specs.Reading.{Reader, right_at, chain, branches_at, conditional_at, behind_at}
use Rattle.p4_expressions.proofs.Turns.{expr_tall}
use Rattle.p4_expressions.proofs.Behind.{op-plain}
use Rattle.p4_expressions.proofs.SoundSteps.{zero_lexeme, a_number_up}
use Rattle.p4_expressions.proofs.SoundOperands.{Low, ReadsEach}

-- ---- what is spelled with an operator or `? :`

joined_at : (l p q : ℕ) (a c : Expr) (k : Key) (op : Op) (u v : List Lexeme) → op_at k ≡ level_join (suc l) op → Spells (suc l) p a u → q ≡ p + length u → Spells l (q + 1) c v
    → Spells (suc l) p (binary p op a c) (u ++ key k ∷ v)
joined_at l p q a c k op u v o s e t = joined k op o s (subst (λ x. Spells l (x + 1) c v) e t)

-- q and r: where the two marks stand
conditional_from : (p q r : ℕ) (a c d : Expr) (u v w : List Lexeme) → Spells 10 p a u → q ≡ p + length u → Spells top (q + 1) c v → r ≡ q + 1 + length v → Spells top (r + 1) d w
    → Spells top p (conditional p a c d) (u ++ key Question ∷ (v ++ key Colon ∷ w))
conditional_from p q r a c d u v w s e t f z =
    a_conditional s (subst (λ x. Spells top (x + 1) c v) e t) (subst (λ x. Spells top (x + 1 + length v + 1) d w) e (subst (λ x. Spells top (x + 1) d w) f z))

-- the shortest right side
finish : (l p q : ℕ) (a : Expr) (k : Key) (op : Op) (u : List Lexeme) → op_at k ≡ level_join (suc l) op → Spells (suc l) p a u → q ≡ p + length u → Finish (Spells (suc l) p) expr_height (expr_height a) u k
finish l p q a k op u o s e =
    record { tree = binary p op a (num (q + 1) zero_lexeme); rest = number zero_lexeme ∷ []; spells = joined_at l p q a (num (q + 1) zero_lexeme) k op u (number zero_lexeme ∷ []) o s e (a_number_up l (q + 1) zero_lexeme); tall = omega (arith, expr_tall a) }

-- ---- the readers

module _ (ws : List Lexeme) (n : ℕ) (below : Reader) (h b : ℕ) (lower : (g : ℕ) → h ≡ suc g → ReadsEach ws below g b) where
  -- behind the key k, which stands behind a
  Reads-right : (l p i : ℕ) (a : Expr) (u : List Lexeme) (k : Key) (op : Op) → op_at k ≡ level_join (suc l) op → Spells (suc l) p a u → i ≡ p + length u → expr_height a < h
      → Reads ws (λ t v. Spells (suc l) p t (u ++ key k ∷ v)) (Low h) b b (i + 1) (right_at ws n below l p a op (i + 1))
  unfolding right_at
  Reads-right l p i a u k op o s e lt =
      let g : (g : ℕ) × (h ≡ suc g) = (h - 1, omega arith) in
      Reads-bind ws (Spells l (i + 1)) _ (Low g.0) _ b b b (i + 1) (below l (i + 1)) _ (lower g.0 g.1 l (i + 1))
      (λ c v t. (binary p op a c, [], rw (append-nil v) (joined_at l p i a c k op u v o s e t), λ fits. omega arith))
      (λ c v st t low. Reads-ok ws _ _ b c.1 _ (rw (append-nil v) (joined_at l p i a c.0 k op u v o s e t)) (omega (arith, lt, low, g.1)))

  Reads-chain : (l p i : ℕ) (a : Expr) (u : List Lexeme) → Spells (suc l) p a u → i ≡ p + length u → expr_height a ≤ h → Reads ws (λ t v. Spells (suc l) p t (u ++ v)) (Low h) b b i (chain ws n below h l p n a i)
  Reads-chain l p i a u s e low = joins.Reads-chain op_at expr_height Spells op-plain finish (right_at ws n below) ws h b Reads-right l p n i a u s e low

  -- behind the test a, where `?` stands
  Reads-branches : (p i : ℕ) (a : Expr) (u : List Lexeme) → Spells 10 p a u → i ≡ p + length u → expr_height a < h → Reads ws (λ t v. Spells top p t (u ++ v)) (Low h) b b i (branches_at ws n below p a i)
  unfolding branches_at
  Reads-branches p i a u s e lt =
      let g : (g : ℕ) × (h ≡ suc g) = (h - 1, omega arith) in
      let tall = expr_tall a in
      let zero_at : ℕ → Expr = λ q. num q zero_lexeme in
      let zero_up : (q : ℕ) → Spells top q (zero_at q) (number zero_lexeme ∷ []) = λ q. a_number_up top q zero_lexeme in
      Reads-expect ws _ _ b b b i Question _ (conditional p a (zero_at (i + 1)) (zero_at (i + 1 + 1 + 1))) (number zero_lexeme ∷ key Colon ∷ number zero_lexeme ∷ []) refl
      (conditional_from p i (i + 1 + 1) a (zero_at (i + 1)) (zero_at (i + 1 + 1 + 1)) u (number zero_lexeme ∷ []) (number zero_lexeme ∷ []) s e (zero_up (i + 1)) (omega arith) (zero_up (i + 1 + 1 + 1))) (omega (arith, tall, lt))
      (Reads-bind ws (Spells top (i + 1)) _ (Low g.0) _ b b b (i + 1) _ _ (lower g.0 g.1 top (i + 1))
      (λ c v t. (
        conditional p a c (zero_at (i + 1 + length v + 1)),
        key Colon ∷ number zero_lexeme ∷ [],
        conditional_from p i (i + 1 + length v) a c (zero_at (i + 1 + length v + 1)) u v (number zero_lexeme ∷ []) s e t refl (zero_up (i + 1 + length v + 1)),
        λ fits. omega (arith, tall, lt, fits, g.1),
      ))
      (λ x v st t low.
      let long = Stands-length ws (i + 1) x.1 v st in
      Reads-expect ws _ _ b b b x.1 Colon _ (conditional p a x.0 (zero_at (x.1 + 1))) (number zero_lexeme ∷ []) refl
      (conditional_from p i x.1 a x.0 (zero_at (x.1 + 1)) u v (number zero_lexeme ∷ []) s e t long (zero_up (x.1 + 1))) (omega (arith, tall, lt, low, g.1))
      (Reads-bind ws (Spells top (x.1 + 1)) _ (Low g.0) _ b b b (x.1 + 1) _ _ (lower g.0 g.1 top (x.1 + 1))
      (λ d w r. (conditional p a x.0 d, [], rw (append-nil w) (conditional_from p i x.1 a x.0 d u v w s e t long r), λ fits. omega (arith, lt, low, fits, g.1)))
      (λ y w st' r low'. Reads-ok ws _ _ b y.1 _ (rw (append-nil w) (conditional_from p i x.1 a x.0 y.0 u v w s e t long r)) (omega (arith, lt, low, low', g.1))))))

  Reads-conditional : (p i : ℕ) (a : Expr) (u : List Lexeme) → Spells 10 p a u → i ≡ p + length u → expr_height a ≤ h → Reads ws (λ t v. Spells top p t (u ++ v)) (Low h) b b i (conditional_at ws n below h p a i)
  unfolding conditional_at
  Reads-conditional p i a u s e low =
      Reads-cond ws _ _ b b i (at_key Question (slice_get ws i)) _ _
      (λ is. Reads-room ws _ _ b b i (expr_height a + 1) h _ (key Question) (conditional p a (num (i + 1) zero_lexeme) (num (i + 1 + 1 + 1) zero_lexeme)) (number zero_lexeme ∷ key Colon ∷ number zero_lexeme ∷ []) (at_key-is Question (slice_get ws i) is)
      (conditional_from p i (i + 1 + 1) a (num (i + 1) zero_lexeme) (num (i + 1 + 1 + 1) zero_lexeme) u (number zero_lexeme ∷ []) (number zero_lexeme ∷ []) s e (a_number_up top (i + 1) zero_lexeme) (omega arith) (a_number_up top (i + 1 + 1 + 1) zero_lexeme))
      (λ le. Reads-branches p i a u s e (omega (arith, le))))
      (λ _. Reads-ok ws _ _ b i a (rw (append-nil u) (tighter s)) low)

  -- behind the left side a, of level l
  pub Reads-behind : (l p i : ℕ) (a : Expr) (u : List Lexeme) → Spells l p a u → i ≡ p + length u → expr_height a ≤ h → Reads ws (λ t v. Spells (suc l) p t (u ++ v)) (Low h) b b i (behind_at ws n below h l p n a i)
  Reads-behind l p i a u s e low =
      Reads-cond ws _ _ b b i (l == 10) _ _
      (λ is.
      let z = eqb-true l 10 is in
      subst (λ m. Reads ws (λ t v. Spells (suc m) p t (u ++ v)) (Low h) b b i (conditional_at ws n below h p a i)) (ten z) (Reads-conditional p i a u (subst (λ m. Spells m p a u) z s) e low))
      (λ _. Reads-chain l p i a u (tighter s) e low)
    where
      ten : {l : ℕ} → l ≡ 10 → 10 ≡ l
      ten z = omega (arith, z)
