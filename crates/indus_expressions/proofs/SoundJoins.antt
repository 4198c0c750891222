-- What is joined behind an operand: what is read is spelled so.
use Rattle.std.proofs.Common.{◌≡◌, ℕ, zero, suc, ◌+◌, ◌-◌, ◌≤◌, ◌<◌, List, [], ◌∷◌, ◌++◌, length, Option, Some, None, refl, sym, ap, subst, arith, append_assoc, length-append}
use Rattle.std.proofs.lemmas.List.{append-nil}
use Rattle.lex_words.specs.declared.key.Key.{Key}
use Rattle.lex_words.specs.declared.key.Key.TheVariants.{In}
use Rattle.lex_words.specs.Seen.{Lexeme, name, number, key}
use Rattle.lex_words.proofs.Joins as joins
use Rattle.lex_words.proofs.Joins.{level_join, Finish}
use Rattle.lex_words.proofs.Standing.{Stands-length}
use Rattle.lex_words.proofs.Spelled.{Reads, Reads-bind, Reads-map, Reads-ok, Reads-named}
use Rattle.indus_tree.specs.Tree.{Expr, num, member, binary, none, more}
use Rattle.indus_tree.specs.Height.{expr_height}
use Rattle.indus_tree.specs.declared.tree.Op.{Op}
use Rattle.indus_spelling.specs.Operators.{join_at}
use Rattle.indus_spelling.specs.declared.operator.Join.{Join}
use Rattle.indus_spelling.specs.declared.operator.Join.TheVariants.{Binary, Member}
use Rattle.indus_spelling.specs.Expressions.{Spells, tighter, joined, a_member}
use Rattle.indus_expressions.specs.Reading.{Reader, right_at, chain, climb}
use Rattle.indus_expressions.proofs.Behind.{join-plain}
use Rattle.indus_expressions.proofs.Turns.{expr_tall}
use Rattle.indus_expressions.proofs.SoundSteps.{zero_lexeme, some_name, a_number_up}
use Rattle.indus_expressions.proofs.SoundLists.{Low, ReadsEach}

-- ---- what a key joins

abbrev level_in : Option (ℕ × Join) → ℕ
level_in None = 0
level_in (Some x) = x.0

abbrev kind_in : Option (ℕ × Join) → Option Join
kind_in None = None
kind_in (Some x) = Some x.1

-- `in` alone joins a name, on level 7
member_key : (k : Key) (m : ℕ) → join_at k ≡ level_join m Member → (k ≡ In) × (m ≡ 7)
member_key In m e = (refl, sym (ap level_in e))
member_key k m e = absurd (let x : kind_in (join_at k) ≡ Some Member = ap kind_in e in cc)

-- ---- what is spelled with it

joined_at : (l p q : ℕ) (a c : Expr) (k : Key) (op : Op) (u v : List Lexeme) → join_at k ≡ level_join (suc l) (Binary op) → Spells (suc l) p a u → q ≡ p + length u → Spells l (q + 1) c v
    → Spells (suc l) p (binary p op a c) (u ++ key k ∷ v)
joined_at l p q a c k op u v o s e t = joined k op o s (subst (λ x. Spells l (x + 1) c v) e t)

member_at : (l p : ℕ) (a : Expr) (k : Key) (s : List ℕ) (u : List Lexeme) → join_at k ≡ level_join l Member → Spells l p a u → Spells l p (member p (more a none) s) (u ++ key k ∷ name s ∷ [])
member_at l p a k s u o t =
    let m = member_key k l o in
    subst (λ x. Spells x p (member p (more a none) s) (u ++ key k ∷ name s ∷ [])) (sym m.1)
    (subst (λ (x : Key). Spells 7 p (member p (more a none) s) (u ++ key x ∷ name s ∷ [])) (sym m.0) (a_member s (subst (λ x. Spells x p a u) m.1 t)))

-- the shortest right side
finish : (l p q : ℕ) (a : Expr) (k : Key) (x : Join) (u : List Lexeme) → join_at k ≡ level_join (suc l) x → Spells (suc l) p a u → q ≡ p + length u → Finish (Spells (suc l) p) expr_height (expr_height a) u k
finish l p q a k (Binary op) u o s e =
    record { tree = binary p op a (num (q + 1) zero_lexeme); rest = number zero_lexeme ∷ []; spells = joined_at l p q a (num (q + 1) zero_lexeme) k op u (number zero_lexeme ∷ []) o s e (a_number_up l (q + 1) zero_lexeme); tall = omega (arith, expr_tall a) }
finish l p q a k Member u o s e = record { tree = member p (more a none) some_name; rest = name some_name ∷ []; spells = member_at (suc l) p a k some_name u o s; tall = omega (arith, expr_tall a) }

-- ---- the readers

module _ (ws : List Lexeme) (n : ℕ) (below : Reader) (h b : ℕ) (lower : (g : ℕ) → h ≡ suc g → ReadsEach ws below g b) where
  -- behind the key k, which stands behind a
  Reads-right : (l p i : ℕ) (a : Expr) (u : List Lexeme) (k : Key) (x : Join) → join_at k ≡ level_join (suc l) x → Spells (suc l) p a u → i ≡ p + length u → expr_height a < h
      → Reads ws (λ t v. Spells (suc l) p t (u ++ key k ∷ v)) (Low h) b b (i + 1) (right_at ws n below l p a x (i + 1))
  unfolding right_at
  Reads-right l p i a u k (Binary op) o s e lt =
      let g : (g : ℕ) × (h ≡ suc g) = (h - 1, omega arith) in
      Reads-bind ws (Spells l (i + 1)) _ (Low g.0) _ b b b (i + 1) (below l (i + 1)) _ (lower g.0 g.1 l (i + 1))
      (λ c v t. (binary p op a c, [], rw (append-nil v) (joined_at l p i a c k op u v o s e t), λ fits. omega arith))
      (λ c v st t low. Reads-ok ws _ _ b c.1 _ (rw (append-nil v) (joined_at l p i a c.0 k op u v o s e t)) (omega (arith, lt, low, g.1)))
  Reads-right l p i a u k Member o s e lt =
      Reads-named ws n _ _ b b (i + 1) _ (λ y. (member p (more a none) y, [], member_at (suc l) p a k y u o s, omega (arith, lt)))
      (λ y w. Reads-ok ws _ _ b (i + 1 + 1) _ (member_at (suc l) p a k y u o s) (omega (arith, lt)))

  pub Reads-chain : (l p k i : ℕ) (a : Expr) (u : List Lexeme) → Spells (suc l) p a u → i ≡ p + length u → expr_height a ≤ h
      → Reads ws (λ t v. Spells (suc l) p t (u ++ v)) (Low h) b b i (chain ws n below h l p k a i)
  Reads-chain = joins.Reads-chain join_at expr_height Spells join-plain finish (right_at ws n below) ws h b Reads-right

  -- behind an operand a
  pub Reads-climb : (l p i : ℕ) (a : Expr) (u : List Lexeme) → Spells 0 p a u → i ≡ p + length u → expr_height a ≤ h
      → Reads ws (λ t v. Spells l p t (u ++ v)) (Low h) b b i (climb ws n below h p l a i)
  unfolding climb
  Reads-climb zero p i a u s e low = Reads-ok ws _ _ b i a (rw (append-nil u) s) low
  Reads-climb (suc l) p i a u s e low =
      Reads-bind ws (λ t v. Spells l p t (u ++ v)) _ (Low h) _ b b b i _ _ (Reads-climb l p i a u s e low)
      (λ t v z. (t, [], rw (append-nil v) (tighter z), λ fits. omega arith))
      (λ t v st z low'.
      let long : t.1 ≡ p + length (u ++ v) = omega (arith, e, Stands-length ws i t.1 v st, length-append u v) in
      Reads-map ws _ _ _ _ b b t.1 _ (λ r v' c. subst (λ q. Spells (suc l) p r q) (append_assoc u v v') c) (λ r c. c)
      (Reads-chain l p n t.1 t.0 (u ++ v) (tighter z) long low'))
