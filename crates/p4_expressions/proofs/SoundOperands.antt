-- Operands: what is read is spelled so.
use Rattle.std.proofs.Common.{◌≡◌, ℕ, suc, ◌+◌, ◌-◌, ◌≤◌, ◌<◌, Bool, true, false, List, [], ◌∷◌, ◌++◌, length, Option, Some, None, is_some, refl, sym, ap, subst, arith, append_assoc, length-append}
use Rattle.std.proofs.lemmas.List.{append-nil}
use Rattle.std.specs.Prelude.{slice_get, ◌||◌}
use Rattle.lex_text.specs.declared.literal.Literal.{Literal}
use Rattle.lex_words.specs.declared.key.Key.{Key}
use Rattle.lex_words.specs.declared.key.Key.TheVariants.{True, False, Bit, Error, Not, Tilde, Minus, Colon, Dot, Open, Close, SquareOpen, SquareClose}
use Rattle.lex_words.specs.declared.key.Key.TheVariants as k
use Rattle.lex_words.specs.Seen.{Lexeme, name, number, key, name_in, number_in, at_key}
use Rattle.lex_words.specs.Brackets.{left_by}
use Rattle.lex_words.specs.Reading.{◌>>=◌, room_at}
use Rattle.lex_words.proofs.Joins as joins
use Rattle.lex_words.proofs.Joins.{level_join, Finish}
use Rattle.lex_words.proofs.KeyCodes.{at_key-is, name_lexeme, number_lexeme}
use Rattle.lex_words.proofs.Standing.{Stands-length}
use Rattle.lex_words.proofs.Spelled.{Reads, Reads-bind, Reads-map, Reads-lexeme, Reads-wrong, Reads-ok, Reads-cond, Reads-expect, Reads-room, Reads-named, Reads-numbered, Reads-open}
use Rattle.p4_tree.specs.Tree.{Expr, num, flag, path, error_name, negation, inversion, opposite, slice, cast}
use Rattle.p4_tree.specs.Height.{expr_height}
use Rattle.p4_tree.specs.declared.statement.PTy.{PTy}
use Rattle.p4_tree.specs.declared.statement.PTy.TheVariants as type
use Rattle.p4_spelling.specs.Operators.{top}
use Rattle.p4_spelling.specs.Types.{SpellsScalar, a_bit, a_bool}
use Rattle.p4_spelling.specs.Expressions.{last_name, SpellsPostfix, a_number, a_true, a_false, an_error, a_path, in_brackets, a_slice, Spells, a_postfix, a_not, an_inversion, an_opposite, a_cast}
use Rattle.p4_expressions.specs.Reading.{Reader, square_at, is_scalar, flag_at, numeral_at, error_at, leaf_at, bounds_at, slices_at, postfix_at, negation_at, inversion_at, opposite_at, cast_at, bracket_at, opened_at, operand_at}
use Rattle.p4_expressions.proofs.Behind.{square-plain}
use Rattle.p4_expressions.proofs.SoundSteps.{zero_lexeme, some_name, Any, a_number_up, Reads-small, Reads-scalar}
use Rattle.p4_expressions.proofs.SoundPaths.{Reads-path}

abbrev pub Low : ℕ → Expr → Type 0
Low h t = expr_height t ≤ h

-- what the reader gives is spelled so, is at most h high, and leaves as many brackets as before it
abbrev pub ReadsEach : (ws : List Lexeme) → Reader → (h b : ℕ) → Type 0
ReadsEach ws f h b = (l p : ℕ) → Reads ws (Spells l p) (Low h) b b p (f l p)

some_is : {A : Type 0} (o : Option A) → is_some o ≡ true → (x : A) × (o ≡ Some x)
some_is None e = absurd cc
some_is (Some x) e = (x, refl)

-- the lexeme with which a type of numbers or of truth values begins, which is a type alone
pub record First (o : Option Lexeme) : Type 0 where
  pub lexeme : Lexeme
  pub here : o ≡ Some lexeme
  pub ty : PTy
  pub spells : SpellsScalar ty (lexeme ∷ [])

pub scalar_lexeme : (o : Option Lexeme) → is_scalar o ≡ true → First o
scalar_lexeme o e = by (at_key Bit o) (at_key k.Bool o) (λ x. at_key-is Bit o x) (λ x. at_key-is k.Bool o x) e
  where
    by : (x y : Bool) → (x ≡ true → o ≡ Some (key Bit)) → (y ≡ true → o ≡ Some (key k.Bool)) → (x || y) ≡ true → First o
    by true y f g e = record { lexeme = key Bit; here = f refl; ty = type.Bit 1; spells = a_bit }
    by false true f g e = record { lexeme = key k.Bool; here = g refl; ty = type.Bool; spells = a_bool }
    by false false f g e = absurd cc

-- ---- slices

-- `[` alone begins a slice
square_key : (k : Key) (m : ℕ) (x : Unit {0}) → square_at k ≡ level_join m x → k ≡ SquareOpen
square_key SquareOpen m x e = refl
square_key k m x e = absurd cc

-- the lexemes of a slice's bounds
abbrev bounds_lexemes : (high low : Literal) → List Lexeme
bounds_lexemes high low = number high ∷ key Colon ∷ number low ∷ key SquareClose ∷ []

module _ (p : ℕ) (a : Expr) (k : Key) (u : List Lexeme) (is : k ≡ SquareOpen) (s : SpellsPostfix p a u) where
  sliced : (high low : Literal) → high.value ≤ 255 → low.value ≤ 255 → SpellsPostfix p (slice p a high.value low.value) (u ++ key k ∷ bounds_lexemes high low)
  sliced high low hi lo = subst (λ (x : Key). SpellsPostfix p (slice p a high.value low.value) (u ++ key x ∷ bounds_lexemes high low)) (sym is) (a_slice high low hi lo s)

abbrev Postfix : (l p : ℕ) → Expr → List Lexeme → Type 0
Postfix l p t u = SpellsPostfix p t u

finish : (l p q : ℕ) (a : Expr) (k : Key) (x : Unit {0}) (u : List Lexeme) → square_at k ≡ level_join (suc l) x → Postfix (suc l) p a u → q ≡ p + length u → Finish (Postfix (suc l) p) expr_height (expr_height a) u k
finish l p q a k x u o s e =
    record { tree = slice p a 0 0; rest = bounds_lexemes zero_lexeme zero_lexeme; spells = sliced p a k u (square_key k (suc l) x o) s zero_lexeme zero_lexeme (omega arith) (omega arith); tall = omega arith }

module _ (ws : List Lexeme) (n : ℕ) (h b : ℕ) where
  -- behind `[`, which stands behind a
  Reads-bounds : (l p i : ℕ) (a : Expr) (u : List Lexeme) (k : Key) (x : Unit {0}) → square_at k ≡ level_join (suc l) x → Postfix (suc l) p a u → i ≡ p + length u → expr_height a < h
      → Reads ws (λ t v. Postfix (suc l) p t (u ++ key k ∷ v)) (Low h) b b (i + 1) (bounds_at ws n p a (i + 1))
  unfolding bounds_at
  Reads-bounds l p i a u k x o s e lt =
      let whole = sliced p a k u (square_key k (suc l) x o) s in
      Reads-small ws n _ _ b b (i + 1) _ (λ y hi. (slice p a y.value 0, key Colon ∷ number zero_lexeme ∷ key SquareClose ∷ [], whole y zero_lexeme hi (omega arith), omega (arith, lt))) (λ y hi w.
      Reads-expect ws _ _ b b b (i + 1 + 1) Colon _ (slice p a y.value 0) (number zero_lexeme ∷ key SquareClose ∷ []) refl (whole y zero_lexeme hi (omega arith)) (omega (arith, lt))
      (Reads-small ws n _ _ b b (i + 1 + 1 + 1) _ (λ z lo. (slice p a y.value z.value, key SquareClose ∷ [], whole y z hi lo, omega (arith, lt))) (λ z lo w'.
      Reads-expect ws _ _ b b b (i + 1 + 1 + 1 + 1) SquareClose _ (slice p a y.value z.value) [] refl (whole y z hi lo) (omega (arith, lt))
      (Reads-ok ws _ _ b (i + 1 + 1 + 1 + 1 + 1) _ (whole y z hi lo) (omega (arith, lt))))))

  pub Reads-slices : (p i : ℕ) (a : Expr) (u : List Lexeme) → SpellsPostfix p a u → i ≡ p + length u → expr_height a ≤ h → Reads ws (λ t v. SpellsPostfix p t (u ++ v)) (Low h) b b i (slices_at ws n h p n a i)
  Reads-slices p i a u s e low = joins.Reads-chain square_at expr_height Postfix square-plain finish (λ l r c x q. bounds_at ws n r c q) ws h b Reads-bounds 0 p n i a u s e low

  -- ---- operands that begin with no bracket

  Reads-flag : (v : Bool) (w : Lexeme) (i : ℕ) → slice_get ws i ≡ Some w → left_by w b ≡ Some b → SpellsPostfix i (flag i v) (w ∷ []) → Reads ws (SpellsPostfix i) (Low h) b b i (flag_at ws n v h i)
  unfolding flag_at
  Reads-flag v w i e l s = Reads-room ws _ _ b b i 1 h _ w (flag i v) [] e s (λ le. Reads-lexeme ws _ _ b b b i w _ e l (flag i v, [], s, le) (Reads-ok ws _ _ b (i + 1) _ s le))

  Reads-numeral : (i : ℕ) → 1 ≤ h → Reads ws (SpellsPostfix i) (Low h) b b i (numeral_at ws n i)
  unfolding numeral_at
  Reads-numeral i le = Reads-numbered ws n _ _ b b i _ (λ v. (num i v, [], a_number v, le)) (λ v w. Reads-ok ws _ _ b (i + 1) _ (a_number v) le)

  Reads-error : (i : ℕ) → 1 ≤ h → Reads ws (SpellsPostfix i) (Low h) b b i (error_at ws n i)
  unfolding error_at
  Reads-error i le =
      Reads-expect ws _ _ b b b i Error _ (error_name i some_name) (key Dot ∷ name some_name ∷ []) refl (an_error some_name) le
      (Reads-expect ws _ _ b b b (i + 1) Dot _ (error_name i some_name) (name some_name ∷ []) refl (an_error some_name) le
      (Reads-named ws n _ _ b b (i + 1 + 1) _ (λ x. (error_name i x, [], an_error x, le)) (λ x w. Reads-ok ws _ _ b (i + 1 + 1 + 1) _ (an_error x) le)))

  Reads-leaf : (i : ℕ) → Reads ws (SpellsPostfix i) (Low h) b b i (leaf_at ws n h b i)
  unfolding leaf_at
  Reads-leaf i =
      Reads-cond ws _ _ b b i (at_key True (slice_get ws i)) _ _ (λ e. Reads-flag true (key True) i (at_key-is True (slice_get ws i) e) refl a_true) (λ _.
      Reads-cond ws _ _ b b i (at_key False (slice_get ws i)) _ _ (λ e. Reads-flag false (key False) i (at_key-is False (slice_get ws i) e) refl a_false) (λ _.
      Reads-cond ws _ _ b b i (at_key Error (slice_get ws i)) _ _
      (λ e. Reads-room ws _ _ b b i 1 h _ (key Error) (error_name i some_name) (key Dot ∷ name some_name ∷ []) (at_key-is Error (slice_get ws i) e) (an_error some_name) (λ le. Reads-error i le)) (λ _.
      Reads-cond ws _ _ b b i (is_some (name_in (slice_get ws i))) _ _
      (λ e. let x = some_is (name_in (slice_get ws i)) e in
      Reads-room ws _ _ b b i 1 h _ (name x.0) (path i (x.0 ∷ [])) [] (name_lexeme x.0 (slice_get ws i) x.1) (a_path (last_name x.0)) (λ le. Reads-path ws n h b i le)) (λ _.
      Reads-cond ws _ _ b b i (is_some (number_in (slice_get ws i))) _ _
      (λ e. let x = some_is (number_in (slice_get ws i)) e in
      Reads-room ws _ _ b b i 1 h _ (number x.0) (num i x.0) [] (number_lexeme x.0 (slice_get ws i) x.1) (a_number x.0) (λ le. Reads-numeral i le)) (λ _.
      Reads-wrong ws _ _ b b i)))))

  Reads-postfix : (i : ℕ) → Reads ws (SpellsPostfix i) (Low h) b b i (postfix_at ws n h b i)
  unfolding postfix_at
  Reads-postfix i =
      Reads-bind ws (SpellsPostfix i) _ (Low h) _ b b b i _ _ (Reads-leaf i)
      (λ a v s. (a, [], rw (append-nil v) s, λ fits. fits))
      (λ x v st s low. Reads-slices i x.1 x.0 v s (Stands-length ws i x.1 v st) low)

  -- ---- operands with parts. below: one node lower; inside: with one bracket less

  module _ (inside below : Reader) (lower : (g : ℕ) → h ≡ suc g → ReadsEach ws below g b) (within : (c : ℕ) → b ≡ suc c → ReadsEach ws inside h c) where
    -- where a node may stand above others
    abbrev Room : Type 0
    Room = (g : ℕ) × (h ≡ suc g) × (1 ≤ g)

    room_is : 2 ≤ h → Room
    room_is le = (h - 1, omega (arith, le), omega (arith, le))

    abbrev zero_at : ℕ → Expr
    zero_at i = num i zero_lexeme

    zero_spelled : (i : ℕ) → Spells 0 i (zero_at i) (number zero_lexeme ∷ [])
    zero_spelled i = a_number_up 0 i zero_lexeme

    Reads-negation : (i : ℕ) → Room → Reads ws (Spells 0 i) (Low h) b b i (negation_at ws n below i)
    unfolding negation_at
    Reads-negation i g =
        Reads-expect ws _ _ b b b i Not _ (negation i (zero_at (i + 1))) (number zero_lexeme ∷ []) refl (a_not (zero_spelled (i + 1))) (omega (arith, g.1, g.2))
        (Reads-bind ws (Spells 0 (i + 1)) _ (Low g.0) _ b b b (i + 1) _ _ (lower g.0 g.1 0 (i + 1))
        (λ a v t. (negation i a, [], rw (append-nil v) (a_not t), λ fits. omega (arith, fits, g.1)))
        (λ x v st t low. Reads-ok ws _ _ b x.1 _ (rw (append-nil v) (a_not t)) (omega (arith, g.1, low))))

    Reads-inversion : (i : ℕ) → Room → Reads ws (Spells 0 i) (Low h) b b i (inversion_at ws n below i)
    unfolding inversion_at
    Reads-inversion i g =
        Reads-expect ws _ _ b b b i Tilde _ (inversion i (zero_at (i + 1))) (number zero_lexeme ∷ []) refl (an_inversion (zero_spelled (i + 1))) (omega (arith, g.1, g.2))
        (Reads-bind ws (Spells 0 (i + 1)) _ (Low g.0) _ b b b (i + 1) _ _ (lower g.0 g.1 0 (i + 1))
        (λ a v t. (inversion i a, [], rw (append-nil v) (an_inversion t), λ fits. omega (arith, fits, g.1)))
        (λ x v st t low. Reads-ok ws _ _ b x.1 _ (rw (append-nil v) (an_inversion t)) (omega (arith, g.1, low))))

    Reads-opposite : (i : ℕ) → Room → Reads ws (Spells 0 i) (Low h) b b i (opposite_at ws n below i)
    unfolding opposite_at
    Reads-opposite i g =
        Reads-expect ws _ _ b b b i Minus _ (opposite i (zero_at (i + 1))) (number zero_lexeme ∷ []) refl (an_opposite (zero_spelled (i + 1))) (omega (arith, g.1, g.2))
        (Reads-bind ws (Spells 0 (i + 1)) _ (Low g.0) _ b b b (i + 1) _ _ (lower g.0 g.1 0 (i + 1))
        (λ a v t. (opposite i a, [], rw (append-nil v) (an_opposite t), λ fits. omega (arith, fits, g.1)))
        (λ x v st t low. Reads-ok ws _ _ b x.1 _ (rw (append-nil v) (an_opposite t)) (omega (arith, g.1, low))))

    -- u: the lexemes of the type; i: where its bracket stands
    cast_from : (p i : ℕ) (t : PTy) (a : Expr) (u v : List Lexeme) → SpellsScalar t u → i ≡ p + 1 + length u → Spells 0 (i + 1) a v → Spells 0 p (cast p t a) (key Open ∷ (u ++ key Close ∷ v))
    cast_from p i t a u v s e r = a_cast s (subst (λ x. Spells 0 (x + 1) a v) e r)

    -- behind "(" at p, which leaves c
    Reads-cast : (p i c : ℕ) → i ≡ p + 1 → b ≡ suc c → Room → Reads ws (λ t v. Spells 0 p t (key Open ∷ v)) (Low h) c b i (cast_at ws n below p i)
    unfolding cast_at
    Reads-cast p i c e d g =
        Reads-bind ws SpellsScalar _ Any _ c c b i _ _ (Reads-scalar ws n c i)
        (λ t u s. (cast p t (zero_at (p + 1 + length u + 1)), key Close ∷ number zero_lexeme ∷ [], a_cast s (zero_spelled (p + 1 + length u + 1)), λ _. omega (arith, g.1, g.2)))
        (λ x u st s _.
        let long : x.1 ≡ p + 1 + length u = omega (arith, Stands-length ws i x.1 u st, e) in
        Reads-expect ws _ _ c b b x.1 Close _ (cast p x.0 (zero_at (x.1 + 1))) (number zero_lexeme ∷ []) (ap (λ (y : ℕ). Some y) (sym d)) (cast_from p x.1 x.0 (zero_at (x.1 + 1)) u (number zero_lexeme ∷ []) s long (zero_spelled (x.1 + 1))) (omega (arith, g.1, g.2))
        (Reads-bind ws (Spells 0 (x.1 + 1)) _ (Low g.0) _ b b b (x.1 + 1) _ _ (lower g.0 g.1 0 (x.1 + 1))
        (λ a v r. (cast p x.0 a, [], rw (append-nil v) (cast_from p x.1 x.0 a u v s long r), λ fits. omega (arith, fits, g.1)))
        (λ y v st' r low. Reads-ok ws _ _ b y.1 _ (rw (append-nil v) (cast_from p x.1 x.0 y.0 u v s long r)) (omega (arith, low, g.1)))))

    Reads-bracket : (p i c : ℕ) → i ≡ p + 1 → b ≡ suc c → Reads ws (λ t v. Spells 0 p t (key Open ∷ v)) (Low h) c b i (bracket_at ws n inside h p i)
    unfolding bracket_at
    Reads-bracket p i c e d =
        let at : (a : Expr) (v : List Lexeme) → Spells top i a v → SpellsPostfix p a (key Open ∷ (v ++ key Close ∷ [])) = λ a v t. in_brackets (subst (λ x. Spells top x a v) e t) in
        Reads-bind ws (Spells top i) _ (Low h) _ c c b i _ _ (within c d top i)
        (λ a v t. (a, key Close ∷ [], a_postfix (at a v t), λ fits. fits))
        (λ x v st t low.
        let long : x.1 + 1 ≡ p + length (key Open ∷ (v ++ key Close ∷ [])) = omega (arith, Stands-length ws i x.1 v st, e, length-append v (key Close ∷ [])) in
        Reads-expect ws _ _ c b b x.1 Close _ x.0 [] (ap (λ (z : ℕ). Some z) (sym d)) (a_postfix (at x.0 v t)) low
        (Reads-map ws (λ y r. SpellsPostfix p y ((key Open ∷ (v ++ key Close ∷ [])) ++ r)) _ (Low h) (Low h) b b (x.1 + 1) _
        (λ y r z. a_postfix (subst (λ q. SpellsPostfix p y (key Open ∷ q)) (append_assoc v (key Close ∷ []) r) z)) (λ y z. z)
        (Reads-slices p (x.1 + 1) x.0 (key Open ∷ (v ++ key Close ∷ [])) (at x.0 v t) long low)))

    -- where a type begins behind "("
    Reads-typed : (p i c : ℕ) → i ≡ p + 1 → b ≡ suc c → is_scalar (slice_get ws i) ≡ true
        → Reads ws (λ a v. Spells 0 p a (key Open ∷ v)) (Low h) c b i (room_at 2 h i >>= λ z. cast_at ws n below p z.1)
    Reads-typed p i c e d is =
        let x = scalar_lexeme (slice_get ws i) is in
        Reads-room ws _ _ c b i 2 h _ x.lexeme (cast p x.ty (zero_at (p + 1 + length (x.lexeme ∷ []) + 1))) (key Close ∷ number zero_lexeme ∷ []) x.here (a_cast x.spells (zero_spelled (p + 1 + length (x.lexeme ∷ []) + 1)))
        (λ two. Reads-cast p i c e d (room_is two))

    Reads-opened : (i : ℕ) → 1 ≤ h → Reads ws (Spells 0 i) (Low h) b b i (opened_at ws n inside below h b i)
    unfolding opened_at
    Reads-opened i le =
        Reads-open ws n _ _ b b i _ (zero_at (i + 1)) (number zero_lexeme ∷ key Close ∷ []) (a_postfix (in_brackets (a_number_up top (i + 1) zero_lexeme))) le (λ c d.
        Reads-cond ws _ _ c b (i + 1) (is_scalar (slice_get ws (i + 1))) _ _
        (λ is. Reads-typed i (i + 1) c refl d is)
        (λ _. Reads-bracket i (i + 1) c refl d))

    pub Reads-operand : (i : ℕ) → Reads ws (Spells 0 i) (Low h) b b i (operand_at ws n inside below h b i)
    unfolding operand_at
    Reads-operand i =
        Reads-cond ws _ _ b b i (at_key Not (slice_get ws i)) _ _
        (λ e. Reads-room ws _ _ b b i 2 h _ (key Not) (negation i (zero_at (i + 1))) (number zero_lexeme ∷ []) (at_key-is Not (slice_get ws i) e) (a_not (zero_spelled (i + 1))) (λ two. Reads-negation i (room_is two))) (λ _.
        Reads-cond ws _ _ b b i (at_key Tilde (slice_get ws i)) _ _
        (λ e. Reads-room ws _ _ b b i 2 h _ (key Tilde) (inversion i (zero_at (i + 1))) (number zero_lexeme ∷ []) (at_key-is Tilde (slice_get ws i) e) (an_inversion (zero_spelled (i + 1))) (λ two. Reads-inversion i (room_is two))) (λ _.
        Reads-cond ws _ _ b b i (at_key Minus (slice_get ws i)) _ _
        (λ e. Reads-room ws _ _ b b i 2 h _ (key Minus) (opposite i (zero_at (i + 1))) (number zero_lexeme ∷ []) (at_key-is Minus (slice_get ws i) e) (an_opposite (zero_spelled (i + 1))) (λ two. Reads-opposite i (room_is two))) (λ _.
        Reads-cond ws _ _ b b i (at_key Open (slice_get ws i)) _ _
        (λ e. Reads-room ws _ _ b b i 1 h _ (key Open) (zero_at (i + 1)) (number zero_lexeme ∷ key Close ∷ []) (at_key-is Open (slice_get ws i) e) (a_postfix (in_brackets (a_number_up top (i + 1) zero_lexeme))) (λ le. Reads-opened i le)) (λ _.
        Reads-map ws _ _ (Low h) (Low h) b b i _ (λ a v s. a_postfix s) (λ a x. x) (Reads-postfix i)))))
