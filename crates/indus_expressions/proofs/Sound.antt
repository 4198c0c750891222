-- Expressions: what is read is spelled so, and what was read up to a fault begins an expression.
use Rattle.std.proofs.Common.{◌≡◌, ℕ, zero, suc, ◌+◌, ◌-◌, ◌≤◌, true, List, [], ◌∷◌, ◌++◌, length, Some, refl, sym, ap, subst, arith, append_assoc, length-append}
use Rattle.std.proofs.lemmas.List.{append-nil}
use Rattle.std.proofs.lemmas.Bool.{eqb-true}
use Rattle.std.proofs.Math.Nat.{suc_inj}
use Rattle.std.specs.Prelude.{slice_get, ◌==◌}
use Rattle.lex_words.specs.declared.key.Key.TheVariants.{Bit, In, Open, Close, Comma}
use Rattle.lex_words.specs.Seen.{Lexeme, name, number, key, at_key}
use Rattle.lex_words.specs.Reading.{Read, ◌>>=◌, expect_at}
use Rattle.lex_words.proofs.KeyCodes.{at_key-is}
use Rattle.lex_words.proofs.Standing.{Stands-length}
use Rattle.lex_words.proofs.Spelled.{Reads, Reads-bind, Reads-map, Reads-ok, Reads-cond, Reads-expect, Reads-room, Reads-named, Reads-open}
use Rattle.indus_tree.specs.Tree.{Expr, num, member, none, more, exprs_from}
use Rattle.indus_tree.specs.Height.{expr_height, exprs_height}
use Rattle.indus_spelling.specs.Operators.{top}
use Rattle.indus_spelling.specs.Expressions.{Spells, SpellsAll, a_tuple, in_brackets, tighter, last}
use Rattle.indus_expressions.specs.Reading.{Reader, all_of, listed_at, tuple_at, group_at, head_at, left_at, climb, layer, expr_at, inside_of, below_of, under_of}
use Rattle.indus_expressions.proofs.Layers.{expr_at-layer}
use Rattle.indus_expressions.proofs.SoundSteps.{zero_lexeme, some_name, on_level, a_number_up}
use Rattle.indus_expressions.proofs.SoundLists.{Low, LowAll, ReadsEach, AreSeveral, then_at, Reads-several, Reads-list}
use Rattle.indus_expressions.proofs.SoundJoins.{Reads-chain, Reads-climb}
use Rattle.indus_expressions.proofs.SoundOperands.{Reads-operand}

-- ---- several in brackets, and `in`

tuple_of : (p : ℕ) (ts : List Expr) (s : List ℕ) (u : List Lexeme) → AreSeveral ts → SpellsAll (p + 1) (exprs_from ts) u
    → Spells 7 p (member p (exprs_from ts) s) (key Open ∷ (u ++ key Close ∷ key In ∷ name s ∷ []))
tuple_of p [] s u m t = absurd m
tuple_of p (a ∷ []) s u m t = absurd m
tuple_of p (a ∷ c ∷ ts) s u m t = a_tuple s t

-- u: the lexemes of the first; v: those of the others
tuple_behind : (p : ℕ) (ts : List Expr) (s : List ℕ) (u v : List Lexeme) → AreSeveral ts → SpellsAll (p + 1) (exprs_from ts) (u ++ v)
    → Spells 7 p (member p (exprs_from ts) s) (key Open ∷ (u ++ (v ++ key Close ∷ key In ∷ name s ∷ [])))
tuple_behind p ts s u v m t =
    subst (λ w. Spells 7 p (member p (exprs_from ts) s) (key Open ∷ w)) (append_assoc u v (key Close ∷ key In ∷ name s ∷ [])) (tuple_of p ts s (u ++ v) m t)

-- the shortest tuple behind its first expression
pair_of : (p q : ℕ) (a : Expr) (u : List Lexeme) → Spells top (p + 1) a u → q ≡ p + 1 + length u
    → Spells 7 p (member p (exprs_from (a ∷ num (q + 1) zero_lexeme ∷ [])) some_name) (key Open ∷ (u ++ key Comma ∷ number zero_lexeme ∷ key Close ∷ key In ∷ name some_name ∷ []))
pair_of p q a u s e =
    tuple_behind p (a ∷ num (q + 1) zero_lexeme ∷ []) some_name u (key Comma ∷ number zero_lexeme ∷ []) tt
    (then_at (p + 1) q a (more (num (q + 1) zero_lexeme) none) u (number zero_lexeme ∷ []) s e (last (a_number_up top (q + 1) zero_lexeme)))

module _ (ws : List Lexeme) (n : ℕ) (h b : ℕ) where
  -- behind "(" at p, which leaves c, and the first expression a
  Reads-listed : (under : Reader) (g c p i : ℕ) (a : Expr) (u : List Lexeme) → h ≡ suc g → b ≡ suc c → ReadsEach ws under g c
      → Spells top (p + 1) a u → i ≡ p + 1 + length u → expr_height a ≤ g → at_key Comma (slice_get ws i) ≡ true
      → Reads ws (λ t v. Spells 7 p t (key Open ∷ (u ++ v))) (Low h) c b i (listed_at ws n under p a i)
  unfolding listed_at
  Reads-listed under g c p i a u eh eb low_under s e low comma =
      Reads-bind ws (λ ts v. AreSeveral ts × SpellsAll (p + 1) (exprs_from ts) (u ++ v)) _ (LowAll g) _ c c b i _ _ (Reads-several ws n under g c low_under (p + 1) i a u s e low comma)
      (λ ts v al. (member p (exprs_from ts) some_name, key Close ∷ key In ∷ name some_name ∷ [], tuple_behind p ts some_name u v al.0 al.1, λ fits. omega arith))
      (λ x v st al low'.
      let whole : (y : List ℕ) → Spells 7 p (member p (exprs_from x.0) y) (key Open ∷ (u ++ (v ++ key Close ∷ key In ∷ name y ∷ []))) = λ y. tuple_behind p x.0 y u v al.0 al.1 in
      Reads-expect ws _ _ c b b x.1 Close _ (member p (exprs_from x.0) some_name) (key In ∷ name some_name ∷ []) (ap (λ (z : ℕ). Some z) (sym eb)) (whole some_name) (omega arith)
      (Reads-expect ws _ _ b b b (x.1 + 1) In _ (member p (exprs_from x.0) some_name) (name some_name ∷ []) refl (whole some_name) (omega arith)
      (Reads-named ws n _ _ b b (x.1 + 1 + 1) _ (λ y. (member p (exprs_from x.0) y, [], whole y, omega (arith, low', eh))) (λ y w.
      Reads-ok ws _ _ b (x.1 + 1 + 1 + 1) _ (whole y) (omega (arith, low', eh))))))

  Reads-tuple : (under : Reader) (c p i : ℕ) (a : Expr) (u : List Lexeme) → b ≡ suc c → ((g : ℕ) → h ≡ suc g → ReadsEach ws under g c)
      → Spells top (p + 1) a u → i ≡ p + 1 + length u → at_key Comma (slice_get ws i) ≡ true
      → Reads ws (λ t v. Spells 7 p t (key Open ∷ (u ++ v))) (Low h) c b i (tuple_at ws n under h p a i)
  unfolding tuple_at
  Reads-tuple under c p i a u eb lower s e comma =
      Reads-room ws _ _ c b i (expr_height a + 1) h _ (key Comma) (member p (exprs_from (a ∷ num (i + 1) zero_lexeme ∷ [])) some_name) (number zero_lexeme ∷ key Close ∷ key In ∷ name some_name ∷ [])
      (at_key-is Comma (slice_get ws i) comma) (pair_of p i a u s e)
      (λ le.
      let g : (g : ℕ) × (h ≡ suc g) = (h - 1, omega (arith, le)) in
      Reads-listed under g.0 c p i a u g.1 eb (lower g.0 g.1) s e (omega (arith, le, g.1)) comma)

  module _ (inside below under : Reader) (within : (c : ℕ) → b ≡ suc c → ReadsEach ws inside h c) (lower : (g : ℕ) → h ≡ suc g → ReadsEach ws below g b)
      (both : (c : ℕ) → b ≡ suc c → (g : ℕ) → h ≡ suc g → ReadsEach ws under g c) where
    -- one expression in brackets and what is joined behind it
    Reads-closed : (c p i : ℕ) (a : Expr) (u : List Lexeme) → b ≡ suc c → Spells top (p + 1) a u → i ≡ p + 1 + length u → expr_height a ≤ h
        → Reads ws (λ t v. Spells 7 p t (key Open ∷ (u ++ v))) (Low h) c b i (expect_at ws Close i >>= λ r. climb ws n below h p 6 a r.1)
    Reads-closed c p i a u eb s e low =
        let one : Spells 0 p a (key Open ∷ (u ++ key Close ∷ [])) = in_brackets s in
        let long : i + 1 ≡ p + length (key Open ∷ (u ++ key Close ∷ [])) = omega (arith, e, length-append u (key Close ∷ [])) in
        Reads-expect ws _ _ c b b i Close _ a [] (ap (λ (z : ℕ). Some z) (sym eb)) (on_level 7 p a (key Open ∷ (u ++ key Close ∷ [])) one) (omega arith)
        (Reads-map ws (λ t v. Spells 6 p t ((key Open ∷ (u ++ key Close ∷ [])) ++ v)) _ (Low h) (Low h) b b (i + 1) _
        (λ t v z. tighter (subst (λ w. Spells 6 p t (key Open ∷ w)) (append_assoc u (key Close ∷ []) v) z)) (λ t x. x)
        (Reads-climb ws n below h b lower 6 p (i + 1) a (key Open ∷ (u ++ key Close ∷ [])) one long low))

    Reads-group : (i : ℕ) → slice_get ws i ≡ Some (key Open) → Reads ws (Spells 7 i) (Low h) b b i (group_at ws n inside below under h b i)
    unfolding group_at
    Reads-group i w =
        let short : Spells 7 i (num (i + 1) zero_lexeme) (key Open ∷ number zero_lexeme ∷ key Close ∷ []) = on_level 7 i (num (i + 1) zero_lexeme) (key Open ∷ number zero_lexeme ∷ key Close ∷ []) (in_brackets (a_number_up top (i + 1) zero_lexeme)) in
        Reads-room ws _ _ b b i 1 h _ (key Open) (num (i + 1) zero_lexeme) (number zero_lexeme ∷ key Close ∷ []) w short (λ le.
        Reads-open ws n _ _ b b i _ (num (i + 1) zero_lexeme) (number zero_lexeme ∷ key Close ∷ []) short (omega arith) (λ c eb.
        Reads-bind ws (Spells top (i + 1)) _ (Low h) _ c c b (i + 1) _ _ (within c eb top (i + 1))
        (λ a v t. (a, key Close ∷ [], on_level 7 i a (key Open ∷ (v ++ key Close ∷ [])) (in_brackets t), λ fits. omega arith))
        (λ x v st t low.
        let long = Stands-length ws (i + 1) x.1 v st in
        Reads-cond ws _ _ c b x.1 (at_key Comma (slice_get ws x.1)) _ _
        (λ comma. Reads-tuple under c i x.1 x.0 v eb (both c eb) t long comma)
        (λ _. Reads-closed c i x.1 x.0 v eb t long low))))

    -- the left side on level l + 1
    Reads-left : (l i : ℕ) (other : Read Expr) → Reads ws (Spells l i) (Low h) b b i other → Reads ws (Spells (suc l) i) (Low h) b b i (left_at ws n inside below under h b l other i)
    unfolding head_at
    Reads-left l i other r =
        let up : Reads ws (Spells (suc l) i) (Low h) b b i other = Reads-map ws _ _ (Low h) (Low h) b b i other (λ a v t. tighter t) (λ a x. x) r in
        Reads-cond ws _ _ b b i (l == 6) _ _
        (λ six. Reads-cond ws _ _ b b i (at_key Open (slice_get ws i)) _ _
        (λ bracket. Reads-cond ws _ _ b b i (at_key Bit (slice_get ws (i + 1))) _ _
        (λ _. up)
        (λ _. subst (λ x. Reads ws (Spells (suc x) i) (Low h) b b i (group_at ws n inside below under h b i)) (sym (eqb-true l 6 six)) (Reads-group i (at_key-is Open (slice_get ws i) bracket))))
        (λ _. up))
        (λ _. up)

    Reads-layer : ReadsEach ws (layer ws n inside below under h b) h b
    unfolding layer
    Reads-layer zero i = Reads-operand ws n inside below h b lower within i
    Reads-layer (suc l) i =
        Reads-bind ws (Spells (suc l) i) _ (Low h) _ b b b i _ _ (Reads-left l i _ (Reads-layer l i))
        (λ a v t. (a, [], rw (append-nil v) t, λ fits. omega arith))
        (λ x v st t low. Reads-chain ws n below h b lower l i n x.1 x.0 v t (Stands-length ws i x.1 v st) low)

module _ (ws : List Lexeme) (n : ℕ) where
  Reads-step : (h b : ℕ) → ((c : ℕ) → b ≡ suc c → ReadsEach ws (inside_of ws n h b) h c) → ((g : ℕ) → h ≡ suc g → ReadsEach ws (below_of ws n h b) g b)
      → ((c : ℕ) → b ≡ suc c → (g : ℕ) → h ≡ suc g → ReadsEach ws (under_of ws n h b) g c) → ReadsEach ws (expr_at ws n h b) h b
  Reads-step h b within lower both = rw (expr_at-layer ws n h b) (Reads-layer ws n h b (inside_of ws n h b) (below_of ws n h b) (under_of ws n h b) within lower both)

  -- with each number of brackets
  Reads-brackets : (h : ℕ) → ((b g : ℕ) → h ≡ suc g → ReadsEach ws (below_of ws n h b) g b) → (b : ℕ) → ReadsEach ws (expr_at ws n h b) h b
  unfolding inside_of under_of
  Reads-brackets h lower zero = Reads-step h zero (λ c e. absurd (omega (arith, e))) (lower zero) (λ c e. absurd (omega (arith, e)))
  Reads-brackets h lower (suc b) =
      let here = Reads-brackets h lower b in
      Reads-step h (suc b) (λ c e. subst (λ d. ReadsEach ws (expr_at ws n h b) h d) (suc_inj e) here) (lower (suc b))
      (λ c e g f. subst (λ d. ReadsEach ws (below_of ws n h b) g d) (suc_inj e) (lower b g f))

  Reads-each : (h b : ℕ) → ReadsEach ws (expr_at ws n h b) h b
  unfolding below_of
  Reads-each zero b = Reads-brackets zero (λ b g e. absurd (omega (arith, e))) b
  Reads-each (suc h) b = Reads-brackets (suc h) (λ b g e. subst (λ d. ReadsEach ws (expr_at ws n h b) d b) (suc_inj e) (Reads-each h b)) b

  pub Reads-expr : (h b l p : ℕ) → Reads ws (Spells l p) (λ t. expr_height t ≤ h) b b p (expr_at ws n h b l p)
  Reads-expr h b l p = Reads-each h b l p

  pub Reads-all : (h b p : ℕ) → Reads ws (λ ts v. SpellsAll p (exprs_from ts) v) (λ ts. exprs_height (exprs_from ts) ≤ h) b b p (all_of ws n (expr_at ws n h b) p)
  Reads-all h b p = Reads-list ws n (expr_at ws n h b) h b (Reads-each h b) p
