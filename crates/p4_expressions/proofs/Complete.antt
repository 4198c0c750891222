-- What is spelled so is read, by recursion on how it is spelled. What stands behind it must not be joined to it.
use Rattle.std.proofs.Common.{◌≡◌, ℕ, zero, suc, ◌+◌, ◌-◌, ◌≤◌, ◌<◌, Bool, true, false, cond, List, [], ◌∷◌, ◌++◌, length, Option, Some, None, Ok, refl, sym, ap, subst, ◌∙◌, arith}
use Rattle.std.proofs.lemmas.List.{length-append}
use Rattle.std.proofs.lemmas.Bool.{eq-eqb, eqb-true}
use Rattle.std.specs.Prelude.{slice_get, ◌==◌}
use Rattle.lex_text.specs.declared.literal.Literal.{Literal}
use Rattle.lex_words.specs.declared.key.Key.{Key}
use Rattle.lex_words.specs.declared.key.Key.TheVariants.{Question, Colon, Dot, Close, SquareOpen, Times}
use Rattle.lex_words.specs.Seen.{Lexeme, name, key, key_in, at_key}
use Rattle.lex_words.specs.Brackets.{left, left_by}
use Rattle.lex_words.specs.Reading.{Read, ◌>>=◌}
use Rattle.lex_words.proofs.Standing.{Stands, Stands-append, Stands-split}
use Rattle.lex_words.proofs.Spelled.{left-split, plain_step}
use Rattle.p4_tree.specs.Tree.{Expr, num, flag, path, valid, applied, error_name, negation, inversion, opposite, binary, conditional, slice, cast}
use Rattle.p4_tree.specs.Height.{expr_height}
use Rattle.p4_tree.specs.declared.statement.Op.{Op}
use Rattle.p4_spelling.specs.Words.{valid_name}
use Rattle.p4_spelling.specs.Operators.{top, op_at}
use Rattle.p4_spelling.specs.Expressions.{SpellsPostfix, a_number, a_true, a_false, an_error, a_path, a_validity, an_application, in_brackets, a_slice, Spells, a_postfix, a_not, an_inversion, an_opposite, a_cast, tighter, joined, a_conditional}
use Rattle.p4_expressions.specs.Reading.{Reader, op_in, is_scalar, slices_at, right_at, chain, behind_at, conditional_at, expr_at, inside_of, below_of}
use Rattle.p4_expressions.proofs.Layers.{below_is, expr_zero, expr_suc, inside_suc}
use Rattle.p4_expressions.proofs.Turns.{chain_ends, chain_goes_on, slices_end, slices_go_on, expr_tall}
use Rattle.p4_expressions.proofs.Behind.{Ends, Free, ends_free, free_below, key_ends, ends_at, free_at, op-low, op-calm, op_free, op-plain, Closes}
use Rattle.p4_expressions.proofs.Tails.{operand_path, last_path, Quiet, quiet_key}
use Rattle.p4_expressions.proofs.Balanced.{scalar_left, path_left, valid_end, slice_end, balanced, balanced_postfix}
use Rattle.p4_expressions.proofs.CompleteSteps.{goes_on, path_first, path_read, validity_read, application_read, number_leaf, true_leaf, false_leaf, error_leaf, path_leaf, bounds_read, Operand, leaf_read, negation_read, inversion_read, opposite_read, cast_read, brackets_read, conditional_ends, conditional_read}

-- ---- what lexemes begin with

mutual
  no_type_postfix : {p : ℕ} {t : Expr} {u : List Lexeme} → SpellsPostfix p t u → (ws : List Lexeme) (i q : ℕ) → Stands ws i u q → is_scalar (slice_get ws i) ≡ false
  no_type_postfix (a_number n) ws i q st = rw st.0 refl
  no_type_postfix a_true ws i q st = rw st.0 refl
  no_type_postfix a_false ws i q st = rw st.0 refl
  no_type_postfix (an_error x) ws i q st = rw st.0 refl
  no_type_postfix (a_path s) ws i q st = let f = path_first ws 0 s i q st in rw f.1 refl
  no_type_postfix (a_validity {u = u} s) ws i q st = let f = path_first ws 0 s i (i + length u) (Stands-split ws i q u valid_end st).0 in rw f.1 refl
  no_type_postfix (an_application t hit) ws i q st = rw st.0 refl
  no_type_postfix (in_brackets s) ws i q st = rw st.0 refl
  no_type_postfix (a_slice {u = u} high low h l s) ws i q st = no_type_postfix s ws i (i + length u) (Stands-split ws i q u (slice_end high low) st).0

  -- no expression begins with a type
  no_type : {l p : ℕ} {t : Expr} {u : List Lexeme} → Spells l p t u → (ws : List Lexeme) (i q : ℕ) → Stands ws i u q → is_scalar (slice_get ws i) ≡ false
  no_type (a_postfix s) ws i q st = no_type_postfix s ws i q st
  no_type (a_not s) ws i q st = rw st.0 refl
  no_type (an_inversion s) ws i q st = rw st.0 refl
  no_type (an_opposite s) ws i q st = rw st.0 refl
  no_type (a_cast t s) ws i q st = rw st.0 refl
  no_type (tighter s) ws i q st = no_type s ws i q st
  no_type (joined {u = u} {v = v} k op o s t) ws i q st = no_type s ws i (i + length u) (Stands-split ws i q u (key k ∷ v) st).0
  no_type (a_conditional {u = u} {v = v} {w = w} s t r) ws i q st = no_type s ws i (i + length u) (Stands-split ws i q u (key Question ∷ (v ++ key Colon ∷ w)) st).0

-- nothing joins on the level of `? :`
top_none : (o : Option Key) → op_in 11 o ≡ None
top_none None = refl
top_none (Some Times) = refl
top_none (Some _) = refl

top_ends : (o : Option Lexeme) → Free top o → Ends top o
top_ends o f = record { joins = λ m lt. by m lt (m == 10) refl; question = f.question; square = f.square }
  where
    by : (m : ℕ) → m < 11 → (t : Bool) → (m == 10) ≡ t → op_in (m + 1) (key_in o) ≡ None
    by m lt true e = let z : m ≡ 10 = eqb-true m 10 e in ap (λ x. op_in (x + 1) (key_in o)) z ∙ top_none (key_in o)
    by m lt false e = f.joins m (omega (arith, lt, unequal m e))
      where
        unequal : (m : ℕ) → (m == 10) ≡ false → m ≡ 10 → ⊥
        unequal m e same = let z = eq-eqb m 10 same in cc

module _ (ws : List Lexeme) (n : ℕ) where
  -- ---- slices

  -- an operand up to q has been read, and for each turn that was made there is a lexeme
  abbrev DonePostfix : (h b p : ℕ) → Expr → List Lexeme → ℕ → Type 0
  DonePostfix h b p t u q = (k : ℕ) × (n ≤ k + length u) × (expr_at ws n h b 0 p ≡ slices_at ws n h p k t q)

  leaf_done : (h b p m q : ℕ) (t : Expr) → Operand ws n h b p (inside_of ws n h b) (below_of ws n h b) ≡ slices_at ws n h p n t m → m ≡ q → expr_at ws n h b 0 p ≡ slices_at ws n h p n t q
  leaf_done h b p m q t e same = expr_zero ws n h b 0 p refl ∙ e ∙ ap (λ x. slices_at ws n h p n t x) same

  -- ---- levels

  -- a reader of level l, when it has read a up to q and may make k more turns
  abbrev rest_at : (h b l p k : ℕ) → Expr → ℕ → Read Expr
  rest_at h b zero p k a q = Ok (a, q)
  rest_at h b (suc l) p k a q = behind_at ws n (below_of ws n h b) h l p k a q

  -- it ends where nothing of its level stands
  rest_ends : (h b l p k : ℕ) (a : Expr) (q : ℕ) → 0 < k → Ends l (slice_get ws q) → rest_at h b l p k a q ≡ Ok (a, q)
  rest_ends h b zero p k a q lt free = refl
  rest_ends h b (suc l) p k a q lt free = go (l == 10) (eqb-true l 10)
    where
      go : (t : Bool) → (t ≡ true → l ≡ 10) → cond t (conditional_at ws n (below_of ws n h b) h p a q) (chain ws n (below_of ws n h b) h l p k a q) ≡ Ok (a, q)
      go true is = conditional_ends ws n (below_of ws n h b) h p a q (free.question (let z = is refl in omega (arith, z)))
      go false is = chain_ends ws n h b l p k q a lt (free.joins l (omega arith))

  -- it has read t, and for each turn that it made there is a lexeme
  abbrev Done : (h b l p : ℕ) → Expr → List Lexeme → ℕ → Type 0
  Done h b l p t u q = (k : ℕ) × (n ≤ k + length u) × (expr_at ws n h b l p ≡ rest_at h b l p k t q)

  is_read : (h b l p : ℕ) (t : Expr) (u : List Lexeme) (q : ℕ) → length u < n → Ends l (slice_get ws q) → Done h b l p t u q → expr_at ws n h b l p ≡ Ok (t, q)
  is_read h b l p t u q lt free d = d.2 ∙ rest_ends h b l p d.0 t q (omega (arith, d.1)) free

  postfix_is_read : (h b p : ℕ) (t : Expr) (u : List Lexeme) (q : ℕ) → length u < n → at_key SquareOpen (slice_get ws q) ≡ false → DonePostfix h b p t u q → expr_at ws n h b 0 p ≡ Ok (t, q)
  postfix_is_read h b p t u q lt square d = d.2 ∙ slices_end ws n h p d.0 q t (omega (arith, d.1)) square

  at_more : (h b l p : ℕ) (x : Expr × ℕ) → expr_at ws n h b l p ≡ Ok x → expr_at ws n h b (suc l) p ≡ rest_at h b (suc l) p n x.0 x.1
  at_more h b l p x e = expr_suc ws n h b l p ∙ ap (λ (r : Read Expr). r >>= λ y. behind_at ws n (below_of ws n h b) h l p n y.0 y.1) e

  -- ---- one turn

  joins : (l : ℕ) (k : Key) (x : Op) (o : Option Lexeme) → o ≡ Some (key k) → op_at k ≡ Some (suc l, x) → op_in (l + 1) (key_in o) ≡ Some x
  joins l k x o w j = let t : (suc l == l + 1) ≡ true = eq-eqb (suc l) (l + 1) (omega arith) in rw (w, j, t) refl

  chain_is : (h b l p k : ℕ) (a : Expr) (q : ℕ) → (l == 10) ≡ false → rest_at h b (suc l) p k a q ≡ chain ws n (below_of ws n h b) h l p k a q
  chain_is h b l p k a q e = rw e refl

  binary_read : (h b l p k m q : ℕ) (a c : Expr) (x : Key) (op : Op) → 0 < k → slice_get ws m ≡ Some (key x) → op_at x ≡ Some (suc l, op) → expr_height a < h
      → expr_at ws n (h - 1) b l (m + 1) ≡ Ok (c, q) → rest_at h b (suc l) p k a m ≡ rest_at h b (suc l) p (k - 1) (binary p op a c) q
  unfolding right_at
  binary_read h b l p k m q a c x op turns w j low e =
      chain_is h b l p k a m (op-low x l op j)
      ∙ chain_goes_on ws n h b l p k m a op turns (joins l x op (slice_get ws m) w j) low ∙ goes_on _ _ (binary p op a c, q) _ (goes_on _ _ (c, q) _ e refl) refl
      ∙ sym (chain_is h b l p (k - 1) (binary p op a c) q (op-low x l op j))

  slice_read : (h b p k m q : ℕ) (a : Expr) (high low : Literal) → 0 < k → high.value ≤ 255 → low.value ≤ 255 → Stands ws m (slice_end high low) q → expr_height a < h
      → slices_at ws n h p k a m ≡ slices_at ws n h p (k - 1) (slice p a high.value low.value) q
  slice_read h b p k m q a high low turns hi lo st tall =
      slices_go_on ws n h p k m a turns (rw st.0 refl) tall
      ∙ goes_on _ _ (slice p a high.value low.value, m + 1 + 1 + 1 + 1 + 1) _ (bounds_read ws n h b p high low a (m + 1) hi lo st.1.0 st.1.1.0 st.1.1.1.0 st.1.1.1.1.0)
      (ap (λ x. slices_at ws n h p (k - 1) (slice p a high.value low.value) x) st.1.1.1.1.1)

  -- ---- what reads the parts

  below_read : (h b l p : ℕ) (x : Expr × ℕ) → 0 < h → expr_at ws n (h - 1) b l p ≡ Ok x → below_of ws n h b l p ≡ Ok x
  below_read h b l p x lt e = ap (λ (f : Reader). f l p) (below_is ws n h b lt) ∙ e

  inside_read : (h b l p : ℕ) (x : Expr × ℕ) → expr_at ws n h b l p ≡ Ok x → inside_of ws n h (suc b) l p ≡ Ok x
  inside_read h b l p x e = ap (λ (f : Reader). f l p) (inside_suc ws n h b) ∙ e

  -- an operand
  zero_is : (h b p q : ℕ) (t : Expr) → Operand ws n h b p (inside_of ws n h b) (below_of ws n h b) ≡ Ok (t, q) → expr_at ws n h b 0 p ≡ Ok (t, q)
  zero_is h b p q t e = expr_zero ws n h b 0 p refl ∙ e

  close_ends : (o : Option Lexeme) → o ≡ Some (key Close) → Ends top o
  close_ends o w = ends_at top o Close w (key_ends top Close refl refl refl)

  colon_ends : (o : Option Lexeme) → o ≡ Some (key Colon) → Ends top o
  colon_ends o w = ends_at top o Colon w (key_ends top Colon refl refl refl)

  question_ends : (o : Option Lexeme) → o ≡ Some (key Question) → Ends 10 o
  question_ends o w = ends_at 10 o Question w (record { joins = λ m lt. refl; question = λ le. absurd (omega (arith, le)); square = refl })

  -- ---- by recursion on the spelling

  mutual
    complete_postfix : {p : ℕ} {t : Expr} {u : List Lexeme} (s : SpellsPostfix p t u) (h b q : ℕ) → Stands ws p u q → expr_height t ≤ h → left b u ≡ Some b → length u < n
        → Quiet (operand_path s) (slice_get ws q) → DonePostfix h b p t u q
    complete_postfix {p = p} (a_number v) h b q st low lv lt quiet = (n, omega arith, leaf_done h b p (p + 1) q (num p v) (leaf_read ws n h b p _ _ _ _ (p + 1) st.0 refl refl refl refl (number_leaf ws n h b p v st.0 low)) st.1)
    complete_postfix {p = p} a_true h b q st low lv lt quiet = (n, omega arith, leaf_done h b p (p + 1) q (flag p true) (leaf_read ws n h b p _ _ _ _ (p + 1) st.0 refl refl refl refl (true_leaf ws n h b p st.0 low)) st.1)
    complete_postfix {p = p} a_false h b q st low lv lt quiet = (n, omega arith, leaf_done h b p (p + 1) q (flag p false) (leaf_read ws n h b p _ _ _ _ (p + 1) st.0 refl refl refl refl (false_leaf ws n h b p st.0 low)) st.1)
    complete_postfix {p = p} (an_error x) h b q st low lv lt quiet =
        (n, omega arith, leaf_done h b p (p + 1 + 1 + 1) q (error_name p x) (leaf_read ws n h b p _ _ _ _ (p + 1 + 1 + 1) st.0 refl refl refl refl (error_leaf ws n h b p x st.0 st.1.0 st.1.1.0 low)) st.1.1.1)
    complete_postfix {p = p} (a_path {xs = xs} s) h b q st low lv lt quiet =
        let f = path_first ws n s p q st in
        (n, omega arith, leaf_done h b p q q (path p xs) (leaf_read ws n h b p _ _ (name f.0) _ q f.1 refl refl refl refl (path_leaf ws n h b p f.0 f.1 low ∙ path_read ws n b p s q st quiet.0 quiet.1 (omega (arith, lt)))) refl)
    complete_postfix {p = p} (a_validity {xs = xs} {u = u} s) h zero q st low lv lt quiet =
        let ls = left-split 0 0 u valid_end lv in
        let e = path_left s 0 in
        let z : ls.0 ≡ 0 = (let y = ls.1 in cc) in
        absurd (let x : None ≡ Some 0 = subst (λ c. left c valid_end ≡ Some 0) z ls.2 in cc)
    complete_postfix {p = p} (a_validity {xs = xs} {u = u} s) h (suc b) q st low lv lt quiet =
        let sp = Stands-split ws p q u valid_end st in
        let m = p + length u in
        let f = path_first ws n s p m sp.0 in
        let len = length-append u valid_end in
        let len' = length-append u (key Dot ∷ name valid_name ∷ []) in
        let front : Stands ws p (u ++ key Dot ∷ name valid_name ∷ []) (m + 1 + 1) = Stands-append ws p m (m + 1 + 1) u (key Dot ∷ name valid_name ∷ []) sp.0 (sp.1.0, (sp.1.1.0, refl)) in (
          n,
          omega arith,
          leaf_done h (suc b) p (m + 1 + 1 + 1 + 1) q (valid p xs)
              (leaf_read ws n h (suc b) p _ _ (name f.0) _ (m + 1 + 1 + 1 + 1) f.1 refl refl refl refl
              (path_leaf ws n h (suc b) p f.0 f.1 low ∙ validity_read ws n (suc b) p s (m + 1 + 1) front sp.1.1.1.0 sp.1.1.1.1.0 (omega arith) (omega (arith, lt, len, len'))))
              sp.1.1.1.1.1,
        )
    complete_postfix {p = p} (an_application t hit) h zero q st low lv lt quiet = absurd (let x : None ≡ Some 0 = lv in cc)
    complete_postfix {p = p} (an_application t hit) h (suc b) q st low lv lt quiet = (
      n,
      omega arith,
      leaf_done h (suc b) p (p + 1 + 1 + 1 + 1 + 1 + 1 + 1) q (applied p t hit)
          (leaf_read ws n h (suc b) p _ _ _ _ (p + 1 + 1 + 1 + 1 + 1 + 1 + 1) st.0 refl refl refl refl
          (path_leaf ws n h (suc b) p t st.0 low
          ∙ application_read ws n (suc b) p t hit st.0 st.1.0 st.1.1.0 st.1.1.1.0 st.1.1.1.1.0 st.1.1.1.1.1.0 st.1.1.1.1.1.1.0 (omega arith) (omega (arith, lt))))
          st.1.1.1.1.1.1.1,
    )
    complete_postfix (in_brackets s) h zero q st low lv lt quiet = absurd (let x : None ≡ Some 0 = lv in cc)
    complete_postfix {p = p} (in_brackets {a = a} {u = u} s) h (suc b) q st low lv lt quiet =
        let m = p + 1 + length u in
        let sp = Stands-split ws (p + 1) q u (key Close ∷ []) st.1 in
        let close = sp.1.0 in
        let ls = left-split b (suc b) u (key Close ∷ []) lv in
        let same = balanced s b ls.0 ls.1 in
        let lu : left b u ≡ Some b = let x = ls.1 in cc in
        let len = length-append u (key Close ∷ []) in
        let ends = close_ends (slice_get ws m) close in
        let d = complete s h b m sp.0 low lu (omega (arith, lt, len)) (ends_free top _ ends) (quiet_key (last_path s) _ Close close refl refl) in
        let e = inside_read h b top (p + 1) (a, m) (is_read h b top (p + 1) a u m (omega (arith, lt, len)) ends d) in
        (n, omega arith, leaf_done h (suc b) p (m + 1) q a (brackets_read ws n h (suc b) p _ _ a m st.0 (no_type s ws (p + 1) m sp.0) e close (omega (arith, low, expr_tall a)) (omega arith)) sp.1.1)
    complete_postfix {p = p} (a_slice {a = a} {u = u} high low hi lo s) h b q st tall lv lt quiet =
        let m = p + length u in
        let sp = Stands-split ws p q u (slice_end high low) st in
        let at = sp.1.0 in
        let ls = left-split b b u (slice_end high low) lv in
        let same = balanced_postfix s b ls.0 ls.1 in
        let lu : left b u ≡ Some b = let x = ls.1 in cc in
        let len = length-append u (slice_end high low) in
        let d = complete_postfix s h b m sp.0 (omega (arith, tall)) lu (omega (arith, lt, len)) (quiet_key (operand_path s) _ SquareOpen at refl refl) in
        let turns : 0 < d.0 = omega (arith, d.1, lt, len) in
        (d.0 - 1, omega (arith, d.1, turns, len), d.2 ∙ slice_read h b p d.0 m q a high low turns hi lo sp.1 (omega (arith, tall)))

    complete : {l p : ℕ} {t : Expr} {u : List Lexeme} (s : Spells l p t u) (h b q : ℕ) → Stands ws p u q → expr_height t ≤ h → left b u ≡ Some b → length u < n → Free l (slice_get ws q) → Quiet (last_path s) (slice_get ws q) → Done h b l p t u q
    complete {p = p} (a_postfix {a = a} {u = u} s) h b q st low lv lt free quiet =
        let d = complete_postfix s h b q st low lv lt quiet in
        (n, omega arith, postfix_is_read h b p a u q lt free.square d)
    complete {p = p} (a_not {a = a} {u = u} s) h b q st low lv lt free quiet =
        let d = complete s (h - 1) b q st.1 (omega (arith, low)) lv (omega (arith, lt)) free quiet in
        let e = below_read h b 0 (p + 1) (a, q) (omega (arith, low)) d.2 in
        (n, omega arith, zero_is h b p q (negation p a) (negation_read ws n h b p _ _ a q st.0 e (omega (arith, low, expr_tall a))))
    complete {p = p} (an_inversion {a = a} {u = u} s) h b q st low lv lt free quiet =
        let d = complete s (h - 1) b q st.1 (omega (arith, low)) lv (omega (arith, lt)) free quiet in
        let e = below_read h b 0 (p + 1) (a, q) (omega (arith, low)) d.2 in
        (n, omega arith, zero_is h b p q (inversion p a) (inversion_read ws n h b p _ _ a q st.0 e (omega (arith, low, expr_tall a))))
    complete {p = p} (an_opposite {a = a} {u = u} s) h b q st low lv lt free quiet =
        let d = complete s (h - 1) b q st.1 (omega (arith, low)) lv (omega (arith, lt)) free quiet in
        let e = below_read h b 0 (p + 1) (a, q) (omega (arith, low)) d.2 in
        (n, omega arith, zero_is h b p q (opposite p a) (opposite_read ws n h b p _ _ a q st.0 e (omega (arith, low, expr_tall a))))
    complete (a_cast t s) h zero q st low lv lt free quiet = absurd (let x : None ≡ Some 0 = lv in cc)
    complete {p = p} (a_cast {t = ty} {a = a} {u = u} {v = v} t s) h (suc b) q st low lv lt free quiet =
        let m = p + 1 + length u in
        let sp = Stands-split ws (p + 1) q u (key Close ∷ v) st.1 in
        let close = sp.1.0 in
        let ls = left-split b (suc b) u (key Close ∷ v) lv in
        let e = scalar_left t b in
        let z : ls.0 ≡ b = (let y = ls.1 in cc) in
        let lw : left (suc b) v ≡ Some (suc b) = subst (λ c. left (suc c) v ≡ Some (suc b)) z ls.2 in
        let len = length-append u (key Close ∷ v) in
        let d = complete s (h - 1) (suc b) q sp.1.1 (omega (arith, low)) lw (omega (arith, lt, len)) free quiet in
        let f = below_read h (suc b) 0 (m + 1) (a, q) (omega (arith, low)) d.2 in
        (n, omega arith, zero_is h (suc b) p q (cast p ty a) (cast_read ws n h (suc b) p _ _ ty u a m q t sp.0 st.0 close f (omega (arith, low, expr_tall a)) (omega arith)))
    complete {p = p} (tighter {l = l} {a = a} {u = u} s) h b q st low lv lt free quiet =
        let ends = free_below l (slice_get ws q) free in
        let d = complete s h b q st low lv lt (ends_free l (slice_get ws q) ends) quiet in
        let e = is_read h b l p a u q lt ends d in
        (n, omega arith, at_more h b l p (a, q) e)
    complete {p = p} (joined {l = l} {a = a} {b = c} {u = u} {v = v} k op o s t) h b q st low lv lt free quiet =
        let m = p + length u in
        let sp = Stands-split ws p q u (key k ∷ v) st in
        let at = sp.1.0 in
        let ls = left-split b b u (key k ∷ v) lv in
        let same = balanced s b ls.0 ls.1 in
        let lu : left b u ≡ Some b = let x = ls.1 in cc in
        let lw : left ls.0 v ≡ Some b = plain_step ls.0 b (left_by (key k) ls.0) v (op-plain k _ ls.0 o) ls.2 in
        let z : left b v ≡ Some b = cc in
        let len = length-append u (key k ∷ v) in
        let ends = free_below l (slice_get ws q) free in
        let d = complete s h b m sp.0 (omega (arith, low)) lu (omega (arith, lt, len)) (free_at (suc l) (slice_get ws m) k at (op_free l k op o)) (quiet_key (last_path s) _ k at (op-calm k _ o).dot (op-calm k _ o).round) in
        let f = complete t (h - 1) b q sp.1.1 (omega (arith, low)) z (omega (arith, lt, len)) (ends_free l (slice_get ws q) ends) quiet in
        let e = is_read (h - 1) b l (m + 1) c v q (omega (arith, lt, len)) ends f in
        let turns : 0 < d.0 = omega (arith, d.1, lt, len) in
        (d.0 - 1, omega (arith, d.1, turns, len), d.2 ∙ binary_read h b l p d.0 m q a c k op turns at o (omega (arith, low)) e)
    complete {p = p} (a_conditional {a = a} {b = c} {c = d} {u = u} {v = v} {w = w} s t r) h b q st low lv lt free quiet =
        let m = p + length u in
        let j = m + 1 + length v in
        let sp = Stands-split ws p q u (key Question ∷ (v ++ key Colon ∷ w)) st in
        let sq = Stands-split ws (m + 1) q v (key Colon ∷ w) sp.1.1 in
        let ls = left-split b b u (key Question ∷ (v ++ key Colon ∷ w)) lv in
        let same = balanced s b ls.0 ls.1 in
        let lu : left b u ≡ Some b = let x = ls.1 in cc in
        let lr : left b (v ++ key Colon ∷ w) ≡ Some b = subst (λ x. left x (v ++ key Colon ∷ w) ≡ Some b) same ls.2 in
        let ms = left-split b b v (key Colon ∷ w) lr in
        let same' = balanced t b ms.0 ms.1 in
        let lv' : left b v ≡ Some b = let x = ms.1 in cc in
        let lw : left b w ≡ Some b = subst (λ x. left x w ≡ Some b) same' ms.2 in
        let len = length-append u (key Question ∷ (v ++ key Colon ∷ w)) in
        let len' = length-append v (key Colon ∷ w) in
        let at_test = question_ends (slice_get ws m) sp.1.0 in
        let at_colon = colon_ends (slice_get ws j) sq.1.0 in
        let at_end = top_ends (slice_get ws q) free in
        let x = complete s h b m sp.0 (omega (arith, low)) lu (omega (arith, lt, len)) (ends_free 10 _ at_test) (quiet_key (last_path s) _ Question sp.1.0 refl refl) in
        let e = is_read h b 10 p a u m (omega (arith, lt, len)) at_test x in
        let y = complete t (h - 1) b j sq.0 (omega (arith, low)) lv' (omega (arith, lt, len, len')) (ends_free top _ at_colon) (quiet_key (last_path t) _ Colon sq.1.0 refl refl) in
        let f = below_read h b top (m + 1) (c, j) (omega (arith, low)) (is_read (h - 1) b top (m + 1) c v j (omega (arith, lt, len, len')) at_colon y) in
        let z = complete r (h - 1) b q sq.1.1 (omega (arith, low)) lw (omega (arith, lt, len, len')) free quiet in
        let g = below_read h b top (j + 1) (d, q) (omega (arith, low)) (is_read (h - 1) b top (j + 1) d w q (omega (arith, lt, len, len')) at_end z) in (
          n,
          omega arith,
          at_more h b 10 p (a, m) e ∙ conditional_read ws n (below_of ws n h b) h p a c d m j q sp.1.0 f sq.1.0 g (omega (arith, low)) ∙ sym (conditional_ends ws n (below_of ws n h b) h p (conditional p a c d) q (free.question (omega arith))),
        )

  -- ---- what is spelled is read

  -- where nothing that stands behind it is joined to it, or goes on with its last path
  pub expr_is_read : {l p : ℕ} {t : Expr} {u : List Lexeme} (s : Spells l p t u) (h b q : ℕ) → Stands ws p u q → expr_height t ≤ h → left b u ≡ Some b → length u < n → Ends l (slice_get ws q) → Quiet (last_path s) (slice_get ws q)
      → expr_at ws n h b l p ≡ Ok (t, q)
  expr_is_read {l = l} {p = p} {t = t} {u = u} s h b q st low lv lt ends quiet = is_read h b l p t u q lt ends (complete s h b q st low lv lt (ends_free l (slice_get ws q) ends) quiet)

  -- before a key that goes on with no expression
  pub expr_before : {p : ℕ} {t : Expr} {u : List Lexeme} (x : Key) → Closes x → Spells top p t u → (h b q : ℕ) → Stands ws p u q → slice_get ws q ≡ Some (key x) → expr_height t ≤ h → left b u ≡ Some b → length u < n → expr_at ws n h b top p ≡ Ok (t, q)
  expr_before x closes s h b q st at low lv lt =
      expr_is_read s h b q st low lv lt (ends_at top (slice_get ws q) x at (key_ends top x closes.joins closes.question closes.square)) (quiet_key (last_path s) (slice_get ws q) x at closes.dot closes.round)
