-- What is spelled so is read, by recursion on how it is spelled. What stands behind it must not be joined to it.
use Rattle.std.proofs.Common.{◌≡◌, ℕ, zero, suc, ◌+◌, ◌-◌, ◌≤◌, ◌<◌, Bool, true, false, cond, List, [], ◌∷◌, length, Option, Some, None, Ok, refl, sym, ap, subst, ◌∙◌, arith}
use Rattle.std.proofs.lemmas.List.{length-append}
use Rattle.std.proofs.lemmas.Bool.{eq-eqb, eqb-true}
use Rattle.std.specs.Prelude.{slice_get, ◌==◌}
use Rattle.lex_words.specs.declared.key.Key.{Key}
use Rattle.lex_words.specs.declared.key.Key.TheVariants.{Bit, In, Open, Close, SquareOpen, SquareClose, Comma}
use Rattle.lex_words.specs.Seen.{Lexeme, name, key, key_in, at_key}
use Rattle.lex_words.specs.Brackets.{left, left_by}
use Rattle.lex_words.specs.Reading.{Read, ◌>>=◌}
use Rattle.lex_words.proofs.Standing.{Stands, Stands-split}
use Rattle.lex_words.proofs.Spelled.{left-split, plain_step}
use Rattle.indus_tree.specs.Tree.{Expr, Exprs, num, flag, read, count, index, member, negation, inversion, binary, cast, none, more, exprs_from}
use Rattle.indus_tree.specs.Height.{expr_height, exprs_height}
use Rattle.indus_tree.specs.declared.tree.Op.{Op}
use Rattle.indus_spelling.specs.Operators.{top, join_at}
use Rattle.indus_spelling.specs.Expressions.{Spells, SpellsAll, a_number, a_true, a_false, a_name, an_index, a_length, a_not, an_inversion, a_cast, in_brackets, tighter, joined, a_member, a_tuple, last, then}
use Rattle.indus_spelling.specs.declared.operator.Join.{Join}
use Rattle.indus_spelling.specs.declared.operator.Join.TheVariants.{Binary, Member}
use Rattle.indus_expressions.specs.Reading.{Reader, join_in, right_at, all_of, chain, head_at, expr_at, inside_of, below_of, under_of}
use Rattle.indus_expressions.proofs.Layers.{expr_at-layer, below_is, expr_zero, expr_suc, first_at, inside_suc}
use Rattle.indus_expressions.proofs.Turns.{chain_ends, chain_goes_on, expr_tall}
use Rattle.indus_expressions.proofs.Heads.{Head}
use Rattle.indus_expressions.proofs.Behind.{NoJoin, no_join, other_level, join-no_square, join-plain, list_of, exprs_from-list_of}
use Rattle.indus_expressions.proofs.Balanced.{balanced, balanced_all}
use Rattle.indus_expressions.proofs.CompleteSteps.{Operand, goes_on, With, listed, more_none, more_some, all_listed, named_ok, number_read, true_read, false_read, name_read, index_read, count_read, negation_read, inversion_read, cast_read, brackets_read, several_read, head_same}

-- ---- what lexemes begin with, and how high a tree is at least

mutual
  -- no expression begins with `bit`
  no_bit : {l p : ℕ} {t : Expr} {u : List Lexeme} → Spells l p t u → (ws : List Lexeme) (i q : ℕ) → Stands ws i u q → at_key Bit (slice_get ws i) ≡ false
  no_bit (a_number n) ws i q st = rw st.0 refl
  no_bit a_true ws i q st = rw st.0 refl
  no_bit a_false ws i q st = rw st.0 refl
  no_bit (a_name s) ws i q st = rw st.0 refl
  no_bit (an_index s all) ws i q st = rw st.0 refl
  no_bit (a_length s) ws i q st = rw st.0 refl
  no_bit (a_not s) ws i q st = rw st.0 refl
  no_bit (an_inversion s) ws i q st = rw st.0 refl
  no_bit (a_cast n size s) ws i q st = rw st.0 refl
  no_bit (in_brackets s) ws i q st = rw st.0 refl
  no_bit (tighter s) ws i q st = no_bit s ws i q st
  no_bit (joined {u = u} {v = v} k op o s t) ws i q st = no_bit s ws i (i + length u) (Stands-split ws i q u (key k ∷ v) st).0
  no_bit (a_member s {u = u} t) ws i q st = no_bit t ws i (i + length u) (Stands-split ws i q u (key In ∷ name s ∷ []) st).0
  no_bit (a_tuple s all) ws i q st = rw st.0 refl

  no_bit_all : {p : ℕ} {ts : Exprs} {u : List Lexeme} → SpellsAll p ts u → (ws : List Lexeme) (i q : ℕ) → Stands ws i u q → at_key Bit (slice_get ws i) ≡ false
  no_bit_all (last s) ws i q st = no_bit s ws i q st
  no_bit_all (then {u = u} {v = v} s t) ws i q st = no_bit s ws i (i + length u) (Stands-split ws i q u (key Comma ∷ v) st).0

all_height : {p : ℕ} {ts : Exprs} {u : List Lexeme} → SpellsAll p ts u → 1 ≤ exprs_height ts
all_height (last {a = a} s) = omega (arith, expr_tall a)
all_height (then {a = a} s t) = omega (arith, expr_tall a)

module _ (ws : List Lexeme) (n : ℕ) where
  -- ---- levels

  -- a reader of level l, when it has read a up to q and may make k more turns
  abbrev rest_at : (h b l p k : ℕ) → Expr → ℕ → Read Expr
  rest_at h b zero p k a q = Ok (a, q)
  rest_at h b (suc l) p k a q = chain ws n (below_of ws n h b) h l p k a q

  -- it ends where nothing of its level stands
  rest_ends : (h b l p k : ℕ) (a : Expr) (q : ℕ) → 0 < k → NoJoin l (slice_get ws q) → rest_at h b l p k a q ≡ Ok (a, q)
  rest_ends h b zero p k a q lt free = refl
  rest_ends h b (suc l) p k a q lt free = chain_ends ws n h b l p k q a lt (free l (omega arith))

  -- it has read t, and for each turn that it made there is a lexeme
  abbrev Done : (h b l p : ℕ) → Expr → List Lexeme → ℕ → Type 0
  Done h b l p t u q = (k : ℕ) × (n ≤ k + length u) × (expr_at ws n h b l p ≡ rest_at h b l p k t q)

  is_read : (h b l p : ℕ) (t : Expr) (u : List Lexeme) (q : ℕ) → length u < n → NoJoin l (slice_get ws q) → Done h b l p t u q → expr_at ws n h b l p ≡ Ok (t, q)
  is_read h b l p t u q lt free d = d.2 ∙ rest_ends h b l p d.0 t q (omega (arith, d.1)) free

  seven_is : (h b p : ℕ) (x : Expr × ℕ) → Head ws n (inside_of ws n h b) (below_of ws n h b) (under_of ws n h b) h b p ≡ Ok x
      → head_at ws n (inside_of ws n h b) (below_of ws n h b) (under_of ws n h b) h b (expr_at ws n h b 6 p) p ≡ Ok x
  seven_is h b p x e = ap (λ (f : Reader). head_at ws n (inside_of ws n h b) (below_of ws n h b) (under_of ws n h b) h b (f 6 p) p) (expr_at-layer ws n h b) ∙ e

  -- the left side of level l + 1 is what is read on level l
  first_same : (h b l p : ℕ) (x : Expr × ℕ) → expr_at ws n h b l p ≡ Ok x → first_at ws n h b l p ≡ Ok x
  first_same h b l p x e = go (l == 6) (eqb-true l 6)
    where
      at_six : expr_at ws n h b 6 p ≡ Ok x → head_at ws n (inside_of ws n h b) (below_of ws n h b) (under_of ws n h b) h b (expr_at ws n h b 6 p) p ≡ Ok x
      at_six f = seven_is h b p x (head_same ws n (inside_of ws n h b) (below_of ws n h b) h b p (under_of ws n h b) x (sym (ap (λ (g : Reader). g 6 p) (expr_at-layer ws n h b)) ∙ f))

      go : (t : Bool) → (t ≡ true → l ≡ 6) → cond t (head_at ws n (inside_of ws n h b) (below_of ws n h b) (under_of ws n h b) h b (expr_at ws n h b l p) p) (expr_at ws n h b l p) ≡ Ok x
      go true six =
          subst (λ k. head_at ws n (inside_of ws n h b) (below_of ws n h b) (under_of ws n h b) h b (expr_at ws n h b k p) p ≡ Ok x) (sym (six refl))
          (at_six (subst (λ k. expr_at ws n h b k p ≡ Ok x) (six refl) e))
      go false six = e

  at_more : (h b l p : ℕ) (x : Expr × ℕ) → expr_at ws n h b l p ≡ Ok x → expr_at ws n h b (suc l) p ≡ rest_at h b (suc l) p n x.0 x.1
  at_more h b l p x e = expr_suc ws n h b l p ∙ ap (λ (r : Read Expr). r >>= λ y. chain ws n (below_of ws n h b) h l p n y.0 y.1) (first_same h b l p x e)

  -- ---- one turn

  joins : (l : ℕ) (k : Key) (x : Join) (o : Option Lexeme) → o ≡ Some (key k) → join_at k ≡ Some (suc l, x) → join_in (l + 1) (key_in o) ≡ Some x
  joins l k x o w j = let t : (suc l == l + 1) ≡ true = eq-eqb (suc l) (l + 1) (omega arith) in rw (w, j, t) refl

  binary_read : (h b l p k m q : ℕ) (a c : Expr) (x : Key) (op : Op) → 0 < k → slice_get ws m ≡ Some (key x) → join_at x ≡ Some (suc l, Binary op) → expr_height a < h
      → expr_at ws n (h - 1) b l (m + 1) ≡ Ok (c, q) → rest_at h b (suc l) p k a m ≡ rest_at h b (suc l) p (k - 1) (binary p op a c) q
  unfolding right_at
  binary_read h b l p k m q a c x op turns w j low e = chain_goes_on ws n h b l p k m a (Binary op) turns (joins l x (Binary op) (slice_get ws m) w j) low ∙ goes_on _ _ (binary p op a c, q) _ (goes_on _ _ (c, q) _ e refl) refl

  member_read : (h b p k m : ℕ) (a : Expr) (s : List ℕ) → 0 < k → slice_get ws m ≡ Some (key In) → slice_get ws (m + 1) ≡ Some (name s) → expr_height a < h
      → rest_at h b 7 p k a m ≡ rest_at h b 7 p (k - 1) (member p (more a none) s) (m + 1 + 1)
  unfolding right_at
  member_read h b p k m a s turns w name_there low =
      chain_goes_on ws n h b 6 p k m a Member turns (joins 6 In Member (slice_get ws m) w refl) low ∙ goes_on _ _ (member p (more a none) s, m + 1 + 1) _ (goes_on _ _ (s, m + 1 + 1) _ (named_ok ws n s (m + 1) name_there) refl) refl

  -- ---- what reads the parts

  below_read : (h b l p : ℕ) (x : Expr × ℕ) → 0 < h → expr_at ws n (h - 1) b l p ≡ Ok x → below_of ws n h b l p ≡ Ok x
  below_read h b l p x lt e = ap (λ (f : Reader). f l p) (below_is ws n h b lt) ∙ e

  under_suc : (h b : ℕ) → 0 < h → under_of ws n h (suc b) ≡ expr_at ws n (h - 1) b
  unfolding under_of
  under_suc h b lt = below_is ws n h b lt

  inside_read : (h b l p : ℕ) (x : Expr × ℕ) → expr_at ws n h b l p ≡ Ok x → inside_of ws n h (suc b) l p ≡ Ok x
  inside_read h b l p x e = ap (λ (f : Reader). f l p) (inside_suc ws n h b) ∙ e

  -- an operand
  zero_is : (h b p m q : ℕ) (t : Expr) → Operand ws n (inside_of ws n h b) (below_of ws n h b) h b p ≡ Ok (t, m) → m ≡ q → expr_at ws n h b 0 p ≡ Ok (t, q)
  zero_is h b p m q t e same = expr_zero ws n h b 0 p refl ∙ e ∙ ap (λ x. Ok (t, x)) same

  index_is : (h b p m q : ℕ) (s : List ℕ) (ks : Exprs) → slice_get ws p ≡ Some (name s) → slice_get ws (p + 1) ≡ Some (key SquareOpen)
      → listed ws n (expr_at ws n (h - 1) b) (expr_at ws n (h - 1) b) n (p + 1 + 1) ≡ Ok (list_of ks, m) → slice_get ws m ≡ Some (key SquareClose) → m + 1 ≡ q → 2 ≤ h → expr_at ws n h b 0 p ≡ Ok (index p s ks, q)
  index_is h b p m q s ks w o e close same low =
      let all : all_of ws n (below_of ws n h b) (p + 1 + 1) ≡ Ok (list_of ks, m) = ap (λ (f : Reader). all_of ws n f (p + 1 + 1)) (below_is ws n h b (omega (arith, low))) ∙ all_listed ws n (expr_at ws n (h - 1) b) (p + 1 + 1) ∙ e in
      zero_is h b p (m + 1) q (index p s (exprs_from (list_of ks))) (index_read ws n (inside_of ws n h b) (below_of ws n h b) h b p s (list_of ks) m w o all close low) same
      ∙ ap (λ x. Ok (index p s x, q)) (exprs_from-list_of ks)

  -- several values in brackets, and `in`
  tuple_is : (h b p m q : ℕ) (s : List ℕ) (a c : Expr) (ks : Exprs) → slice_get ws p ≡ Some (key Open) → at_key Bit (slice_get ws (p + 1)) ≡ false
      → listed ws n (expr_at ws n h b) (expr_at ws n (h - 1) b) n (p + 1) ≡ Ok (list_of (more a (more c ks)), m) → slice_get ws m ≡ Some (key Close) → slice_get ws (m + 1) ≡ Some (key In) → slice_get ws (m + 1 + 1) ≡ Some (name s)
      → m + 1 + 1 + 1 ≡ q → expr_height a + 1 ≤ h → 0 < n → expr_at ws n h (suc b) 7 p ≡ rest_at h (suc b) 7 p n (member p (more a (more c ks)) s) q
  tuple_is h b p m q s a c ks w no_bit e close is_in name_there same low turns =
      let f : listed ws n (inside_of ws n h (suc b)) (under_of ws n h (suc b)) n (p + 1) ≡ Ok (list_of (more a (more c ks)), m) =
      ap (λ (r : Reader). listed ws n r (under_of ws n h (suc b)) n (p + 1)) (inside_suc ws n h b) ∙ ap (λ (r : Reader). listed ws n (expr_at ws n h b) r n (p + 1)) (under_suc h b (omega (arith, low))) ∙ e in
      let g = several_read ws n (inside_of ws n h (suc b)) (below_of ws n h (suc b)) h (suc b) p (under_of ws n h (suc b)) s a c (list_of ks) m close is_in name_there low turns w no_bit f (omega arith) in
      expr_suc ws n h (suc b) 6 p ∙ ap (λ (r : Read Expr). r >>= λ y. chain ws n (below_of ws n h (suc b)) h 6 p n y.0 y.1) (seven_is h (suc b) p _ g)
      ∙ ap (λ x. rest_at h (suc b) 7 p n (member p (more a (more c x)) s) (m + 1 + 1 + 1)) (exprs_from-list_of ks) ∙ ap (λ x. rest_at h (suc b) 7 p n (member p (more a (more c ks)) s) x) same

  -- ---- by recursion on the spelling

  -- nothing joins at q on a level below l
  abbrev Free : ℕ → ℕ → Type 0
  Free l q = (m : ℕ) → m + 1 < l → join_in (m + 1) (key_in (slice_get ws q)) ≡ None

  mutual
    complete : {l p : ℕ} {t : Expr} {u : List Lexeme} → Spells l p t u → (h b q : ℕ) → Stands ws p u q → expr_height t ≤ h → left b u ≡ Some b → length u < n → Free l q → at_key SquareOpen (slice_get ws q) ≡ false → Done h b l p t u q
    complete {p = p} (a_number v) h b q st low lv lt free sq = (n, omega arith, zero_is h b p (p + 1) q (num p v) (number_read ws n _ _ h b p v st.0 low) st.1)
    complete {p = p} a_true h b q st low lv lt free sq = (n, omega arith, zero_is h b p (p + 1) q (flag p true) (true_read ws n _ _ h b p st.0 low) st.1)
    complete {p = p} a_false h b q st low lv lt free sq = (n, omega arith, zero_is h b p (p + 1) q (flag p false) (false_read ws n _ _ h b p st.0 low) st.1)
    complete {p = p} (a_name s) h b q st low lv lt free sq = (n, omega arith, zero_is h b p (p + 1) q (read p s) (name_read ws n _ _ h b p s st.0 (rw st.1 sq) low) st.1)
    complete {p = p} (an_index s {ks = ks} {u = u} all) h b q st low lv lt free sq =
        let m = p + 1 + 1 + length u in
        let sp = Stands-split ws (p + 1 + 1) q u (key SquareClose ∷ []) st.1.1 in
        let close = sp.1.0 in
        let ls = left-split b b u (key SquareClose ∷ []) lv in
        let same = balanced_all all b ls.0 ls.1 in
        let lu : left b u ≡ Some b = let x = ls.1 in cc in
        let len = length-append u (key SquareClose ∷ []) in
        let e = complete_all all (h - 1) (h - 1) b m n sp.0 (omega (arith, low)) (omega (arith, low)) lu (omega (arith, lt, len)) (omega (arith, lt, len)) (rw close (no_join top SquareClose refl)) (rw close refl) (rw close refl) in
        (n, omega arith, index_is h b p m q s ks st.0 st.1.0 e close sp.1.1 (omega (arith, low, all_height all)))
    complete {p = p} (a_length s) h zero q st low lv lt free sq = absurd (let x : None ≡ Some 0 = lv in cc)
    complete {p = p} (a_length s) h (suc b) q st low lv lt free sq =
        (n, omega arith, zero_is h (suc b) p (p + 1 + 1 + 1 + 1) q (count p s) (count_read ws n _ _ h (suc b) p s st.0 st.1.0 st.1.1.0 st.1.1.1.0 low (omega arith)) st.1.1.1.1)
    complete {p = p} (a_not {a = a} {u = u} s) h b q st low lv lt free sq =
        let d = complete s (h - 1) b q st.1 (omega (arith, low)) lv (omega (arith, lt)) (λ m less. absurd (omega arith)) sq in
        let e = below_read h b 0 (p + 1) (a, q) (omega (arith, low)) d.2 in
        (n, omega arith, zero_is h b p q q (negation p a) (negation_read ws n _ _ h b p a q st.0 e (omega (arith, low, expr_tall a))) refl)
    complete {p = p} (an_inversion {a = a} {u = u} s) h b q st low lv lt free sq =
        let d = complete s (h - 1) b q st.1 (omega (arith, low)) lv (omega (arith, lt)) (λ m less. absurd (omega arith)) sq in
        let e = below_read h b 0 (p + 1) (a, q) (omega (arith, low)) d.2 in
        (n, omega arith, zero_is h b p q q (inversion p a) (inversion_read ws n _ _ h b p a q st.0 e (omega (arith, low, expr_tall a))) refl)
    complete (a_cast v size s) h zero q st low lv lt free sq = absurd (let x : None ≡ Some 0 = lv in cc)
    complete {p = p} (a_cast v {a = a} {u = u} size s) h (suc b) q st low lv lt free sq =
        let d = complete s (h - 1) (suc b) q st.1.1.1.1.1.1 (omega (arith, low)) lv (omega (arith, lt)) (λ m less. absurd (omega arith)) sq in
        let e = below_read h (suc b) 0 (p + 1 + 1 + 1 + 1 + 1 + 1) (a, q) (omega (arith, low)) d.2 in (
          n,
          omega arith,
          zero_is h (suc b) p q q (cast p v.value a)
              (cast_read ws n _ _ h (suc b) p (under_of ws n h (suc b)) v a q size st.0 st.1.0 st.1.1.0 st.1.1.1.0 st.1.1.1.1.0 st.1.1.1.1.1.0 e (omega (arith, low, expr_tall a)) (omega arith)) refl,
        )
    complete (in_brackets s) h zero q st low lv lt free sq = absurd (let x : None ≡ Some 0 = lv in cc)
    complete {p = p} (in_brackets {a = a} {u = u} s) h (suc b) q st low lv lt free sq =
        let m = p + 1 + length u in
        let sp = Stands-split ws (p + 1) q u (key Close ∷ []) st.1 in
        let close = sp.1.0 in
        let ls = left-split b (suc b) u (key Close ∷ []) lv in
        let same = balanced s b ls.0 ls.1 in
        let lu : left b u ≡ Some b = let x = ls.1 in cc in
        let len = length-append u (key Close ∷ []) in
        let d = complete s h b m sp.0 low lu (omega (arith, lt, len)) (λ m less. rw close refl) (rw close refl) in
        let e = inside_read h b top (p + 1) (a, m) (is_read h b top (p + 1) a u m (omega (arith, lt, len)) (rw close (no_join top Close refl)) d) in
        (n, omega arith, zero_is h (suc b) p (m + 1) q a (brackets_read ws n _ _ h (suc b) p (under_of ws n h (suc b)) a m st.0 (no_bit s ws (p + 1) m sp.0) e close (omega (arith, low, expr_tall a)) (omega arith)) sp.1.1)
    complete {p = p} (tighter {l = l} {a = a} {u = u} s) h b q st low lv lt free sq =
        let d = complete s h b q st low lv lt (λ m less. free m (omega arith)) sq in
        let e = is_read h b l p a u q lt (λ m less. free m (omega arith)) d in
        (n, omega arith, at_more h b l p (a, q) e)
    complete {p = p} (joined {l = l} {a = a} {b = c} {u = u} {v = v} k op o s t) h b q st low lv lt free sq =
        let m = p + length u in
        let sp = Stands-split ws p q u (key k ∷ v) st in
        let at = sp.1.0 in
        let ls = left-split b b u (key k ∷ v) lv in
        let same = balanced s b ls.0 ls.1 in
        let lu : left b u ≡ Some b = let x = ls.1 in cc in
        let lw : left ls.0 v ≡ Some b = plain_step ls.0 b (left_by (key k) ls.0) v (join-plain k _ ls.0 o) ls.2 in
        let z : left b v ≡ Some b = cc in
        let len = length-append u (key k ∷ v) in
        let d = complete s h b m sp.0 (omega (arith, low)) lu (omega (arith, lt, len)) (λ i less. rw at (other_level l k _ o i (omega arith))) (rw at (join-no_square k _ o)) in
        let f = complete t (h - 1) b q sp.1.1 (omega (arith, low)) z (omega (arith, lt, len)) (λ i less. free i (omega arith)) sq in
        let e = is_read (h - 1) b l (m + 1) c v q (omega (arith, lt, len)) (λ i less. free i (omega arith)) f in
        let turns : 0 < d.0 = omega (arith, d.1, lt, len) in
        (d.0 - 1, omega (arith, d.1, turns, len), d.2 ∙ binary_read h b l p d.0 m q a c k op turns at o (omega (arith, low)) e)
    complete {p = p} (a_member s {a = a} {u = u} t) h b q st low lv lt free sq =
        let m = p + length u in
        let sp = Stands-split ws p q u (key In ∷ name s ∷ []) st in
        let at = sp.1.0 in
        let ls = left-split b b u (key In ∷ name s ∷ []) lv in
        let same = balanced t b ls.0 ls.1 in
        let lu : left b u ≡ Some b = let x = ls.1 in cc in
        let len = length-append u (key In ∷ name s ∷ []) in
        let d = complete t h b m sp.0 (omega (arith, low)) lu (omega (arith, lt, len)) (λ i less. rw at (other_level 6 In Member refl i (omega arith))) (rw at refl) in
        let turns : 0 < d.0 = omega (arith, d.1, lt, len) in
        (d.0 - 1, omega (arith, d.1, turns, len), d.2 ∙ member_read h b p d.0 m a s turns at sp.1.1.0 (omega (arith, low)) ∙ ap (λ x. rest_at h b 7 p (d.0 - 1) (member p (more a none) s) x) sp.1.1.1)
    complete (a_tuple s all) h zero q st low lv lt free sq = absurd (let x : None ≡ Some 0 = lv in cc)
    complete {p = p} (a_tuple s {a = a} {b = c} {ks = ks} {u = u} all) h (suc b) q st low lv lt free sq =
        let m = p + 1 + length u in
        let sp = Stands-split ws (p + 1) q u (key Close ∷ key In ∷ name s ∷ []) st.1 in
        let close = sp.1.0 in
        let ls = left-split b (suc b) u (key Close ∷ key In ∷ name s ∷ []) lv in
        let same = balanced_all all b ls.0 ls.1 in
        let lu : left b u ≡ Some b = let x = ls.1 in cc in
        let len = length-append u (key Close ∷ key In ∷ name s ∷ []) in
        let e = complete_all all h (h - 1) b m n sp.0 (omega (arith, low)) (omega (arith, low)) lu (omega (arith, lt, len)) (omega (arith, lt, len)) (rw close (no_join top Close refl)) (rw close refl) (rw close refl) in
        (n, omega arith, tuple_is h b p m q s a c ks st.0 (no_bit_all all ws (p + 1) m sp.0) e close sp.1.1.0 sp.1.1.1.0 sp.1.1.1.1 (omega (arith, low)) (omega (arith, lt)))

    -- the first at most h high, the others at most g
    complete_all : {p : ℕ} {ts : Exprs} {u : List Lexeme} → SpellsAll p ts u → (h g b q k : ℕ) → Stands ws p u q → exprs_height ts ≤ h → exprs_height ts ≤ g → left b u ≡ Some b → length u < n → length u < k
        → NoJoin top (slice_get ws q) → at_key Comma (slice_get ws q) ≡ false → at_key SquareOpen (slice_get ws q) ≡ false → listed ws n (expr_at ws n h b) (expr_at ws n g b) k p ≡ Ok (list_of ts, q)
    complete_all {p = p} (last {a = a} {u = u} s) h g b q k st low less lv lt lk free nc sq =
        let d = complete s h b q st (omega (arith, low)) lv lt (λ m m_less. free m (omega arith)) sq in
        goes_on _ _ (a, q) _ (is_read h b top p a u q lt free d) (ap (With a) (more_none ws n (expr_at ws n g b) k q (omega (arith, lk)) nc))
    complete_all {p = p} (then {a = a} {rest = rest} {u = u} {v = v} s t) h g b q k st low less lv lt lk free nc sq =
        let m = p + length u in
        let sp = Stands-split ws p q u (key Comma ∷ v) st in
        let at = sp.1.0 in
        let ls = left-split b b u (key Comma ∷ v) lv in
        let same = balanced s b ls.0 ls.1 in
        let lu : left b u ≡ Some b = let x = ls.1 in cc in
        let z : left b v ≡ Some b = let x = ls.2 in cc in
        let len = length-append u (key Comma ∷ v) in
        let d = complete s h b m sp.0 (omega (arith, low)) lu (omega (arith, lt, len)) (λ i i_less. rw at refl) (rw at refl) in
        let e = is_read h b top p a u m (omega (arith, lt, len)) (rw at (no_join top Comma refl)) d in
        let f = complete_all t g g b q (k - 1) sp.1.1 (omega (arith, less)) (omega (arith, less)) z (omega (arith, lt, len)) (omega (arith, lk, len)) free nc sq in
        goes_on _ _ (a, m) _ e (ap (With a) (more_some ws n (expr_at ws n g b) k m (omega (arith, lk)) at ∙ f))

  -- ---- what is spelled is read

  -- where nothing that stands behind it is joined to it or is an index
  pub expr_is_read : {l p : ℕ} {t : Expr} {u : List Lexeme} → Spells l p t u → (h b q : ℕ) → Stands ws p u q → expr_height t ≤ h → left b u ≡ Some b → length u < n → NoJoin l (slice_get ws q) → at_key SquareOpen (slice_get ws q) ≡ false
      → expr_at ws n h b l p ≡ Ok (t, q)
  expr_is_read {l = l} {p = p} {t = t} {u = u} s h b q st low lv lt free sq = is_read h b l p t u q lt free (complete s h b q st low lv lt (λ m less. free m (omega arith)) sq)

  -- and no comma
  pub all_are_read : {p : ℕ} {ts : Exprs} {u : List Lexeme} → SpellsAll p ts u → (h b q : ℕ) → Stands ws p u q → exprs_height ts ≤ h → left b u ≡ Some b → length u < n
      → NoJoin top (slice_get ws q) → at_key Comma (slice_get ws q) ≡ false → at_key SquareOpen (slice_get ws q) ≡ false → all_of ws n (expr_at ws n h b) p ≡ Ok (list_of ts, q)
  all_are_read {p = p} s h b q st low lv lt free nc sq = all_listed ws n (expr_at ws n h b) p ∙ complete_all s h h b q n st low low lv lt lt free nc sq
