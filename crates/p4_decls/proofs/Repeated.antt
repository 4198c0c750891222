-- What is spelled again and again is read.
use Rattle.std.proofs.Common.{◌≡◌, ℕ, zero, suc, ◌+◌, ◌-◌, ◌≤◌, ◌<◌, Bool, true, false, List, [], ◌∷◌, length, Option, Some, Ok, refl, sym, ap, subst, ◌∙◌, arith, length-append}
use Rattle.std.specs.Prelude.{slice_get}
use Rattle.lex_words.specs.declared.key.Key.TheVariants.{Comma, Close}
use Rattle.lex_words.specs.Seen.{Lexeme, key, at_key}
use Rattle.lex_words.specs.Brackets.{left}
use Rattle.lex_words.specs.Reading.{Read, ◌>>=◌, look, more_of}
use Rattle.lex_words.proofs.Even.{Even, parted}
use Rattle.lex_words.proofs.Standing.{Stands, Stands-split}
use Rattle.lex_words.proofs.Steps.{goes_on, more_none, more_again}
use Rattle.p4_spelling.specs.Lists.{SpellsList, last, then, SpellsSome, no_item, items, SpellsEach, no_more, one_more}
use Rattle.p4_decls.specs.Repeating.{each_at, more_at, list_at, some_at}
use Rattle.p4_decls.proofs.Repeats.{Each}

-- S: which lexemes spell an item. P: its bound. Free: what may stand behind it. b: how many brackets may be opened. n: more than its lexemes.
module _ (ws : List Lexeme) (n b : ℕ) {A : Type 0} (S : (p : ℕ) → A → List Lexeme → Type 0) (P : A → Type 0) (Free : Option Lexeme → Type 0) (item : ℕ → Read A)
    (even : (p : ℕ) (a : A) (u : List Lexeme) → S p a u → Even u)
    (complete : (p : ℕ) (a : A) (u : List Lexeme) → S p a u → (q : ℕ) → Stands ws p u q → P a → left b u ≡ Some b → length u < n → Free (slice_get ws q) → item p ≡ Ok (a, q)) where
  -- ---- items with commas between them

  abbrev Rest : ℕ → ℕ → Read (List A)
  Rest j i = item i >>= λ x. more_of ws Comma item j x.1 >>= λ y. Ok (x.0 ∷ y.0, y.1)

  more_step : (j q : ℕ) → 0 < j → slice_get ws q ≡ Some (key Comma) → more_of ws Comma item j q ≡ Rest (j - 1) (q + 1)
  more_step zero q lt w = absurd (omega arith)
  more_step (suc j) q lt w = let e : suc j - 1 ≡ j = omega arith in more_again ws item Comma j q w ∙ ap (λ x. Rest x (q + 1)) (sym e)

  rest_is_read : Free (Some (key Comma)) → {p : ℕ} {xs : List A} {u : List Lexeme} → SpellsList S p xs u → (j q : ℕ) → Stands ws p u q → Each P xs → left b u ≡ Some b → length u < n → length u < j
      → at_key Comma (slice_get ws q) ≡ false → Free (slice_get ws q) → Rest j p ≡ Ok (xs, q)
  rest_is_read comma (last {a = a} s) j q st low lv lt lj none free =
      goes_on _ _ (a, q) _ (complete _ _ _ s q st low.0 lv lt free) (goes_on _ _ ([], q) _ (more_none ws item Comma j q (omega (arith, lj)) none) refl)
  rest_is_read comma {p = p} (then {a = a} {rest = rest} {u = u} {v = v} s r) j q st low lv lt lj none free =
      let m = p + length u in
      let sp = Stands-split ws p q u (key Comma ∷ v) st in
      let lp = parted b b u (key Comma ∷ v) (even _ _ u s) lv in
      let len = length-append u (key Comma ∷ v) in
      goes_on _ _ (a, m) _ (complete _ _ _ s m sp.0 low.0 lp.0 (omega (arith, lt, len)) (subst Free (sym sp.1.0) comma))
      (goes_on _ _ (rest, q) _ (more_step j m (omega (arith, lj)) sp.1.0 ∙ rest_is_read comma r (j - 1) q sp.1.1 low.1 lp.1 (omega (arith, lt, len)) (omega (arith, lj, len)) none free) refl)

  pub list_is_read : Free (Some (key Comma)) → {p : ℕ} {xs : List A} {u : List Lexeme} → SpellsList S p xs u → (q : ℕ) → Stands ws p u q → Each P xs → left b u ≡ Some b → length u < n
      → at_key Comma (slice_get ws q) ≡ false → Free (slice_get ws q) → list_at ws item n p ≡ Ok (xs, q)
  unfolding list_at more_at
  list_is_read comma s q st low lv lt none free = rest_is_read comma s n q st low lv lt lt none free

  -- first: an item begins with no closing bracket
  pub some_is_read : Free (Some (key Comma)) → ((p : ℕ) (a : A) (u : List Lexeme) → S p a u → (q : ℕ) → Stands ws p u q → at_key Close (slice_get ws p) ≡ false)
      → {p : ℕ} {xs : List A} {u : List Lexeme} → SpellsSome S p xs u → (q : ℕ) → Stands ws p u q → Each P xs → left b u ≡ Some b → length u < n
      → slice_get ws q ≡ Some (key Close) → Free (Some (key Close)) → some_at ws item n p ≡ Ok (xs, q)
  unfolding some_at
  some_is_read comma first {p = p} no_item q st low lv lt close free =
      let here : slice_get ws p ≡ Some (key Close) = ap (slice_get ws) st ∙ close in
      rw here (ap (λ i. Ok ([], i)) st)
  some_is_read comma first {p = p} (items s) q st low lv lt close free =
      rw (list_first s q st) (list_is_read comma s q st low lv lt (ap (at_key Comma) close) (subst Free (sym close) free))
    where
      list_first : {p : ℕ} {xs : List A} {u : List Lexeme} → SpellsList S p xs u → (q : ℕ) → Stands ws p u q → at_key Close (slice_get ws p) ≡ false
      list_first (last s) q st = first _ _ _ s q st
      list_first {p = p} (then {u = u} {v = v} s r) q st = first _ _ _ s (p + length u) (Stands-split ws p q u (key Comma ∷ v) st).0

  -- ---- items one behind the other

  -- all: any lexeme may stand behind an item
  module _ (stop : Option Lexeme → Bool) (all : (o : Option Lexeme) → Free o)
      (first : (p : ℕ) (a : A) (u : List Lexeme) → S p a u → (q : ℕ) → Stands ws p u q → stop (slice_get ws p) ≡ false)
      (long : (p : ℕ) (a : A) (u : List Lexeme) → S p a u → 1 ≤ length u) where
    each_stops : (j i : ℕ) → 0 < j → stop (slice_get ws i) ≡ true → each_at ws stop item j i ≡ Ok ([], i)
    unfolding each_at look
    each_stops zero i lt e = absurd (omega arith)
    each_stops (suc j) i lt e = rw e refl

    each_again : (j i : ℕ) → stop (slice_get ws i) ≡ false → each_at ws stop item (suc j) i ≡ (item i >>= λ x. each_at ws stop item j x.1 >>= λ y. Ok (x.0 ∷ y.0, y.1))
    unfolding each_at look
    each_again j i e = rw e refl

    each_turn : {p : ℕ} {xs : List A} {u : List Lexeme} → SpellsEach S p xs u → (j q : ℕ) → Stands ws p u q → Each P xs → left b u ≡ Some b → length u < n → length u < j → stop (slice_get ws q) ≡ true
        → each_at ws stop item j p ≡ Ok (xs, q)
    each_turn {p = p} no_more j q st low lv lt lj end =
        each_stops j p (omega (arith, lj)) (ap (λ i. stop (slice_get ws i)) st ∙ end) ∙ ap (λ i. Ok ([], i)) st
    each_turn (one_more s r) zero q st low lv lt lj end = absurd (omega (arith, lj))
    each_turn {p = p} (one_more {a = a} {rest = rest} {u = u} {v = v} s r) (suc j) q st low lv lt lj end =
        let m = p + length u in
        let sp = Stands-split ws p q u v st in
        let lp = parted b b u v (even _ _ u s) lv in
        let len = length-append u v in
        each_again j p (first _ _ _ s m sp.0)
        ∙ goes_on _ _ (a, m) _ (complete _ _ _ s m sp.0 low.0 lp.0 (omega (arith, lt, len)) (all (slice_get ws m)))
        (goes_on _ _ (rest, q) _ (each_turn r j q sp.1 low.1 lp.1 (omega (arith, lt, len)) (omega (arith, lj, len, long _ _ _ s)) end) refl)

    pub each_is_read : {p : ℕ} {xs : List A} {u : List Lexeme} → SpellsEach S p xs u → (q : ℕ) → Stands ws p u q → Each P xs → left b u ≡ Some b → length u < n → stop (slice_get ws q) ≡ true → each_at ws stop item n p ≡ Ok (xs, q)
    each_is_read s q st low lv lt end = each_turn s n q st low lv lt lt end
