-- Parsers that are spelled are read.
use Rattle.std.proofs.Common.{◌≡◌, ℕ, ◌+◌, ◌-◌, ◌≤◌, ◌<◌, true, false, List, [], ◌∷◌, ◌++◌, length, Option, Some, Ok, refl, sym, ap, ◌∙◌, arith, length-append}
use Rattle.std.specs.Prelude.{slice_get}
use Rattle.lex_words.specs.declared.key.Key.{Key}
use Rattle.lex_words.specs.declared.key.Key.TheVariants as k
use Rattle.lex_words.specs.Seen.{Lexeme, name, key, at_key}
use Rattle.lex_words.specs.Brackets.{left}
use Rattle.lex_words.proofs.Even.{parted, opened}
use Rattle.lex_words.proofs.Standing.{Stands, Stands-split}
use Rattle.lex_words.proofs.Steps.{goes_on, expect_ok, named_ok, is_not, number_is}
use Rattle.p4_tree.specs.Tree.{Expr, num, flag, path, one, Stmt, assign, call, Keyset, any, Case, Transition, nowhere, to, select, ParserState, Parser}
use Rattle.p4_tree.specs.Height.{highest, expr_height, stmt_height, transition_height, state_height, parser_height}
use Rattle.p4_spelling.specs.Operators.{top}
use Rattle.p4_spelling.specs.Lists.{SpellsList, SpellsEach}
use Rattle.p4_spelling.specs.Types.{SpellsParam}
use Rattle.p4_spelling.specs.Expressions.{SpellsPath, Spells}
use Rattle.p4_spelling.specs.Statements.{an_assign}
use Rattle.p4_spelling.specs.Parsers.{SpellsParserStmt, an_assignment, a_call, SpellsSimple, a_number, a_name, a_true, a_false, SpellsKeyset, a_default, a_low_line, a_value, a_mask, SpellsKeys, one_key, in_brackets, SpellsCase, a_case, SpellsNext, no_transition, a_transition, a_select, SpellsState, a_state, SpellsParser, a_parser}
use Rattle.p4_expressions.specs.Reading.{expr_at}
use Rattle.p4_expressions.proofs.Behind.{Closes}
use Rattle.p4_expressions.proofs.CompleteSteps.{names_read, path_first}
use Rattle.p4_expressions.proofs.Complete.{expr_before}
use Rattle.p4_expressions.proofs.SoundSteps.{Any}
use Rattle.p4_reader.proofs.Balance.{even_path, even_expr, even_exprs}
use Rattle.p4_reader.proofs.CompleteDeclared.{comma_closes, assign_is_read}
use Rattle.p4_tree.specs.declared.program.Param.{Param}
use Rattle.p4_decls.specs.Repeating.{each_at, list_at}
use Rattle.p4_decls.specs.Declaring.{param_at}
use Rattle.p4_decls.specs.Parsing.{closes_brace, ends_steps, taken_at, step_at, one_name_at, simple_at, masked_at, keyset_at, keys_at, case_at, select_at, to_at, transition_at, next_at, state_at, parser_at}
use Rattle.p4_decls.proofs.Repeats.{Each}
use Rattle.p4_decls.proofs.Repeated.{list_is_read, each_is_read}
use Rattle.p4_decls.proofs.Balance.{even_params, even_param, even_step, even_steps, even_keyset, even_keysets, even_keys, even_case, even_cases, even_next, even_state, even_states}
use Rattle.p4_decls.proofs.CompleteDeclaring.{param_is_read}

-- each of some trees that are not too high
pub low_each : {A : Type 0} (f : A → ℕ) (h : ℕ) (xs : List A) → highest f xs ≤ h → Each (λ a. f a ≤ h) xs
low_each f h [] low = tt
low_each f h (x ∷ xs) low = (omega (arith, low), low_each f h xs (omega (arith, low)))

pub any_each : {A : Type 0} (xs : List A) → Each {A = A} Any xs
any_each [] = tt
any_each (x ∷ xs) = (tt, any_each xs)

-- anything may stand behind it
abbrev pub Anything : Option Lexeme → Type 0
Anything o = Unit {0}

-- a key that closes an expression
pub record IsClosed (o : Option Lexeme) : Type 0 where
  pub closing : Key
  pub closes : Closes closing
  pub same : o ≡ Some (key closing)

pub comma_closed : IsClosed (Some (key k.Comma))
comma_closed = record { closing = k.Comma; closes = comma_closes; same = refl }

pub close_closes : Closes k.Close
close_closes = record { joins = refl; question = refl; square = refl; dot = refl; round = refl }

pub colon_closes : Closes k.Colon
colon_closes = record { joins = refl; question = refl; square = refl; dot = refl; round = refl }

-- no mask stands there
abbrev NoMask : Option Lexeme → Type 0
NoMask o = at_key k.Mask o ≡ false

simple_first : {p : ℕ} {e : Expr} {u : List Lexeme} → SpellsSimple p e u → (ws : List Lexeme) (x : Key) → at_key x (Some (key k.True)) ≡ false → at_key x (Some (key k.False)) ≡ false → (q : ℕ) → Stands ws p u q → at_key x (slice_get ws p) ≡ false
simple_first (a_number v) ws x e f q st = ap (at_key x) st.0
simple_first (a_name y) ws x e f q st = ap (at_key x) st.0
simple_first a_true ws x e f q st = ap (at_key x) st.0 ∙ e
simple_first a_false ws x e f q st = ap (at_key x) st.0 ∙ f

keyset_first : {p : ℕ} {s : Keyset} {u : List Lexeme} → SpellsKeyset p s u → (ws : List Lexeme) (x : Key) → at_key x (Some (key k.True)) ≡ false → at_key x (Some (key k.False)) ≡ false → at_key x (Some (key k.Default)) ≡ false
    → at_key x (Some (key k.LowLine)) ≡ false → (q : ℕ) → Stands ws p u q → at_key x (slice_get ws p) ≡ false
keyset_first a_default ws x e f g o q st = ap (at_key x) st.0 ∙ g
keyset_first a_low_line ws x e f g o q st = ap (at_key x) st.0 ∙ o
keyset_first (a_value s) ws x e f g o q st = simple_first s ws x e f q st
keyset_first {p = p} (a_mask {u = u} {v = v} s r) ws x e f g o q st = simple_first s ws x e f (p + length u) (Stands-split ws p q u (key k.Mask ∷ v) st).0

case_first : (p : ℕ) (c : Case) (u : List Lexeme) → SpellsCase p c u → (ws : List Lexeme) (q : ℕ) → Stands ws p u q → closes_brace (slice_get ws p) ≡ false
case_first p c w (a_case {u = u} x (one_key s)) ws q st = keyset_first s ws k.BraceClose refl refl refl refl (p + length u) (Stands-split ws p q u (key k.Colon ∷ name x ∷ key k.Semicolon ∷ []) st).0
case_first p c w (a_case x (in_brackets s)) ws q st = ap closes_brace st.0

step_first : (p : ℕ) (s : Stmt) (u : List Lexeme) → SpellsParserStmt p s u → (ws : List Lexeme) (q : ℕ) → Stands ws p u q → ends_steps (slice_get ws p) ≡ false
step_first p s w (an_assignment (an_assign {u = u} {v = v} r t)) ws q st = let f = path_first ws 0 r p (p + length u) (Stands-split ws p q u (key k.Assign ∷ (v ++ key k.Semicolon ∷ [])) st).0 in ap ends_steps f.1
step_first p s w (a_call {u = u} {v = v} r t) ws q st = let f = path_first ws 0 r p (p + length u) (Stands-split ws p q u (key k.Open ∷ (v ++ key k.Close ∷ key k.Semicolon ∷ [])) st).0 in ap ends_steps f.1

module _ (ws : List Lexeme) (n b h : ℕ) where
  -- ---- the statements of a state

  taken_is : (p i m : ℕ) (xs ys : List (List ℕ)) {v : List Lexeme} → SpellsPath ys v → slice_get ws i ≡ Some (key k.Open) → Stands ws (i + 1) v m → slice_get ws m ≡ Some (key k.Close) → slice_get ws (m + 1) ≡ Some (key k.Semicolon) → length v ≤ n
      → taken_at ws n b h p xs i ≡ Ok (call p xs (one (i + 1) (path (i + 1) ys) ∷ []), m + 1 + 1)
  unfolding taken_at
  taken_is p i m xs ys s a st c d le =
      goes_on _ _ (k.Open, i + 1) _ (expect_ok ws k.Open i a) (goes_on _ _ (ys, m) _ (names_read ws n s (i + 1) m st (is_not ws k.Dot k.Close m c refl) le)
      (goes_on _ _ (k.Close, m + 1) _ (expect_ok ws k.Close m c) (goes_on _ _ (k.Semicolon, m + 1 + 1) _ (expect_ok ws k.Semicolon (m + 1) d) refl)))

  step_is_read : (p : ℕ) (s : Stmt) (u : List Lexeme) → SpellsParserStmt p s u → (q : ℕ) → Stands ws p u q → stmt_height s ≤ h + 1 → left b u ≡ Some b → length u < n → step_at ws n b h p ≡ Ok (s, q)
  unfolding step_at
  step_is_read p s w (an_assignment (an_assign {xs = xs} {e = e} {u = u} {v = v} r t)) q st low lv lt =
      let m = p + length u in
      let l = m + 1 + length v in
      let sp = Stands-split ws p q u (key k.Assign ∷ (v ++ key k.Semicolon ∷ [])) st in
      let sq = Stands-split ws (m + 1) q v (key k.Semicolon ∷ []) sp.1.1 in
      let lp = parted b b u (key k.Assign ∷ (v ++ key k.Semicolon ∷ [])) (even_path r) lv in
      let lq = parted b b v (key k.Semicolon ∷ []) (even_expr t) lp.1 in
      let len = length-append u (key k.Assign ∷ (v ++ key k.Semicolon ∷ [])) in
      let len' = length-append v (key k.Semicolon ∷ []) in
      goes_on _ _ (xs, m) _ (names_read ws n r p m sp.0 (is_not ws k.Dot k.Assign m sp.1.0 refl) (omega (arith, lt, len)))
      (rw (is_not ws k.Open k.Assign m sp.1.0 refl) (assign_is_read ws n p m l xs h b t sp.1.0 sq.0 sq.1.0 (omega (arith, low)) lq.0 (omega (arith, lt, len, len')) ∙ ap (λ j. Ok (assign p xs e, j)) sq.1.1))
  step_is_read p s w (a_call {xs = xs} {ys = ys} {u = u} {v = v} r t) q st low lv lt =
      let m = p + length u in
      let l = m + 1 + length v in
      let sp = Stands-split ws p q u (key k.Open ∷ (v ++ key k.Close ∷ key k.Semicolon ∷ [])) st in
      let sq = Stands-split ws (m + 1) q v (key k.Close ∷ key k.Semicolon ∷ []) sp.1.1 in
      let len = length-append u (key k.Open ∷ (v ++ key k.Close ∷ key k.Semicolon ∷ [])) in
      let len' = length-append v (key k.Close ∷ key k.Semicolon ∷ []) in
      goes_on _ _ (xs, m) _ (names_read ws n r p m sp.0 (is_not ws k.Dot k.Open m sp.1.0 refl) (omega (arith, lt, len)))
      (rw sp.1.0 (taken_is p m l xs ys t sp.1.0 sq.0 sq.1.0 sq.1.1.0 (omega (arith, lt, len, len')) ∙ ap (λ j. Ok (call p xs (one (m + 1) (path (m + 1) ys) ∷ []), j)) sq.1.1.1))

  step_long : (p : ℕ) (s : Stmt) (u : List Lexeme) → SpellsParserStmt p s u → 1 ≤ length u
  step_long p s w (an_assignment (an_assign {u = u} {v = v} r t)) = omega (arith, length-append u (key k.Assign ∷ (v ++ key k.Semicolon ∷ [])))
  step_long p s w (a_call {u = u} {v = v} r t) = omega (arith, length-append u (key k.Open ∷ (v ++ key k.Close ∷ key k.Semicolon ∷ [])))

  steps_are_read : {p : ℕ} {ss : List Stmt} {u : List Lexeme} → SpellsEach SpellsParserStmt p ss u → (q : ℕ) → Stands ws p u q → highest stmt_height ss ≤ h + 1 → left b u ≡ Some b → length u < n → ends_steps (slice_get ws q) ≡ true
      → each_at ws ends_steps (step_at ws n b h) n p ≡ Ok (ss, q)
  steps_are_read {ss = ss} s q st low lv lt end =
      each_is_read ws n b SpellsParserStmt (λ s. stmt_height s ≤ h + 1) Anything (step_at ws n b h) (λ p a u x. even_step x) (λ p a u x q st low lv lt _. step_is_read p a u x q st low lv lt)
      ends_steps (λ o. tt) (λ p a u x q st. step_first p a u x ws q st) step_long s q st (low_each stmt_height (h + 1) ss low) lv lt end

  -- ---- selects

  simple_is_read : {p : ℕ} {e : Expr} {u : List Lexeme} → SpellsSimple p e u → (q : ℕ) → Stands ws p u q → simple_at ws n b h p ≡ Ok (e, q)
  unfolding simple_at one_name_at
  simple_is_read {p = p} (a_number v) q st = rw st.0 (goes_on _ _ (v, p + 1) _ (number_is ws n v p st.0) (ap (λ i. Ok (num p v, i)) st.1))
  simple_is_read {p = p} (a_name x) q st = rw st.0 (goes_on _ _ (x ∷ [], p + 1) _ (goes_on _ _ (x, p + 1) _ (named_ok ws n x p st.0) refl) (ap (λ i. Ok (path p (x ∷ []), i)) st.1))
  simple_is_read {p = p} a_true q st = rw st.0 (ap (λ i. Ok (flag p true, i)) st.1)
  simple_is_read {p = p} a_false q st = rw st.0 (ap (λ i. Ok (flag p false, i)) st.1)

  masked_is : {p : ℕ} {s : Keyset} {u : List Lexeme} → SpellsKeyset p s u → (q : ℕ) → Stands ws p u q → NoMask (slice_get ws q) → at_key k.Default (slice_get ws p) ≡ false → at_key k.LowLine (slice_get ws p) ≡ false → masked_at ws n b h p ≡ Ok (s, q)
  unfolding masked_at
  masked_is a_default q st none d l = absurd (let e : at_key k.Default (Some (key k.Default)) ≡ false = ap (at_key k.Default) (sym st.0) ∙ d in cc)
  masked_is a_low_line q st none d l = absurd (let e : at_key k.LowLine (Some (key k.LowLine)) ≡ false = ap (at_key k.LowLine) (sym st.0) ∙ l in cc)
  masked_is {p = p} (a_value {e = e} s) q st none d l = goes_on _ _ (e, q) _ (simple_is_read s q st) (rw none refl)
  masked_is {p = p} (a_mask {e = e} {m = m} {u = u} {v = v} s r) q st none d l =
      let i = p + length u in
      let sp = Stands-split ws p q u (key k.Mask ∷ v) st in
      goes_on _ _ (e, i) _ (simple_is_read s i sp.0) (rw sp.1.0 (goes_on _ _ (m, q) _ (simple_is_read r q sp.1.1) refl))

  keyset_is_read : (p : ℕ) (s : Keyset) (u : List Lexeme) → SpellsKeyset p s u → (q : ℕ) → Stands ws p u q → NoMask (slice_get ws q) → keyset_at ws n b h p ≡ Ok (s, q)
  unfolding keyset_at
  keyset_is_read p s u a_default q st none = rw st.0 (ap (λ i. Ok (any p, i)) st.1)
  keyset_is_read p s u a_low_line q st none = rw st.0 (ap (λ i. Ok (any p, i)) st.1)
  keyset_is_read p s w (a_value r) q st none =
      let d = simple_first r ws k.Default refl refl q st in
      let l = simple_first r ws k.LowLine refl refl q st in
      rw (d, l) (masked_is (a_value r) q st none d l)
  keyset_is_read p s w (a_mask {u = u} {v = v} r t) q st none =
      let su = (Stands-split ws p q u (key k.Mask ∷ v) st).0 in
      let d = simple_first r ws k.Default refl refl (p + length u) su in
      let l = simple_first r ws k.LowLine refl refl (p + length u) su in
      rw (d, l) (masked_is (a_mask r t) q st none d l)

  keys_are_read : {p : ℕ} {ss : List Keyset} {u : List Lexeme} → SpellsKeys p ss u → (q : ℕ) → Stands ws p u q → left b u ≡ Some b → length u < n → slice_get ws q ≡ Some (key k.Colon) → keys_at ws n b h p ≡ Ok (ss, q)
  unfolding keys_at
  keys_are_read {p = p} (one_key {s = s} {u = u} r) q st lv lt colon =
      rw (keyset_first r ws k.Open refl refl refl refl q st) (goes_on _ _ (s, q) _ (keyset_is_read p s u r q st (is_not ws k.Mask k.Colon q colon refl)) refl)
  keys_are_read {p = p} {ss = ss} (in_brackets {u = u} r) q st lv lt colon =
      let m = p + 1 + length u in
      let sp = Stands-split ws (p + 1) q u (key k.Close ∷ []) st.1 in
      let lo = opened b u [] (even_keysets r) lv in
      let x = list_is_read ws n (b - 1) SpellsKeyset Any NoMask (keyset_at ws n b h) (λ p a u y. even_keyset y) (λ p a u y q st low lv lt none. keyset_is_read p a u y q st none) refl r m sp.0 (any_each ss) lo.1 (omega (arith, lt, length-append u (key k.Close ∷ [])))
      (is_not ws k.Comma k.Close m sp.1.0 refl) (is_not ws k.Mask k.Close m sp.1.0 refl) in
      rw st.0 (goes_on _ _ (ss, m) _ x (goes_on _ _ (k.Close, m + 1) _ (expect_ok ws k.Close m sp.1.0) (ap (λ i. Ok (ss, i)) sp.1.1)))

  case_is_read : (p : ℕ) (c : Case) (u : List Lexeme) → SpellsCase p c u → (q : ℕ) → Stands ws p u q → left b u ≡ Some b → length u < n → case_at ws n b h p ≡ Ok (c, q)
  unfolding case_at
  case_is_read p c w (a_case {ss = ss} {u = u} x s) q st lv lt =
      let m = p + length u in
      let sp = Stands-split ws p q u (key k.Colon ∷ name x ∷ key k.Semicolon ∷ []) st in
      let lp = parted b b u (key k.Colon ∷ name x ∷ key k.Semicolon ∷ []) (even_keys s) lv in
      let len = length-append u (key k.Colon ∷ name x ∷ key k.Semicolon ∷ []) in
      goes_on _ _ (ss, m) _ (keys_are_read s m sp.0 lp.0 (omega (arith, lt, len)) sp.1.0) (goes_on _ _ (k.Colon, m + 1) _ (expect_ok ws k.Colon m sp.1.0)
      (goes_on _ _ (x, m + 1 + 1) _ (named_ok ws n x (m + 1) sp.1.1.0) (goes_on _ _ (k.Semicolon, m + 1 + 1 + 1) _ (expect_ok ws k.Semicolon (m + 1 + 1) sp.1.1.1.0) (ap (λ i. Ok (c, i)) sp.1.1.1.1))))

  case_long : (p : ℕ) (c : Case) (u : List Lexeme) → SpellsCase p c u → 1 ≤ length u
  case_long p c w (a_case {u = u} x s) = omega (arith, length-append u (key k.Colon ∷ name x ∷ key k.Semicolon ∷ []))

  cases_are_read : {p : ℕ} {cs : List Case} {u : List Lexeme} → SpellsEach SpellsCase p cs u → (q : ℕ) → Stands ws p u q → left b u ≡ Some b → length u < n → closes_brace (slice_get ws q) ≡ true → each_at ws closes_brace (case_at ws n b h) n p ≡ Ok (cs, q)
  cases_are_read {cs = cs} s q st lv lt end =
      each_is_read ws n b SpellsCase Any Anything (case_at ws n b h) (λ p a u x. even_case x) (λ p a u x q st low lv lt _. case_is_read p a u x q st lv lt)
      closes_brace (λ o. tt) (λ p a u x q st. case_first p a u x ws q st) case_long s q st (any_each cs) lv lt end

  values_are_read : {p : ℕ} {es : List Expr} {u : List Lexeme} → SpellsList (Spells top) p es u → (c q : ℕ) → Stands ws p u q → slice_get ws q ≡ Some (key k.Close) → highest expr_height es ≤ h → left c u ≡ Some c → length u < n
      → list_at ws (expr_at ws n h c top) n p ≡ Ok (es, q)
  values_are_read {es = es} s c q st close low lv lt =
      list_is_read ws n c (Spells top) (λ e. expr_height e ≤ h) IsClosed (expr_at ws n h c top) (λ p a u x. even_expr x) (λ p a u x q st low lv lt f. expr_before ws n f.closing f.closes x h c q st f.same low lv lt)
      comma_closed s q st (low_each expr_height h es low) lv lt (is_not ws k.Comma k.Close q close refl) (record { closing = k.Close; closes = close_closes; same = close })

  select_is : (p m l : ℕ) (es : List Expr) (cs : List Case) → slice_get ws (p + 1) ≡ Some (key k.Select) → slice_get ws (p + 1 + 1) ≡ Some (key k.Open) → list_at ws (expr_at ws n h (b - 1) top) n (p + 1 + 1 + 1) ≡ Ok (es, m) → slice_get ws m ≡ Some (key k.Close)
      → slice_get ws (m + 1) ≡ Some (key k.BraceOpen) → each_at ws closes_brace (case_at ws n b h) n (m + 1 + 1) ≡ Ok (cs, l) → slice_get ws l ≡ Some (key k.BraceClose) → select_at ws n b h p (p + 1) ≡ Ok (select p es cs, l + 1)
  unfolding select_at
  select_is p m l es cs a o r c d t e =
      goes_on _ _ (k.Select, p + 1 + 1) _ (expect_ok ws k.Select (p + 1) a) (goes_on _ _ (k.Open, p + 1 + 1 + 1) _ (expect_ok ws k.Open (p + 1 + 1) o) (goes_on _ _ (es, m) _ r
      (goes_on _ _ (k.Close, m + 1) _ (expect_ok ws k.Close m c) (goes_on _ _ (k.BraceOpen, m + 1 + 1) _ (expect_ok ws k.BraceOpen (m + 1) d) (goes_on _ _ (cs, l) _ t
      (goes_on _ _ (k.BraceClose, l + 1) _ (expect_ok ws k.BraceClose l e) refl))))))

  to_is : (p : ℕ) (x : List ℕ) → slice_get ws (p + 1) ≡ Some (name x) → slice_get ws (p + 1 + 1) ≡ Some (key k.Semicolon) → to_at ws n b h p (p + 1) ≡ Ok (to p x, p + 1 + 1 + 1)
  unfolding to_at
  to_is p x a s = goes_on _ _ (x, p + 1 + 1) _ (named_ok ws n x (p + 1) a) (goes_on _ _ (k.Semicolon, p + 1 + 1 + 1) _ (expect_ok ws k.Semicolon (p + 1 + 1) s) refl)

  to_begins : (p : ℕ) → slice_get ws p ≡ Some (key k.Transition) → at_key k.Select (slice_get ws (p + 1)) ≡ false → next_at ws n b h p ≡ to_at ws n b h p (p + 1)
  unfolding next_at transition_at
  to_begins p e f = rw e (goes_on _ _ (k.Transition, p + 1) _ (expect_ok ws k.Transition p e) (rw f refl))

  select_begins : (p : ℕ) → slice_get ws p ≡ Some (key k.Transition) → slice_get ws (p + 1) ≡ Some (key k.Select) → next_at ws n b h p ≡ select_at ws n b h p (p + 1)
  unfolding next_at transition_at
  select_begins p e f = rw e (goes_on _ _ (k.Transition, p + 1) _ (expect_ok ws k.Transition p e) (rw f refl))

  none_begins : (p : ℕ) → slice_get ws p ≡ Some (key k.BraceClose) → next_at ws n b h p ≡ Ok (nowhere p, p)
  unfolding next_at
  none_begins p e = rw e refl

  next_is_read : {p : ℕ} {t : Transition} {u : List Lexeme} → SpellsNext p t u → (q : ℕ) → Stands ws p u q → transition_height t ≤ h + 1 → left b u ≡ Some b → length u < n → slice_get ws q ≡ Some (key k.BraceClose) → next_at ws n b h p ≡ Ok (t, q)
  next_is_read {p = p} no_transition q st low lv lt end = none_begins p (ap (slice_get ws) st ∙ end) ∙ ap (λ i. Ok (nowhere p, i)) st
  next_is_read {p = p} (a_transition x) q st low lv lt end = to_begins p st.0 (ap (at_key k.Select) st.1.0) ∙ to_is p x st.1.0 st.1.1.0 ∙ ap (λ i. Ok (to p x, i)) st.1.1.1
  next_is_read {p = p} {t = t} (a_select {es = es} {cs = cs} {u = u} {v = v} s r) q st low lv lt end =
      let i = p + 1 + 1 + 1 in
      let m = i + length u in
      let l = m + 1 + 1 + length v in
      let rest = key k.BraceOpen ∷ (v ++ key k.BraceClose ∷ []) in
      let sp = Stands-split ws i q u (key k.Close ∷ rest) st.1.1.1 in
      let sq = Stands-split ws (m + 1 + 1) q v (key k.BraceClose ∷ []) sp.1.1.1 in
      let lo = opened b u rest (even_exprs s) lv in
      let lq = parted b b v (key k.BraceClose ∷ []) (even_cases r) lo.2 in
      let len = length-append u (key k.Close ∷ rest) in
      let len' = length-append v (key k.BraceClose ∷ []) in
      select_begins p st.0 st.1.0
      ∙ select_is p m l es cs st.1.0 st.1.1.0 (values_are_read s (b - 1) m sp.0 sp.1.0 (omega (arith, low)) lo.1 (omega (arith, lt, len))) sp.1.0 sp.1.1.0
      (cases_are_read r l sq.0 lq.0 (omega (arith, lt, len, len')) (ap closes_brace sq.1.0)) sq.1.0
      ∙ ap (λ j. Ok (t, j)) sq.1.1

  -- what ends the statements of a state
  next_ends : {p : ℕ} {t : Transition} {u : List Lexeme} → SpellsNext p t u → (q : ℕ) → Stands ws p u q → slice_get ws q ≡ Some (key k.BraceClose) → ends_steps (slice_get ws p) ≡ true
  next_ends no_transition q st end = ap (λ i. ends_steps (slice_get ws i)) st ∙ ap ends_steps end
  next_ends (a_transition x) q st end = ap ends_steps st.0
  next_ends (a_select s r) q st end = ap ends_steps st.0

  -- ---- states and parsers

  state_is : (p m l : ℕ) (x : List ℕ) (ss : List Stmt) (t : Transition) → slice_get ws p ≡ Some (key k.State) → slice_get ws (p + 1) ≡ Some (name x) → slice_get ws (p + 1 + 1) ≡ Some (key k.BraceOpen)
      → each_at ws ends_steps (step_at ws n b h) n (p + 1 + 1 + 1) ≡ Ok (ss, m) → next_at ws n b h m ≡ Ok (t, l) → slice_get ws l ≡ Some (key k.BraceClose) → state_at ws n b h p ≡ Ok (record { at = p; name = x; body = ss; next = t }, l + 1)
  unfolding state_at
  state_is p m l x ss t a c o r s e =
      goes_on _ _ (k.State, p + 1) _ (expect_ok ws k.State p a) (goes_on _ _ (x, p + 1 + 1) _ (named_ok ws n x (p + 1) c) (goes_on _ _ (k.BraceOpen, p + 1 + 1 + 1) _ (expect_ok ws k.BraceOpen (p + 1 + 1) o)
      (goes_on _ _ (ss, m) _ r (goes_on _ _ (t, l) _ s (goes_on _ _ (k.BraceClose, l + 1) _ (expect_ok ws k.BraceClose l e) refl)))))

  state_is_read : (p : ℕ) (d : ParserState) (u : List Lexeme) → SpellsState p d u → (q : ℕ) → Stands ws p u q → state_height d ≤ h + 2 → left b u ≡ Some b → length u < n → state_at ws n b h p ≡ Ok (d, q)
  state_is_read p d w (a_state {ss = ss} {t = t} {u = u} {v = v} x s r) q st low lv lt =
      let i = p + 1 + 1 + 1 in
      let m = i + length u in
      let l = m + length v in
      let sp = Stands-split ws i q u (v ++ key k.BraceClose ∷ []) st.1.1.1 in
      let sq = Stands-split ws m q v (key k.BraceClose ∷ []) sp.1 in
      let lp = parted b b u (v ++ key k.BraceClose ∷ []) (even_steps s) lv in
      let lq = parted b b v (key k.BraceClose ∷ []) (even_next r) lp.1 in
      let len = length-append u (v ++ key k.BraceClose ∷ []) in
      let len' = length-append v (key k.BraceClose ∷ []) in
      state_is p m l x ss t st.0 st.1.0 st.1.1.0 (steps_are_read s m sp.0 (omega (arith, low)) lp.0 (omega (arith, lt, len)) (next_ends r l sq.0 sq.1.0))
      (next_is_read r l sq.0 (omega (arith, low)) lq.0 (omega (arith, lt, len, len')) sq.1.0) sq.1.0 ∙ ap (λ j. Ok (d, j)) sq.1.1

  state_first : (p : ℕ) (d : ParserState) (u : List Lexeme) → SpellsState p d u → (q : ℕ) → Stands ws p u q → closes_brace (slice_get ws p) ≡ false
  state_first p d w (a_state x s r) q st = ap closes_brace st.0

  state_long : (p : ℕ) (d : ParserState) (u : List Lexeme) → SpellsState p d u → 1 ≤ length u
  state_long p d w (a_state x s r) = omega arith

  states_are_read : {p : ℕ} {ss : List ParserState} {u : List Lexeme} → SpellsEach SpellsState p ss u → (q : ℕ) → Stands ws p u q → highest state_height ss ≤ h + 2 → left b u ≡ Some b → length u < n → closes_brace (slice_get ws q) ≡ true
      → each_at ws closes_brace (state_at ws n b h) n p ≡ Ok (ss, q)
  states_are_read {ss = ss} s q st low lv lt end =
      each_is_read ws n b SpellsState (λ d. state_height d ≤ h + 2) Anything (state_at ws n b h) (λ p a u x. even_state x) (λ p a u x q st low lv lt _. state_is_read p a u x q st low lv lt)
      closes_brace (λ o. tt) state_first state_long s q st (low_each state_height (h + 2) ss low) lv lt end

-- parameters with a closing bracket behind them
pub params_are_read : (ws : List Lexeme) (n : ℕ) {p : ℕ} {ps : List Param} {u : List Lexeme} → SpellsList SpellsParam p ps u → (c q : ℕ) → Stands ws p u q → left c u ≡ Some c → length u < n → slice_get ws q ≡ Some (key k.Close)
    → list_at ws (param_at ws n) n p ≡ Ok (ps, q)
params_are_read ws n {ps = ps} s c q st lv lt close =
    list_is_read ws n c SpellsParam Any Anything (param_at ws n) (λ p a u x. even_param x) (λ p a u x q st low lv lt _. param_is_read ws n x q st) tt s q st (any_each ps) lv lt (is_not ws k.Comma k.Close q close refl) tt

module _ (ws : List Lexeme) (n b h : ℕ) where
  parser_is : (p m l : ℕ) (x : List ℕ) (ps : List Param) (ss : List ParserState) → slice_get ws p ≡ Some (key k.Parser) → slice_get ws (p + 1) ≡ Some (name x) → slice_get ws (p + 1 + 1) ≡ Some (key k.Open)
      → list_at ws (param_at ws n) n (p + 1 + 1 + 1) ≡ Ok (ps, m) → slice_get ws m ≡ Some (key k.Close) → slice_get ws (m + 1) ≡ Some (key k.BraceOpen) → each_at ws closes_brace (state_at ws n b h) n (m + 1 + 1) ≡ Ok (ss, l)
      → slice_get ws l ≡ Some (key k.BraceClose) → parser_at ws n b h p ≡ Ok (record { at = p; name = x; params = ps; states = ss }, l + 1)
  unfolding parser_at
  parser_is p m l x ps ss a c o r d e s f =
      goes_on _ _ (k.Parser, p + 1) _ (expect_ok ws k.Parser p a) (goes_on _ _ (x, p + 1 + 1) _ (named_ok ws n x (p + 1) c) (goes_on _ _ (k.Open, p + 1 + 1 + 1) _ (expect_ok ws k.Open (p + 1 + 1) o) (goes_on _ _ (ps, m) _ r
      (goes_on _ _ (k.Close, m + 1) _ (expect_ok ws k.Close m d) (goes_on _ _ (k.BraceOpen, m + 1 + 1) _ (expect_ok ws k.BraceOpen (m + 1) e) (goes_on _ _ (ss, l) _ s
      (goes_on _ _ (k.BraceClose, l + 1) _ (expect_ok ws k.BraceClose l f) refl)))))))

  pub parser_is_read : {p : ℕ} {d : Parser} {u : List Lexeme} → SpellsParser p d u → (q : ℕ) → Stands ws p u q → parser_height d ≤ h + 3 → left b u ≡ Some b → length u < n → parser_at ws n b h p ≡ Ok (d, q)
  parser_is_read {p = p} {d = d} (a_parser {ps = ps} {ss = ss} {u = u} {v = v} x s r) q st low lv lt =
      let i = p + 1 + 1 + 1 in
      let m = i + length u in
      let l = m + 1 + 1 + length v in
      let rest = key k.BraceOpen ∷ (v ++ key k.BraceClose ∷ []) in
      let sp = Stands-split ws i q u (key k.Close ∷ rest) st.1.1.1 in
      let sq = Stands-split ws (m + 1 + 1) q v (key k.BraceClose ∷ []) sp.1.1.1 in
      let lo = opened b u rest (even_params s) lv in
      let lq = parted b b v (key k.BraceClose ∷ []) (even_states r) lo.2 in
      let len = length-append u (key k.Close ∷ rest) in
      let len' = length-append v (key k.BraceClose ∷ []) in
      parser_is p m l x ps ss st.0 st.1.0 st.1.1.0 (params_are_read ws n s (b - 1) m sp.0 lo.1 (omega (arith, lt, len)) sp.1.0) sp.1.0 sp.1.1.0
      (states_are_read ws n b h r l sq.0 (omega (arith, low)) lq.0 (omega (arith, lt, len, len')) (ap closes_brace sq.1.0)) sq.1.0 ∙ ap (λ j. Ok (d, j)) sq.1.1
