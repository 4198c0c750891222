-- Parsers: what is read is spelled so, and what was read up to a fault begins it.
use Rattle.std.proofs.Common.{◌≡◌, ℕ, suc, ◌+◌, ◌-◌, ◌≤◌, true, false, List, [], ◌∷◌, ◌++◌, length, refl, sym, subst, arith}
use Rattle.std.proofs.lemmas.List.{append-nil}
use Rattle.std.specs.Prelude.{slice_get, is_some}
use Rattle.lex_words.specs.declared.key.Key.TheVariants as k
use Rattle.lex_words.specs.Seen.{Lexeme, name, number, key, at_key, name_in}
use Rattle.lex_words.proofs.KeyCodes.{at_key-is}
use Rattle.lex_words.proofs.Standing.{Stands-length}
use Rattle.lex_words.proofs.Spelled.{Reads, Reads-bind, Reads-map, Reads-lexeme, Reads-ok, Reads-cond, Reads-expect, Reads-named, Reads-numbered}
use Rattle.p4_tree.specs.Tree.{Expr, num, flag, path, one, Stmt, call, Keyset, any, only, masked, Case, Transition, nowhere, to, select, ParserState, Parser}
use Rattle.p4_tree.specs.Height.{highest, expr_height, stmt_height, keyset_height, case_height, transition_height, state_height, parser_height}
use Rattle.p4_tree.specs.declared.program.Param.{Param}
use Rattle.p4_spelling.specs.Operators.{top}
use Rattle.p4_spelling.specs.Lists.{SpellsList, last, SpellsEach, no_more}
use Rattle.p4_spelling.specs.Types.{SpellsParam}
use Rattle.p4_spelling.specs.Expressions.{SpellsPath, last_name, Spells}
use Rattle.p4_spelling.specs.Parsers.{SpellsParserStmt, an_assignment, a_call, SpellsSimple, a_number, a_name, a_true, a_false, SpellsKeyset, a_default, a_low_line, a_value, a_mask, SpellsKeys, one_key, in_brackets, SpellsCase, a_case, SpellsNext, no_transition, a_transition, a_select, SpellsState, a_state, SpellsParser, a_parser}
use Rattle.p4_expressions.specs.Reading.{expr_at}
use Rattle.p4_expressions.proofs.SoundSteps.{zero_lexeme, some_name, Any, a_number_up}
use Rattle.p4_expressions.proofs.SoundPaths.{Reads-names}
use Rattle.p4_expressions.proofs.Sound.{Reads-expr}
use Rattle.p4_reader.proofs.SoundDeclared.{Reads-assign}
use Rattle.p4_decls.specs.Parsing.{closes_brace, ends_steps, taken_at, step_at, one_name_at, simple_at, masked_at, keyset_at, keys_at, case_at, select_at, to_at, transition_at, next_at, state_at, parser_at}
use Rattle.p4_decls.proofs.Repeats.{Each, Least, Reads-each, Reads-list}
use Rattle.p4_decls.proofs.SoundDeclaring.{least_param, Reads-param}

-- items that are not too high
pub each_low : {A : Type 0} (f : A → ℕ) (h : ℕ) (xs : List A) → Each (λ a. f a ≤ h) xs → highest f xs ≤ h
each_low f h [] low = omega arith
each_low f h (x ∷ xs) low = omega (arith, low.0, each_low f h xs low.1)

pub each_one : {A : Type 0} (xs : List A) → highest (λ (a : A). 1) xs ≤ 1
each_one [] = omega arith
each_one (x ∷ xs) = omega (arith, each_one xs)

-- an expression of one number
pub least_expr : (h : ℕ) → 1 ≤ h → (p : ℕ) → Least (Spells top) (λ t. expr_height t ≤ h) p
least_expr h low p = record { item = num p zero_lexeme; lexemes = number zero_lexeme ∷ []; spells = a_number_up top p zero_lexeme; bound = low }

pub least_keyset : (p : ℕ) → Least SpellsKeyset (λ s. keyset_height s ≤ 2) p
least_keyset p = record { item = any p; lexemes = key k.Default ∷ []; spells = a_default; bound = omega arith }

-- ---- trees, where their parts stand

abbrev taking : (p i : ℕ) → (xs ys : List (List ℕ)) → Stmt
taking p i xs ys = call p xs (one (i + 1) (path (i + 1) ys) ∷ [])

taken_of : (p i : ℕ) (xs ys : List (List ℕ)) (u v : List Lexeme) → i ≡ p + length u → SpellsPath xs u → SpellsPath ys v
    → SpellsParserStmt p (taking p i xs ys) (u ++ key k.Open ∷ (v ++ key k.Close ∷ key k.Semicolon ∷ []))
taken_of p i xs ys u v at s r = subst (λ q. SpellsParserStmt p (taking p q xs ys) (u ++ key k.Open ∷ (v ++ key k.Close ∷ key k.Semicolon ∷ []))) (sym at) (a_call s r)

mask_of : (p i : ℕ) (e m : Expr) (u v : List Lexeme) → i ≡ p + length u → SpellsSimple p e u → SpellsSimple (i + 1) m v → SpellsKeyset p (masked p e m) (u ++ key k.Mask ∷ v)
mask_of p i e m u v at s r = a_mask s (subst (λ q. SpellsSimple (q + 1) m v) at r)

abbrev a_case_of : List Keyset → List ℕ → Case
a_case_of ss x = record { keys = ss; next = x }

-- i: where the cases' bracket closes
select_of : (p i : ℕ) (es : List Expr) (cs : List Case) (u v : List Lexeme) → i ≡ p + 1 + 1 + 1 + length u → SpellsList (Spells top) (p + 1 + 1 + 1) es u → SpellsEach SpellsCase (i + 1 + 1) cs v
    → SpellsNext p (select p es cs) (key k.Transition ∷ key k.Select ∷ key k.Open ∷ (u ++ key k.Close ∷ key k.BraceOpen ∷ (v ++ key k.BraceClose ∷ [])))
select_of p i es cs u v at s r = a_select s (subst (λ q. SpellsEach SpellsCase (q + 1 + 1) cs v) at r)

abbrev a_state_of : ℕ → List ℕ → List Stmt → Transition → ParserState
a_state_of p x ss t = record { at = p; name = x; body = ss; next = t }

state_of : (p i : ℕ) (x : List ℕ) (ss : List Stmt) (t : Transition) (u v : List Lexeme) → i ≡ p + 1 + 1 + 1 + length u → SpellsEach SpellsParserStmt (p + 1 + 1 + 1) ss u → SpellsNext i t v
    → SpellsState p (a_state_of p x ss t) (key k.State ∷ name x ∷ key k.BraceOpen ∷ (u ++ (v ++ key k.BraceClose ∷ [])))
state_of p i x ss t u v at s r = a_state x s (subst (λ q. SpellsNext q t v) at r)

abbrev a_parser_of : ℕ → List ℕ → List Param → List ParserState → Parser
a_parser_of p x ps ss = record { at = p; name = x; params = ps; states = ss }

parser_of : (p i : ℕ) (x : List ℕ) (ps : List Param) (ss : List ParserState) (u v : List Lexeme) → i ≡ p + 1 + 1 + 1 + length u → SpellsList SpellsParam (p + 1 + 1 + 1) ps u → SpellsEach SpellsState (i + 1 + 1) ss v
    → SpellsParser p (a_parser_of p x ps ss) (key k.Parser ∷ name x ∷ key k.Open ∷ (u ++ key k.Close ∷ key k.BraceOpen ∷ (v ++ key k.BraceClose ∷ [])))
parser_of p i x ps ss u v at s r = a_parser x s (subst (λ q. SpellsEach SpellsState (q + 1 + 1) ss v) at r)

-- two: the heights of the parts that are never too high. b: how many brackets may be opened, but for one.
module _ (ws : List Lexeme) (n b h : ℕ) (two : 2 ≤ h) where
  -- ---- the statements of a state

  abbrev StepLow : Stmt → Type 0
  StepLow s = stmt_height s ≤ h + 1

  Reads-taken : (p i : ℕ) (xs : List (List ℕ)) (u : List Lexeme) → SpellsPath xs u → i ≡ p + length u → Reads ws (λ s v. SpellsParserStmt p s (u ++ v)) StepLow (suc b) (suc b) i (taken_at ws n (suc b) h p xs i)
  unfolding taken_at
  Reads-taken p i xs u s at =
      let a = some_name in
      let end = key k.Close ∷ key k.Semicolon ∷ [] in
      let low : 3 ≤ h + 1 = omega (arith, two) in
      Reads-expect ws _ _ (suc b) b (suc b) i k.Open _ (taking p i xs (a ∷ [])) (name a ∷ end) refl (taken_of p i xs (a ∷ []) u (name a ∷ []) at s (last_name a)) low
      (Reads-bind ws SpellsPath _ Any _ b b (suc b) (i + 1) _ _ (Reads-names ws n b (i + 1))
      (λ ys v r. (taking p i xs ys, end, taken_of p i xs ys u v at s r, λ _. low))
      (λ ys v st r _. Reads-expect ws _ _ b (suc b) (suc b) ys.1 k.Close _ (taking p i xs ys.0) (key k.Semicolon ∷ []) refl (taken_of p i xs ys.0 u v at s r) low
      (Reads-expect ws _ _ (suc b) (suc b) (suc b) (ys.1 + 1) k.Semicolon _ (taking p i xs ys.0) [] refl (taken_of p i xs ys.0 u v at s r) low
      (Reads-ok ws _ _ (suc b) (ys.1 + 1 + 1) (taking p i xs ys.0) (taken_of p i xs ys.0 u v at s r) low))))

  Reads-step : (p : ℕ) → Reads ws (SpellsParserStmt p) StepLow (suc b) (suc b) p (step_at ws n (suc b) h p)
  unfolding step_at
  Reads-step p =
      let a = some_name in
      let low : 3 ≤ h + 1 = omega (arith, two) in
      Reads-bind ws SpellsPath _ Any _ (suc b) (suc b) (suc b) p _ _ (Reads-names ws n (suc b) p)
      (λ xs u s. (taking p (p + length u) xs (a ∷ []), key k.Open ∷ name a ∷ key k.Close ∷ key k.Semicolon ∷ [], taken_of p (p + length u) xs (a ∷ []) u (name a ∷ []) refl s (last_name a), λ _. low))
      (λ xs u st s _. let at = Stands-length ws p xs.1 u st in
      Reads-cond ws _ _ (suc b) (suc b) xs.1 (at_key k.Open (slice_get ws xs.1)) _ _ (λ _. Reads-taken p xs.1 xs.0 u s at)
      (λ _. Reads-map ws _ _ _ _ (suc b) (suc b) xs.1 _ (λ t v r. an_assignment r) (λ t o. o) (Reads-assign ws n h (suc b) p xs.1 xs.0 u s at (omega (arith, two)))))

  -- ---- selects

  Reads-simple : (c p : ℕ) → Reads ws (SpellsSimple p) (λ e. expr_height e ≤ 1) c c p (simple_at ws n (suc b) h p)
  unfolding simple_at one_name_at
  Reads-simple c p =
      Reads-cond ws _ _ c c p (at_key k.True (slice_get ws p)) _ _
      (λ e. Reads-lexeme ws _ _ c c c p (key k.True) _ (at_key-is k.True (slice_get ws p) e) refl (flag p true, [], a_true, omega arith) (Reads-ok ws _ _ c (p + 1) (flag p true) a_true (omega arith)))
      (λ _. Reads-cond ws _ _ c c p (at_key k.False (slice_get ws p)) _ _
      (λ e. Reads-lexeme ws _ _ c c c p (key k.False) _ (at_key-is k.False (slice_get ws p) e) refl (flag p false, [], a_false, omega arith) (Reads-ok ws _ _ c (p + 1) (flag p false) a_false (omega arith)))
      (λ _. Reads-cond ws _ _ c c p (is_some (name_in (slice_get ws p))) _ _
      (λ _. Reads-bind ws (λ xs u. SpellsSimple p (path p xs) u) _ Any _ c c c p _ _
      (Reads-named ws n _ _ c c p _ (λ x. (x ∷ [], [], a_name x, tt)) (λ x _. Reads-ok ws _ _ c (p + 1) (x ∷ []) (a_name x) tt))
      (λ xs u s. (path p xs, [], rw (append-nil u) s, λ _. omega arith))
      (λ xs u st s _. Reads-ok ws _ _ c xs.1 (path p xs.0) (rw (append-nil u) s) (omega arith)))
      (λ _. Reads-numbered ws n _ _ c c p _ (λ v. (num p v, [], a_number v, omega arith)) (λ v _. Reads-ok ws _ _ c (p + 1) (num p v) (a_number v) (omega arith)))))

  abbrev KeyLow : Keyset → Type 0
  KeyLow s = keyset_height s ≤ 2

  Reads-masked : (c p : ℕ) → Reads ws (SpellsKeyset p) KeyLow c c p (masked_at ws n (suc b) h p)
  unfolding masked_at
  Reads-masked c p =
      let z = zero_lexeme in
      Reads-bind ws (SpellsSimple p) _ (λ e. expr_height e ≤ 1) _ c c c p _ _ (Reads-simple c p)
      (λ e u s. (only p e, [], rw (append-nil u) (a_value s), λ low. omega (arith, low)))
      (λ e u st s low. let at = Stands-length ws p e.1 u st in
      Reads-cond ws _ _ c c e.1 (at_key k.Mask (slice_get ws e.1)) _ _
      (λ f. Reads-lexeme ws _ _ c c c e.1 (key k.Mask) _ (at_key-is k.Mask (slice_get ws e.1) f) refl (masked p e.0 (num (e.1 + 1) z), number z ∷ [], mask_of p e.1 e.0 (num (e.1 + 1) z) u (number z ∷ []) at s (a_number z), omega (arith, low))
      (Reads-bind ws (SpellsSimple (e.1 + 1)) _ (λ e. expr_height e ≤ 1) _ c c c (e.1 + 1) _ _ (Reads-simple c (e.1 + 1))
      (λ m v r. (masked p e.0 m, [], rw (append-nil v) (mask_of p e.1 e.0 m u v at s r), λ low'. omega (arith, low, low')))
      (λ m v st' r low'. Reads-ok ws _ _ c m.1 (masked p e.0 m.0) (rw (append-nil v) (mask_of p e.1 e.0 m.0 u v at s r)) (omega (arith, low, low')))))
      (λ _. Reads-ok ws _ _ c e.1 (only p e.0) (rw (append-nil u) (a_value s)) (omega (arith, low))))

  Reads-keyset : (c p : ℕ) → Reads ws (SpellsKeyset p) KeyLow c c p (keyset_at ws n (suc b) h p)
  unfolding keyset_at
  Reads-keyset c p =
      Reads-cond ws _ _ c c p (at_key k.Default (slice_get ws p)) _ _
      (λ e. Reads-lexeme ws _ _ c c c p (key k.Default) _ (at_key-is k.Default (slice_get ws p) e) refl (any p, [], a_default, omega arith) (Reads-ok ws _ _ c (p + 1) (any p) a_default (omega arith)))
      (λ _. Reads-cond ws _ _ c c p (at_key k.LowLine (slice_get ws p)) _ _
      (λ e. Reads-lexeme ws _ _ c c c p (key k.LowLine) _ (at_key-is k.LowLine (slice_get ws p) e) refl (any p, [], a_low_line, omega arith) (Reads-ok ws _ _ c (p + 1) (any p) a_low_line (omega arith)))
      (λ _. Reads-masked c p))

  Reads-keys : (p : ℕ) → Reads ws (SpellsKeys p) (Each KeyLow) (suc b) (suc b) p (keys_at ws n (suc b) h p)
  unfolding keys_at
  Reads-keys p =
      Reads-cond ws _ _ (suc b) (suc b) p (at_key k.Open (slice_get ws p)) _ _
      (λ e. Reads-lexeme ws _ _ (suc b) b (suc b) p (key k.Open) _ (at_key-is k.Open (slice_get ws p) e) refl (any (p + 1) ∷ [], key k.Default ∷ key k.Close ∷ [], in_brackets (last a_default), (omega arith, tt))
      (Reads-bind ws (SpellsList SpellsKeyset (p + 1)) _ (Each KeyLow) _ b b (suc b) (p + 1) _ _ (Reads-list ws SpellsKeyset KeyLow (keyset_at ws n (suc b) h) b (Reads-keyset b) least_keyset n (p + 1))
      (λ ss v r. (ss, key k.Close ∷ [], in_brackets r, λ q. q))
      (λ ss v st r q. Reads-expect ws _ _ b (suc b) (suc b) ss.1 k.Close _ ss.0 [] refl (in_brackets r) q (Reads-ok ws _ _ (suc b) (ss.1 + 1) ss.0 (in_brackets r) q))))
      (λ _. Reads-bind ws (SpellsKeyset p) _ KeyLow _ (suc b) (suc b) (suc b) p _ _ (Reads-keyset (suc b) p)
      (λ s u r. (s ∷ [], [], rw (append-nil u) (one_key r), λ q. (q, tt)))
      (λ s u st r q. Reads-ok ws _ _ (suc b) s.1 (s.0 ∷ []) (rw (append-nil u) (one_key r)) (q, tt)))

  abbrev CaseLow : Case → Type 0
  CaseLow c = case_height c ≤ 2

  Reads-case : (p : ℕ) → Reads ws (SpellsCase p) CaseLow (suc b) (suc b) p (case_at ws n (suc b) h p)
  unfolding case_at
  Reads-case p =
      let a = some_name in
      Reads-bind ws (SpellsKeys p) _ (Each KeyLow) _ (suc b) (suc b) (suc b) p _ _ (Reads-keys p)
      (λ ss u s. (a_case_of ss a, key k.Colon ∷ name a ∷ key k.Semicolon ∷ [], a_case a s, λ q. each_low keyset_height 2 ss q))
      (λ ss u st s q. let low = each_low keyset_height 2 ss.0 q in
      Reads-expect ws _ _ (suc b) (suc b) (suc b) ss.1 k.Colon _ (a_case_of ss.0 a) (name a ∷ key k.Semicolon ∷ []) refl (a_case a s) low
      (Reads-named ws n _ _ (suc b) (suc b) (ss.1 + 1) _ (λ x. (a_case_of ss.0 x, key k.Semicolon ∷ [], a_case x s, low))
      (λ x _. Reads-expect ws _ _ (suc b) (suc b) (suc b) (ss.1 + 1 + 1) k.Semicolon _ (a_case_of ss.0 x) [] refl (a_case x s) low
      (Reads-ok ws _ _ (suc b) (ss.1 + 1 + 1 + 1) (a_case_of ss.0 x) (a_case x s) low))))

  abbrev NextLow : Transition → Type 0
  NextLow t = transition_height t ≤ h + 1

  abbrev Low : Expr → Type 0
  Low e = expr_height e ≤ h

  -- behind "transition", which stands at p
  Reads-select : (p : ℕ) → Reads ws (λ t v. SpellsNext p t (key k.Transition ∷ v)) NextLow (suc b) (suc b) (p + 1) (select_at ws n (suc b) h p (p + 1))
  unfolding select_at
  Reads-select p =
      let less : suc b - 1 ≡ b = omega arith in
      let i = p + 1 + 1 + 1 in
      let z = zero_lexeme in
      let e = num i z in
      let s : SpellsList (Spells top) i (e ∷ []) (number z ∷ []) = last (a_number_up top i z) in
      let u = number z ∷ [] in
      let none = key k.Close ∷ key k.BraceOpen ∷ key k.BraceClose ∷ [] in
      let first : 2 ≤ h + 1 = omega (arith, two) in
      Reads-expect ws _ _ (suc b) (suc b) (suc b) (p + 1) k.Select _ (select p (e ∷ []) []) (key k.Open ∷ number z ∷ none) refl (select_of p (i + 1) (e ∷ []) [] u [] refl s no_more) first
      (Reads-expect ws _ _ (suc b) b (suc b) (p + 1 + 1) k.Open _ (select p (e ∷ []) []) (number z ∷ none) refl (select_of p (i + 1) (e ∷ []) [] u [] refl s no_more) first
      (rw less (Reads-bind ws (SpellsList (Spells top) i) _ (Each Low) _ b b (suc b) i _ _ (Reads-list ws (Spells top) Low (expr_at ws n h b top) b (λ j. Reads-expr ws n h b top j) (least_expr h (omega (arith, two))) n i)
      (λ es v r. (select p es [], none, select_of p (i + length v) es [] v [] refl r no_more, λ q. omega (arith, two, each_low expr_height h es q)))
      (λ es v st r q. let at = Stands-length ws i es.1 v st in
      let low = each_low expr_height h es.0 q in
      let d = select_of p es.1 es.0 [] v [] at r no_more in
      let tall : transition_height (select p es.0 []) ≤ h + 1 = omega (arith, two, low) in
      Reads-expect ws _ _ b (suc b) (suc b) es.1 k.Close _ (select p es.0 []) (key k.BraceOpen ∷ key k.BraceClose ∷ []) refl d tall
      (Reads-expect ws _ _ (suc b) (suc b) (suc b) (es.1 + 1) k.BraceOpen _ (select p es.0 []) (key k.BraceClose ∷ []) refl d tall
      (Reads-bind ws (SpellsEach SpellsCase (es.1 + 1 + 1)) _ (Each CaseLow) _ (suc b) (suc b) (suc b) (es.1 + 1 + 1) _ _ (Reads-each ws SpellsCase CaseLow (case_at ws n (suc b) h) (suc b) Reads-case closes_brace n (es.1 + 1 + 1))
      (λ cs w o. (select p es.0 cs, key k.BraceClose ∷ [], select_of p es.1 es.0 cs v w at r o, λ f. omega (arith, two, low, each_low case_height 2 cs f)))
      (λ cs w st' o f. Reads-expect ws _ _ (suc b) (suc b) (suc b) cs.1 k.BraceClose _ (select p es.0 cs.0) [] refl (select_of p es.1 es.0 cs.0 v w at r o) (omega (arith, two, low, each_low case_height 2 cs.0 f))
      (Reads-ok ws _ _ (suc b) (cs.1 + 1) (select p es.0 cs.0) (select_of p es.1 es.0 cs.0 v w at r o) (omega (arith, two, low, each_low case_height 2 cs.0 f))))))))))

  Reads-to : (p : ℕ) → Reads ws (λ t v. SpellsNext p t (key k.Transition ∷ v)) NextLow (suc b) (suc b) (p + 1) (to_at ws n (suc b) h p (p + 1))
  unfolding to_at
  Reads-to p =
      Reads-named ws n _ _ (suc b) (suc b) (p + 1) _ (λ x. (to p x, key k.Semicolon ∷ [], a_transition x, omega arith))
      (λ x _. Reads-expect ws _ _ (suc b) (suc b) (suc b) (p + 1 + 1) k.Semicolon _ (to p x) [] refl (a_transition x) (omega arith)
      (Reads-ok ws _ _ (suc b) (p + 1 + 1 + 1) (to p x) (a_transition x) (omega arith)))

  Reads-transition : (p : ℕ) → Reads ws (SpellsNext p) NextLow (suc b) (suc b) p (transition_at ws n (suc b) h p)
  unfolding transition_at
  Reads-transition p =
      let a = some_name in
      Reads-expect ws _ _ (suc b) (suc b) (suc b) p k.Transition _ (to p a) (name a ∷ key k.Semicolon ∷ []) refl (a_transition a) (omega arith)
      (Reads-cond ws _ _ (suc b) (suc b) (p + 1) (at_key k.Select (slice_get ws (p + 1))) _ _ (λ _. Reads-select p) (λ _. Reads-to p))

  Reads-next : (p : ℕ) → Reads ws (SpellsNext p) NextLow (suc b) (suc b) p (next_at ws n (suc b) h p)
  unfolding next_at
  Reads-next p =
      Reads-cond ws _ _ (suc b) (suc b) p (at_key k.Transition (slice_get ws p)) _ _ (λ _. Reads-transition p) (λ _. Reads-ok ws _ _ (suc b) p (nowhere p) no_transition (omega arith))

  -- ---- states and parsers

  abbrev StateLow : ParserState → Type 0
  StateLow s = state_height s ≤ h + 2

  Reads-state : (p : ℕ) → Reads ws (SpellsState p) StateLow (suc b) (suc b) p (state_at ws n (suc b) h p)
  unfolding state_at
  Reads-state p =
      let a = some_name in
      let i = p + 1 + 1 + 1 in
      let empty = λ (x : List ℕ). state_of p i x [] (nowhere i) [] [] (omega arith) no_more no_transition in
      Reads-expect ws _ _ (suc b) (suc b) (suc b) p k.State _ (a_state_of p a [] (nowhere i)) (name a ∷ key k.BraceOpen ∷ key k.BraceClose ∷ []) refl (empty a) (omega (arith, two))
      (Reads-named ws n _ _ (suc b) (suc b) (p + 1) _ (λ x. (a_state_of p x [] (nowhere i), key k.BraceOpen ∷ key k.BraceClose ∷ [], empty x, omega (arith, two)))
      (λ x _. Reads-expect ws _ _ (suc b) (suc b) (suc b) (p + 1 + 1) k.BraceOpen _ (a_state_of p x [] (nowhere i)) (key k.BraceClose ∷ []) refl (empty x) (omega (arith, two))
      (Reads-bind ws (SpellsEach SpellsParserStmt i) _ (Each StepLow) _ (suc b) (suc b) (suc b) i _ _ (Reads-each ws SpellsParserStmt StepLow (step_at ws n (suc b) h) (suc b) Reads-step ends_steps n i)
      (λ ss u s. (a_state_of p x ss (nowhere (i + length u)), key k.BraceClose ∷ [], state_of p (i + length u) x ss (nowhere (i + length u)) u [] refl s no_transition, λ q. omega (arith, two, each_low stmt_height (h + 1) ss q)))
      (λ ss u st s q. let at = Stands-length ws i ss.1 u st in
      let low = each_low stmt_height (h + 1) ss.0 q in
      Reads-bind ws (SpellsNext ss.1) _ NextLow _ (suc b) (suc b) (suc b) ss.1 _ _ (Reads-next ss.1)
      (λ t v r. (a_state_of p x ss.0 t, key k.BraceClose ∷ [], state_of p ss.1 x ss.0 t u v at s r, λ f. omega (arith, low, f)))
      (λ t v st' r f. Reads-expect ws _ _ (suc b) (suc b) (suc b) t.1 k.BraceClose _ (a_state_of p x ss.0 t.0) [] refl (state_of p ss.1 x ss.0 t.0 u v at s r) (omega (arith, low, f))
      (Reads-ok ws _ _ (suc b) (t.1 + 1) (a_state_of p x ss.0 t.0) (state_of p ss.1 x ss.0 t.0 u v at s r) (omega (arith, low, f))))))))

  pub Reads-parser : (p : ℕ) → Reads ws (SpellsParser p) (λ d. parser_height d ≤ h + 3) (suc b) (suc b) p (parser_at ws n (suc b) h p)
  unfolding parser_at
  Reads-parser p =
      let a = some_name in
      let i = p + 1 + 1 + 1 in
      let l = least_param i in
      let o = l.item ∷ [] in
      let u = l.lexemes in
      let none = key k.Close ∷ key k.BraceOpen ∷ key k.BraceClose ∷ [] in
      let shortest = λ (x : List ℕ). parser_of p (i + length u) x o [] u [] refl (last l.spells) no_more in
      Reads-expect ws _ _ (suc b) (suc b) (suc b) p k.Parser _ (a_parser_of p a o []) (name a ∷ key k.Open ∷ (u ++ none)) refl (shortest a) (omega (arith, two))
      (Reads-named ws n _ _ (suc b) (suc b) (p + 1) _ (λ x. (a_parser_of p x o [], key k.Open ∷ (u ++ none), shortest x, omega (arith, two)))
      (λ x _. Reads-expect ws _ _ (suc b) b (suc b) (p + 1 + 1) k.Open _ (a_parser_of p x o []) (u ++ none) refl (shortest x) (omega (arith, two))
      (Reads-bind ws (SpellsList SpellsParam i) _ (Each Any) _ b b (suc b) i _ _ (Reads-list ws SpellsParam Any _ b (Reads-param ws n b) least_param n i)
      (λ ps v s. (a_parser_of p x ps [], none, parser_of p (i + length v) x ps [] v [] refl s no_more, λ _. omega (arith, two, each_one ps)))
      (λ ps v st s _. let at = Stands-length ws i ps.1 v st in
      let few = each_one ps.0 in
      let e = parser_of p ps.1 x ps.0 [] v [] at s no_more in
      Reads-expect ws _ _ b (suc b) (suc b) ps.1 k.Close _ (a_parser_of p x ps.0 []) (key k.BraceOpen ∷ key k.BraceClose ∷ []) refl e (omega (arith, two, few))
      (Reads-expect ws _ _ (suc b) (suc b) (suc b) (ps.1 + 1) k.BraceOpen _ (a_parser_of p x ps.0 []) (key k.BraceClose ∷ []) refl e (omega (arith, two, few))
      (Reads-bind ws (SpellsEach SpellsState (ps.1 + 1 + 1)) _ (Each StateLow) _ (suc b) (suc b) (suc b) (ps.1 + 1 + 1) _ _ (Reads-each ws SpellsState StateLow (state_at ws n (suc b) h) (suc b) Reads-state closes_brace n (ps.1 + 1 + 1))
      (λ ss w r. (a_parser_of p x ps.0 ss, key k.BraceClose ∷ [], parser_of p ps.1 x ps.0 ss v w at s r, λ q. omega (arith, two, few, each_low state_height (h + 2) ss q)))
      (λ ss w st' r q. let low = each_low state_height (h + 2) ss.0 q in
      Reads-expect ws _ _ (suc b) (suc b) (suc b) ss.1 k.BraceClose _ (a_parser_of p x ps.0 ss.0) [] refl (parser_of p ps.1 x ps.0 ss.0 v w at s r) (omega (arith, two, few, low))
      (Reads-ok ws _ _ (suc b) (ss.1 + 1) (a_parser_of p x ps.0 ss.0) (parser_of p ps.1 x ps.0 ss.0 v w at s r) (omega (arith, two, few, low))))))))))
