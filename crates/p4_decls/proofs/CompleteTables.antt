-- Tables that are spelled are read.
use Rattle.std.proofs.Common.{◌≡◌, ℕ, zero, suc, ◌+◌, ◌-◌, ◌≤◌, ◌<◌, true, false, List, [], ◌∷◌, ◌++◌, length, Option, Some, None, Ok, refl, sym, ap, ◌∙◌, subst, arith, length-append, append_assoc}
use Rattle.std.proofs.lemmas.List.{append-nil}
use Rattle.std.specs.Prelude.{slice_get, is_some}
use Rattle.lex_words.specs.declared.key.Key.TheVariants as k
use Rattle.lex_words.specs.Seen.{Lexeme, name, number, key, at_key}
use Rattle.lex_words.specs.Brackets.{left}
use Rattle.lex_text.specs.declared.literal.Literal.{Literal}
use Rattle.lex_words.specs.Reading.{◌>>=◌, this_name_at}
use Rattle.lex_words.proofs.Even.{parted, opened}
use Rattle.lex_words.proofs.Standing.{Stands, Stands-split}
use Rattle.lex_words.proofs.Steps.{goes_on, expect_ok, named_ok, is_not, number_is}
use Rattle.p4_tree.specs.Tree.{Expr, Table}
use Rattle.p4_tree.specs.Height.{highest, height_if, expr_height, table_height}
use Rattle.p4_spelling.specs.Words.{key_name, size_name, actions_name, default_name}
use Rattle.p4_spelling.specs.Operators.{top}
use Rattle.p4_spelling.specs.Lists.{SpellsEach, no_more, one_more}
use Rattle.p4_spelling.specs.Expressions.{Spells}
use Rattle.p4_spelling.specs.Controls.{TableProp, keys, size, actions, default, SpellsKey, a_key, SpellsActionName, a_name, with_brackets, SpellsArguments, no_brackets, in_brackets, fixed, free, SpellsTableProp, the_keys, the_size, the_actions, the_default, kind_of, Lacks, AreOnce, keys_in, default_in, table_of, SpellsTable, a_table}
use Rattle.p4_expressions.specs.Reading.{expr_at}
use Rattle.p4_expressions.proofs.Complete.{expr_before}
use Rattle.p4_expressions.proofs.SoundSteps.{Any}
use Rattle.p4_reader.proofs.Balance.{even_expr, even_some}
use Rattle.p4_decls.specs.Parsing.{closes_brace}
use Rattle.p4_decls.specs.Tables.{Props, no_props, with_keys, with_size, with_actions, with_default, table_with, key_at, table_keys_at, table_size_at, action_end_at, action_name_at, table_actions_at, arguments_at, default_at, keys_prop_at, size_prop_at, actions_prop_at, default_prop_at, named_prop_at, fixed_prop_at, prop_at, props_at, table_at}
use Rattle.p4_decls.proofs.Repeats.{Each}
use Rattle.p4_decls.proofs.Repeated.{some_is_read, each_is_read}
use Rattle.p4_decls.proofs.Balance.{even_key, even_table_keys, even_action_name, even_action_names, even_given, even_prop, even_props}
use Rattle.p4_decls.proofs.Firsts.{expr_first, close_first, brace_first}
use Rattle.p4_decls.proofs.CompleteParsers.{low_each, any_each, Anything, IsClosed, comma_closed, close_closes, colon_closes}
use Rattle.p4_decls.proofs.Props.{pick, some_keys, some_size, some_actions, some_default, props_from, push_keys, push_size, push_actions, push_default, the_keys_kind, the_size_kind, the_actions_kind, the_default_kind, lacks_none, once_front, table_is}

-- ---- heights

-- a property is not too high
abbrev PropLow : ℕ → TableProp → Type 0
PropLow h (keys es) = highest (λ (x : Expr × List ℕ). expr_height x.0) es ≤ h
PropLow h (size v) = Unit {0}
PropLow h (actions xs) = Unit {0}
PropLow h (default f d) = highest expr_height d.1 ≤ h

no_keys : (ps : List TableProp) → Lacks 0 ps → keys_in ps ≡ []
no_keys [] l = refl
no_keys (keys es ∷ ps) l = absurd (l.0 refl)
no_keys (size v ∷ ps) l = no_keys ps l.1
no_keys (actions xs ∷ ps) l = no_keys ps l.1
no_keys (default f d ∷ ps) l = no_keys ps l.1

no_default : (ps : List TableProp) → Lacks 3 ps → default_in ps ≡ None
no_default [] l = refl
no_default (keys es ∷ ps) l = no_default ps l.1
no_default (size v ∷ ps) l = no_default ps l.1
no_default (actions xs ∷ ps) l = no_default ps l.1
no_default (default f d ∷ ps) l = absurd (l.0 refl)

props_low : (h : ℕ) (ps : List TableProp) → AreOnce ps → highest (λ (x : Expr × List ℕ). expr_height x.0) (keys_in ps) ≤ h → height_if (λ (x : List ℕ × List Expr). highest expr_height x.1) (default_in ps) ≤ h → Each (PropLow h) ps
props_low h [] o low fits = tt
props_low h (keys es ∷ ps) o low fits = (low, props_low h ps o.1 (subst (λ z. highest (λ (x : Expr × List ℕ). expr_height x.0) z ≤ h) (sym (no_keys ps o.0)) (omega arith)) fits)
props_low h (size v ∷ ps) o low fits = (tt, props_low h ps o.1 low fits)
props_low h (actions xs ∷ ps) o low fits = (tt, props_low h ps o.1 low fits)
props_low h (default f d ∷ ps) o low fits = (fits, props_low h ps o.1 low (subst (λ z. height_if (λ (x : List ℕ × List Expr). highest expr_height x.1) z ≤ h) (sym (no_default ps o.0)) (omega arith)))

-- no property begins with a closing brace
prop_first : {p : ℕ} {a : TableProp} {u : List Lexeme} → SpellsTableProp p a u → (ws : List Lexeme) (q : ℕ) → Stands ws p u q → at_key k.BraceClose (slice_get ws p) ≡ false
prop_first (the_keys s) ws q st = ap (at_key k.BraceClose) st.0
prop_first (the_size v) ws q st = ap (at_key k.BraceClose) st.0
prop_first (the_actions s) ws q st = ap (at_key k.BraceClose) st.0
prop_first (the_default x fixed s) ws q st = ap (at_key k.BraceClose) st.0
prop_first (the_default x free s) ws q st = ap (at_key k.BraceClose) st.0

prop_long : {p : ℕ} {a : TableProp} {u : List Lexeme} → SpellsTableProp p a u → 1 ≤ length u
prop_long (the_keys s) = omega arith
prop_long (the_size v) = omega arith
prop_long (the_actions s) = omega arith
prop_long (the_default x fixed s) = omega arith
prop_long (the_default x free s) = omega arith

absent : {A : Type 0} (o : Option A) → o ≡ None → is_some o ≡ false
absent o e = ap is_some e

module _ (ws : List Lexeme) (n b h : ℕ) where
  -- ---- what stands behind the name of a property

  key_is_read : (p : ℕ) (x : Expr × List ℕ) (u : List Lexeme) → SpellsKey p x u → (q : ℕ) → Stands ws p u q → expr_height x.0 ≤ h → left b u ≡ Some b → length u < n → key_at ws n b h p ≡ Ok (x, q)
  unfolding key_at
  key_is_read p y w (a_key {e = e} {u = u} x s) q st low lv lt =
      let m = p + length u in
      let sp = Stands-split ws p q u (key k.Colon ∷ name x ∷ key k.Semicolon ∷ []) st in
      let lp = parted b b u (key k.Colon ∷ name x ∷ key k.Semicolon ∷ []) (even_expr s) lv in
      let len = length-append u (key k.Colon ∷ name x ∷ key k.Semicolon ∷ []) in
      goes_on _ _ (e, m) _ (expr_before ws n k.Colon colon_closes s h b m sp.0 sp.1.0 low lp.0 (omega (arith, lt, len))) (goes_on _ _ (k.Colon, m + 1) _ (expect_ok ws k.Colon m sp.1.0)
      (goes_on _ _ (x, m + 1 + 1) _ (named_ok ws n x (m + 1) sp.1.1.0) (goes_on _ _ (k.Semicolon, m + 1 + 1 + 1) _ (expect_ok ws k.Semicolon (m + 1 + 1) sp.1.1.1.0) (ap (λ i. Ok ((e, x), i)) sp.1.1.1.1))))

  key_first : (p : ℕ) (x : Expr × List ℕ) (u : List Lexeme) → SpellsKey p x u → (q : ℕ) → Stands ws p u q → closes_brace (slice_get ws p) ≡ false
  key_first p y w (a_key {u = u} x s) q st = expr_first ws k.BraceClose brace_first s (p + length u) (Stands-split ws p q u (key k.Colon ∷ name x ∷ key k.Semicolon ∷ []) st).0

  key_long : (p : ℕ) (x : Expr × List ℕ) (u : List Lexeme) → SpellsKey p x u → 1 ≤ length u
  key_long p y w (a_key {u = u} x s) = omega (arith, length-append u (key k.Colon ∷ name x ∷ key k.Semicolon ∷ []))

  -- i: where `=` stands
  keys_are_read : (i m : ℕ) {es : List (Expr × List ℕ)} {u : List Lexeme} → SpellsEach SpellsKey (i + 1 + 1) es u → slice_get ws i ≡ Some (key k.Assign) → slice_get ws (i + 1) ≡ Some (key k.BraceOpen) → Stands ws (i + 1 + 1) u m → slice_get ws m ≡ Some (key k.BraceClose)
      → highest (λ (x : Expr × List ℕ). expr_height x.0) es ≤ h → left b u ≡ Some b → length u < n → table_keys_at ws n b h i ≡ Ok (es, m + 1)
  unfolding table_keys_at
  keys_are_read i m {es = es} s a o st c low lv lt =
      let r = each_is_read ws n b SpellsKey (λ x. expr_height x.0 ≤ h) Anything (key_at ws n b h) (λ p a u x. even_key x) (λ p a u x q st low lv lt _. key_is_read p a u x q st low lv lt)
      closes_brace (λ o. tt) key_first key_long s m st (low_each (λ (x : Expr × List ℕ). expr_height x.0) h es low) lv lt (ap closes_brace c) in
      goes_on _ _ (k.Assign, i + 1) _ (expect_ok ws k.Assign i a) (goes_on _ _ (k.BraceOpen, i + 1 + 1) _ (expect_ok ws k.BraceOpen (i + 1) o) (goes_on _ _ (es, m) _ r (goes_on _ _ (k.BraceClose, m + 1) _ (expect_ok ws k.BraceClose m c) refl)))

  action_is_read : (p : ℕ) (x : List ℕ) (u : List Lexeme) → SpellsActionName p x u → (q : ℕ) → Stands ws p u q → action_name_at ws n b h p ≡ Ok (x, q)
  unfolding action_name_at action_end_at
  action_is_read p y w (a_name x) q st =
      goes_on _ _ (x, p + 1) _ (named_ok ws n x p st.0) (rw (is_not ws k.Open k.Semicolon (p + 1) st.1.0 refl) (goes_on _ _ (k.Semicolon, p + 1 + 1) _ (expect_ok ws k.Semicolon (p + 1) st.1.0) (ap (λ i. Ok (x, i)) st.1.1)))
  action_is_read p y w (with_brackets x) q st =
      goes_on _ _ (x, p + 1) _ (named_ok ws n x p st.0) (rw st.1.0 (goes_on _ _ (k.Close, p + 1 + 1 + 1) _ (expect_ok ws k.Close (p + 1 + 1) st.1.1.0)
      (goes_on _ _ (k.Semicolon, p + 1 + 1 + 1 + 1) _ (expect_ok ws k.Semicolon (p + 1 + 1 + 1) st.1.1.1.0) (ap (λ i. Ok (x, i)) st.1.1.1.1))))

  action_first : (p : ℕ) (x : List ℕ) (u : List Lexeme) → SpellsActionName p x u → (q : ℕ) → Stands ws p u q → closes_brace (slice_get ws p) ≡ false
  action_first p y w (a_name x) q st = ap closes_brace st.0
  action_first p y w (with_brackets x) q st = ap closes_brace st.0

  action_long : (p : ℕ) (x : List ℕ) (u : List Lexeme) → SpellsActionName p x u → 1 ≤ length u
  action_long p y w (a_name x) = omega arith
  action_long p y w (with_brackets x) = omega arith

  actions_are_read : (i m : ℕ) {xs : List (List ℕ)} {u : List Lexeme} → SpellsEach SpellsActionName (i + 1 + 1) xs u → slice_get ws i ≡ Some (key k.Assign) → slice_get ws (i + 1) ≡ Some (key k.BraceOpen) → Stands ws (i + 1 + 1) u m → slice_get ws m ≡ Some (key k.BraceClose)
      → left b u ≡ Some b → length u < n → table_actions_at ws n b h i ≡ Ok (xs, m + 1)
  unfolding table_actions_at
  actions_are_read i m {xs = xs} s a o st c lv lt =
      let r = each_is_read ws n b SpellsActionName Any Anything (action_name_at ws n b h) (λ p a u x. even_action_name x) (λ p a u x q st low lv lt _. action_is_read p a u x q st)
      closes_brace (λ o. tt) action_first action_long s m st (any_each xs) lv lt (ap closes_brace c) in
      goes_on _ _ (k.Assign, i + 1) _ (expect_ok ws k.Assign i a) (goes_on _ _ (k.BraceOpen, i + 1 + 1) _ (expect_ok ws k.BraceOpen (i + 1) o) (goes_on _ _ (xs, m) _ r (goes_on _ _ (k.BraceClose, m + 1) _ (expect_ok ws k.BraceClose m c) refl)))

  size_is_read : (i : ℕ) (v : Literal) → slice_get ws i ≡ Some (key k.Assign) → slice_get ws (i + 1) ≡ Some (number v) → slice_get ws (i + 1 + 1) ≡ Some (key k.Semicolon) → table_size_at ws n b h i ≡ Ok (v.value, i + 1 + 1 + 1)
  unfolding table_size_at
  size_is_read i v a c s =
      goes_on _ _ (k.Assign, i + 1) _ (expect_ok ws k.Assign i a) (goes_on _ _ (v, i + 1 + 1) _ (number_is ws n v (i + 1) c) (goes_on _ _ (k.Semicolon, i + 1 + 1 + 1) _ (expect_ok ws k.Semicolon (i + 1 + 1) s) refl))

  -- with a semicolon behind them
  arguments_are_read : {p : ℕ} {es : List Expr} {u : List Lexeme} → SpellsArguments p es u → (q : ℕ) → Stands ws p u q → slice_get ws q ≡ Some (key k.Semicolon) → highest expr_height es ≤ h → left b u ≡ Some b → length u < n → arguments_at ws n b h p ≡ Ok (es, q)
  unfolding arguments_at
  arguments_are_read {p = p} no_brackets q st end low lv lt =
      let here : slice_get ws p ≡ Some (key k.Semicolon) = ap (slice_get ws) st ∙ end in
      rw here (ap (λ i. Ok ([], i)) st)
  arguments_are_read {p = p} (in_brackets {es = es} {u = u} s) q st end low lv lt =
      let m = p + 1 + length u in
      let sp = Stands-split ws (p + 1) q u (key k.Close ∷ []) st.1 in
      let lo = opened b u [] (even_some (Spells top) (λ p a u x. even_expr x) s) lv in
      let r = some_is_read ws n (b - 1) (Spells top) (λ e. expr_height e ≤ h) IsClosed (expr_at ws n h (b - 1) top) (λ p a u x. even_expr x) (λ p a u x q st low lv lt f. expr_before ws n f.closing f.closes x h (b - 1) q st f.same low lv lt)
      comma_closed (λ p a u x q st. expr_first ws k.Close close_first x q st) s m sp.0 (low_each expr_height h es low) lo.1 (omega (arith, lt, length-append u (key k.Close ∷ []))) sp.1.0 (record { closing = k.Close; closes = close_closes; same = refl }) in
      rw st.0 (goes_on _ _ (es, m) _ r (goes_on _ _ (k.Close, m + 1) _ (expect_ok ws k.Close m sp.1.0) (ap (λ i. Ok (es, i)) sp.1.1)))

  -- i: where `=` stands
  default_is_read : (i m : ℕ) (x : List ℕ) {es : List Expr} {v : List Lexeme} → SpellsArguments (i + 1 + 1) es v → slice_get ws i ≡ Some (key k.Assign) → slice_get ws (i + 1) ≡ Some (name x) → Stands ws (i + 1 + 1) v m → slice_get ws m ≡ Some (key k.Semicolon)
      → highest expr_height es ≤ h → left b v ≡ Some b → length v < n → default_at ws n b h i ≡ Ok ((x, es), m + 1)
  unfolding default_at
  default_is_read i m x {es = es} s a c st end low lv lt =
      goes_on _ _ (k.Assign, i + 1) _ (expect_ok ws k.Assign i a) (goes_on _ _ (x, i + 1 + 1) _ (named_ok ws n x (i + 1) c) (goes_on _ _ (es, m) _ (arguments_are_read s m st end low lv lt)
      (goes_on _ _ (k.Semicolon, m + 1) _ (expect_ok ws k.Semicolon m end) refl)))

  -- ---- properties, behind others

  by_name : (s : Props) (p : ℕ) (x : List ℕ) → slice_get ws p ≡ Some (name x) → prop_at ws n b h s p ≡ named_prop_at ws n b h s p x (p + 1)
  unfolding prop_at
  by_name s p x e = rw e (goes_on _ _ (x, p + 1) _ (named_ok ws n x p e) refl)

  by_const : (s : Props) (p : ℕ) → slice_get ws p ≡ Some (key k.Const) → is_some s.default ≡ false → slice_get ws (p + 1) ≡ Some (name default_name) → prop_at ws n b h s p ≡ (default_at ws n b h (p + 1 + 1) >>= λ y. Ok (with_default s true y.0, y.1))
  unfolding prop_at fixed_prop_at this_name_at
  by_const s p e none f = rw (e, none) (goes_on _ _ (k.Const, p + 1) _ (expect_ok ws k.Const p e) (rw f refl))

  keys_prop : (s : Props) (p : ℕ) → is_some s.keys ≡ false → named_prop_at ws n b h s p key_name (p + 1) ≡ (table_keys_at ws n b h (p + 1) >>= λ y. Ok (with_keys s y.0, y.1))
  unfolding named_prop_at keys_prop_at
  keys_prop s p e = rw e refl

  size_prop : (s : Props) (p : ℕ) → is_some s.size ≡ false → named_prop_at ws n b h s p size_name (p + 1) ≡ (table_size_at ws n b h (p + 1) >>= λ y. Ok (with_size s y.0, y.1))
  unfolding named_prop_at size_prop_at
  size_prop s p e = rw e refl

  actions_prop : (s : Props) (p : ℕ) → is_some s.actions ≡ false → named_prop_at ws n b h s p actions_name (p + 1) ≡ (table_actions_at ws n b h (p + 1) >>= λ y. Ok (with_actions s y.0, y.1))
  unfolding named_prop_at actions_prop_at
  actions_prop s p e = rw e refl

  default_prop : (s : Props) (p : ℕ) → is_some s.default ≡ false → named_prop_at ws n b h s p default_name (p + 1) ≡ (default_at ws n b h (p + 1) >>= λ y. Ok (with_default s false y.0, y.1))
  unfolding named_prop_at default_prop_at
  default_prop s p e = rw e refl

  prop_is_read : (front : List TableProp) {p : ℕ} {a : TableProp} {u : List Lexeme} → SpellsTableProp p a u → Lacks (kind_of a) front → (q : ℕ) → Stands ws p u q → PropLow h a → left b u ≡ Some b → length u < n
      → prop_at ws n b h (props_from front) p ≡ Ok (props_from (front ++ a ∷ []), q)
  prop_is_read front {p = p} (the_keys {es = es} {u = u} s) l q st low lv lt =
      let i = p + 1 in
      let m = i + 1 + 1 + length u in
      let sp = Stands-split ws (i + 1 + 1) q u (key k.BraceClose ∷ []) st.1.1.1 in
      let lp = parted b b u (key k.BraceClose ∷ []) (even_table_keys s) lv in
      let none = lacks_none some_keys 0 the_keys_kind front l in
      by_name (props_from front) p key_name st.0 ∙ keys_prop (props_from front) p (absent (pick some_keys front) none)
      ∙ goes_on _ _ (es, m + 1) _ (keys_are_read i m s st.1.0 st.1.1.0 sp.0 sp.1.0 low lp.0 (omega (arith, lt, length-append u (key k.BraceClose ∷ []))))
      (ap (λ z. Ok (z, m + 1)) (sym (push_keys front es none)) ∙ ap (λ j. Ok (props_from (front ++ keys es ∷ []), j)) sp.1.1)
  prop_is_read front {p = p} (the_size v) l q st low lv lt =
      let none = lacks_none some_size 1 the_size_kind front l in
      by_name (props_from front) p size_name st.0 ∙ size_prop (props_from front) p (absent (pick some_size front) none)
      ∙ goes_on _ _ (v.value, p + 1 + 1 + 1 + 1) _ (size_is_read (p + 1) v st.1.0 st.1.1.0 st.1.1.1.0)
      (ap (λ z. Ok (z, p + 1 + 1 + 1 + 1)) (sym (push_size front v.value none)) ∙ ap (λ j. Ok (props_from (front ++ size v.value ∷ []), j)) st.1.1.1.1)
  prop_is_read front {p = p} (the_actions {xs = xs} {u = u} s) l q st low lv lt =
      let i = p + 1 in
      let m = i + 1 + 1 + length u in
      let sp = Stands-split ws (i + 1 + 1) q u (key k.BraceClose ∷ []) st.1.1.1 in
      let lp = parted b b u (key k.BraceClose ∷ []) (even_action_names s) lv in
      let none = lacks_none some_actions 2 the_actions_kind front l in
      by_name (props_from front) p actions_name st.0 ∙ actions_prop (props_from front) p (absent (pick some_actions front) none)
      ∙ goes_on _ _ (xs, m + 1) _ (actions_are_read i m s st.1.0 st.1.1.0 sp.0 sp.1.0 lp.0 (omega (arith, lt, length-append u (key k.BraceClose ∷ []))))
      (ap (λ z. Ok (z, m + 1)) (sym (push_actions front xs none)) ∙ ap (λ j. Ok (props_from (front ++ actions xs ∷ []), j)) sp.1.1)
  prop_is_read front {p = p} (the_default {es = es} {v = v} x fixed s) l q st low lv lt =
      let i = p + 1 + 1 in
      let m = i + 1 + 1 + length v in
      let sp = Stands-split ws (i + 1 + 1) q v (key k.Semicolon ∷ []) st.1.1.1.1 in
      let lp = parted b b v (key k.Semicolon ∷ []) (even_given s) lv in
      let none = lacks_none some_default 3 the_default_kind front l in
      by_const (props_from front) p st.0 (absent (pick some_default front) none) st.1.0
      ∙ goes_on _ _ ((x, es), m + 1) _ (default_is_read i m x s st.1.1.0 st.1.1.1.0 sp.0 sp.1.0 low lp.0 (omega (arith, lt, length-append v (key k.Semicolon ∷ []))))
      (ap (λ z. Ok (z, m + 1)) (sym (push_default front true (x, es) none)) ∙ ap (λ j. Ok (props_from (front ++ default true (x, es) ∷ []), j)) sp.1.1)
  prop_is_read front {p = p} (the_default {es = es} {v = v} x free s) l q st low lv lt =
      let i = p + 1 in
      let at : p + 0 + 1 + 1 + 1 ≡ i + 1 + 1 = omega arith in
      let m = i + 1 + 1 + length v in
      let sp = Stands-split ws (i + 1 + 1) q v (key k.Semicolon ∷ []) st.1.1.1 in
      let lp = parted b b v (key k.Semicolon ∷ []) (even_given s) lv in
      let none = lacks_none some_default 3 the_default_kind front l in
      by_name (props_from front) p default_name st.0 ∙ default_prop (props_from front) p (absent (pick some_default front) none)
      ∙ goes_on _ _ ((x, es), m + 1) _ (default_is_read i m x (subst (λ j. SpellsArguments j es v) at s) st.1.0 st.1.1.0 sp.0 sp.1.0 low lp.0 (omega (arith, lt, length-append v (key k.Semicolon ∷ []))))
      (ap (λ z. Ok (z, m + 1)) (sym (push_default front false (x, es) none)) ∙ ap (λ j. Ok (props_from (front ++ default false (x, es) ∷ []), j)) sp.1.1)

  props_end : (j : ℕ) (s : Props) (i : ℕ) → 0 < j → slice_get ws i ≡ Some (key k.BraceClose) → props_at ws n b h j s i ≡ Ok (s, i)
  unfolding props_at
  props_end zero s i lt e = absurd (omega arith)
  props_end (suc j) s i lt e = rw e refl

  props_again : (j : ℕ) (s : Props) (i : ℕ) → at_key k.BraceClose (slice_get ws i) ≡ false → props_at ws n b h (suc j) s i ≡ (prop_at ws n b h s i >>= λ x. props_at ws n b h j x.0 x.1)
  unfolding props_at
  props_again j s i e = rw e refl

  -- behind the properties of front, in j turns
  props_are_read : (front : List TableProp) {p : ℕ} {ps : List TableProp} {u : List Lexeme} → SpellsEach SpellsTableProp p ps u → AreOnce (front ++ ps) → (j q : ℕ) → Stands ws p u q → Each (PropLow h) ps → left b u ≡ Some b → length u < n → length u < j
      → slice_get ws q ≡ Some (key k.BraceClose) → props_at ws n b h j (props_from front) p ≡ Ok (props_from (front ++ ps), q)
  props_are_read front {p = p} no_more o j q st low lv lt lj end =
      props_end j (props_from front) p (omega (arith, lj)) (ap (slice_get ws) st ∙ end) ∙ ap (λ i. Ok (props_from front, i)) st ∙ ap (λ z. Ok (props_from z, q)) (sym (append-nil front))
  props_are_read front (one_more s r) o zero q st low lv lt lj end = absurd (omega (arith, lj))
  props_are_read front {p = p} (one_more {a = a} {rest = ps} {u = u} {v = v} s r) o (suc j) q st low lv lt lj end =
      let m = p + length u in
      let sp = Stands-split ws p q u v st in
      let lp = parted b b u v (even_prop s) lv in
      let len = length-append u v in
      let same : (front ++ a ∷ []) ++ ps ≡ front ++ a ∷ ps = append_assoc front (a ∷ []) ps in
      props_again j (props_from front) p (prop_first s ws m sp.0)
      ∙ goes_on _ _ (props_from (front ++ a ∷ []), m) _ (prop_is_read front s (once_front front a ps o) m sp.0 low.0 lp.0 (omega (arith, lt, len)))
      (props_are_read (front ++ a ∷ []) r (subst AreOnce (sym same) o) j q sp.1 low.1 lp.1 (omega (arith, lt, len)) (omega (arith, lj, len, prop_long s)) end)
      ∙ ap (λ z. Ok (props_from z, q)) same

  table_is_made : (p m : ℕ) (x : List ℕ) (ps : List TableProp) → slice_get ws p ≡ Some (key k.Table) → slice_get ws (p + 1) ≡ Some (name x) → slice_get ws (p + 1 + 1) ≡ Some (key k.BraceOpen)
      → props_at ws n b h n no_props (p + 1 + 1 + 1) ≡ Ok (props_from ps, m) → slice_get ws m ≡ Some (key k.BraceClose) → table_at ws n b h p ≡ Ok (table_with p x (props_from ps), m + 1)
  unfolding table_at
  table_is_made p m x ps a c o r e =
      goes_on _ _ (k.Table, p + 1) _ (expect_ok ws k.Table p a) (goes_on _ _ (x, p + 1 + 1) _ (named_ok ws n x (p + 1) c) (goes_on _ _ (k.BraceOpen, p + 1 + 1 + 1) _ (expect_ok ws k.BraceOpen (p + 1 + 1) o)
      (goes_on _ _ (props_from ps, m) _ r (goes_on _ _ (k.BraceClose, m + 1) _ (expect_ok ws k.BraceClose m e) refl))))

  pub table_is_read : {p : ℕ} {d : Table} {u : List Lexeme} → SpellsTable p d u → (q : ℕ) → Stands ws p u q → table_height d ≤ h + 1 → left b u ≡ Some b → length u < n → table_at ws n b h p ≡ Ok (d, q)
  table_is_read {p = p} (a_table {ps = ps} {u = u} x s o) q st low lv lt =
      let i = p + 1 + 1 + 1 in
      let m = i + length u in
      let sp = Stands-split ws i q u (key k.BraceClose ∷ []) st.1.1.1 in
      let lp = parted b b u (key k.BraceClose ∷ []) (even_props s) lv in
      let len = length-append u (key k.BraceClose ∷ []) in
      let r = props_are_read [] s o n m sp.0 (props_low h ps o (omega (arith, low)) (omega (arith, low))) lp.0 (omega (arith, lt, len)) (omega (arith, lt, len)) sp.1.0 in
      table_is_made p m x ps st.0 st.1.0 st.1.1.0 r sp.1.0 ∙ ap (λ z. Ok (z, m + 1)) (table_is p x ps) ∙ ap (λ j. Ok (table_of p x ps, j)) sp.1.1
