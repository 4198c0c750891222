-- Tables: what is read is spelled so, and what was read up to a fault begins it.
use Rattle.std.proofs.Common.{◌≡◌, ℕ, zero, suc, ◌+◌, ◌-◌, ◌≤◌, Bool, true, false, List, [], ◌∷◌, ◌++◌, length, Option, Some, None, Err, refl, sym, ap, ◌∙◌, subst, arith, append_assoc, length-append}
use Rattle.std.proofs.lemmas.List.{append-nil}
use Rattle.std.specs.Prelude.{slice_get, is_some}
use Rattle.lex_text.specs.Names.{same_text}
use Rattle.lex_words.specs.declared.key.Key.TheVariants as k
use Rattle.lex_words.specs.Seen.{Lexeme, name, number, key, at_key, name_in}
use Rattle.lex_words.specs.Reading.{wrong, ◌>>=◌, named, named_at}
use Rattle.lex_words.proofs.KeyCodes.{at_key-is, name_lexeme}
use Rattle.lex_words.proofs.Standing.{Stands-length}
use Rattle.lex_words.proofs.Spelled.{Reads, Reads-bind, Reads-map, Reads-lexeme, Reads-wrong, Reads-ok, Reads-spent, Reads-cond, Reads-expect, Reads-named, Reads-numbered, Reads-this_name}
use Rattle.p4_tree.specs.Tree.{Expr}
use Rattle.p4_tree.specs.Height.{highest, height_if, expr_height, table_height}
use Rattle.p4_spelling.specs.Words.{key_name, size_name, actions_name, default_name}
use Rattle.p4_spelling.specs.Operators.{top}
use Rattle.p4_spelling.specs.Lists.{SpellsSome, no_item, SpellsEach, no_more, one_more}
use Rattle.p4_spelling.specs.Expressions.{Spells}
use Rattle.p4_spelling.specs.Controls.{TableProp, keys, size, actions, default, SpellsKey, a_key, SpellsActionName, a_name, with_brackets, SpellsArguments, no_brackets, in_brackets, SpellsFixed, fixed, free, SpellsTableProp, the_keys, the_size, the_actions, the_default, kind_of, Lacks, AreOnce, table_of, SpellsTable, a_table}
use Rattle.p4_expressions.specs.Reading.{expr_at}
use Rattle.p4_expressions.proofs.SoundSteps.{zero_lexeme, some_name, Any, text_is}
use Rattle.p4_expressions.proofs.Sound.{Reads-expr}
use Rattle.p4_decls.specs.Parsing.{closes_brace}
use Rattle.p4_decls.specs.Tables.{Props, no_props, with_keys, with_size, with_actions, with_default, items_or_none, table_with, key_at, table_keys_at, table_size_at, action_end_at, action_name_at, table_actions_at, arguments_at, default_at, keys_prop_at, size_prop_at, actions_prop_at, default_prop_at, named_prop_at, fixed_prop_at, prop_at, props_at, table_at}
use Rattle.p4_decls.proofs.Repeats.{Each, Reads-each, Reads-some}
use Rattle.p4_decls.proofs.SoundParsers.{each_low, least_expr}
use Rattle.p4_decls.proofs.Props.{pick, some_keys, some_size, some_actions, some_default, props_from, push_keys, push_size, push_actions, push_default, the_keys_kind, the_size_kind, the_actions_kind, the_default_kind, lacks_of, once_push, is_none, table_is}

-- one more item behind others
pub each_push : {A : Type 0} (S : (p : ℕ) → A → List Lexeme → Type 0) (p : ℕ) (xs : List A) (u : List Lexeme) (a : A) (v : List Lexeme) → SpellsEach S p xs u → S (p + length u) a v → SpellsEach S p (xs ++ a ∷ []) (u ++ v)
each_push S p [] [] a v no_more s =
    let e : p + 0 ≡ p = omega arith in
    subst (SpellsEach S p (a ∷ [])) (append-nil v) (one_more (subst (λ i. S i a v) e s) no_more)
each_push S p [] (x ∷ u) a v r s = elim r [ ]
each_push S p (c ∷ xs) u a v (one_more {u = w} {v = x} r rest) s =
    let e : p + length (w ++ x) ≡ p + length w + length x = omega (arith, length-append w x) in
    rw (append_assoc w x v) (one_more r (each_push S (p + length w) xs x a v rest (subst (λ i. S i a v) e s)))

-- lexemes from place q on spell properties, each kind once; these are s
pub record Stored (q : ℕ) (s : Props) (u : List Lexeme) : Type 0 where
  pub list : List TableProp
  pub spells : SpellsEach SpellsTableProp q list u
  pub once : AreOnce list
  pub same : s ≡ props_from list

-- one more, at p
stored : (q p : ℕ) (s : Props) (u : List Lexeme) (t : Stored q s u) (a : TableProp) (r : Props) (w : List Lexeme) → p ≡ q + length u → SpellsTableProp p a w → Lacks (kind_of a) t.list → r ≡ props_from (t.list ++ a ∷ []) → Stored q r (u ++ w)
stored q p s u t a r w at x l e = record {
  list = t.list ++ a ∷ [];
  spells = each_push SpellsTableProp q t.list u a w t.spells (subst (λ i. SpellsTableProp i a w) at x);
  once = once_push t.list a t.once l;
  same = e;
}

module _ (q p : ℕ) (s : Props) (u : List Lexeme) (t : Stored q s u) (at : p ≡ q + length u) where
  stored_keys : (es : List (Expr × List ℕ)) (w : List Lexeme) → SpellsTableProp p (keys es) w → is_some s.keys ≡ false → Stored q (with_keys s es) (u ++ w)
  stored_keys es w x e =
      let o : pick some_keys t.list ≡ None = ap (λ (z : Props). z.keys) (sym t.same) ∙ is_none s.keys e in
      stored q p s u t (keys es) (with_keys s es) w at x (lacks_of some_keys 0 the_keys_kind t.list o) (ap (λ z. with_keys z es) t.same ∙ sym (push_keys t.list es o))

  stored_size : (n : ℕ) (w : List Lexeme) → SpellsTableProp p (size n) w → is_some s.size ≡ false → Stored q (with_size s n) (u ++ w)
  stored_size n w x e =
      let o : pick some_size t.list ≡ None = ap (λ (z : Props). z.size) (sym t.same) ∙ is_none s.size e in
      stored q p s u t (size n) (with_size s n) w at x (lacks_of some_size 1 the_size_kind t.list o) (ap (λ z. with_size z n) t.same ∙ sym (push_size t.list n o))

  stored_actions : (xs : List (List ℕ)) (w : List Lexeme) → SpellsTableProp p (actions xs) w → is_some s.actions ≡ false → Stored q (with_actions s xs) (u ++ w)
  stored_actions xs w x e =
      let o : pick some_actions t.list ≡ None = ap (λ (z : Props). z.actions) (sym t.same) ∙ is_none s.actions e in
      stored q p s u t (actions xs) (with_actions s xs) w at x (lacks_of some_actions 2 the_actions_kind t.list o) (ap (λ z. with_actions z xs) t.same ∙ sym (push_actions t.list xs o))

  stored_default : (f : Bool) (d : List ℕ × List Expr) (w : List Lexeme) → SpellsTableProp p (default f d) w → is_some s.default ≡ false → Stored q (with_default s f d) (u ++ w)
  stored_default f d w x e =
      let o : pick some_default t.list ≡ None = ap (λ (z : Props). z.default) (sym t.same) ∙ is_none s.default e in
      stored q p s u t (default f d) (with_default s f d) w at x (lacks_of some_default 3 the_default_kind t.list o) (ap (λ z. with_default z f d) t.same ∙ sym (push_default t.list f d o))

-- the table of such properties
table_spelled : (p : ℕ) (x : List ℕ) (s : Props) (u : List Lexeme) → Stored (p + 1 + 1 + 1) s u → SpellsTable p (table_with p x s) (key k.Table ∷ name x ∷ key k.BraceOpen ∷ (u ++ key k.BraceClose ∷ []))
table_spelled p x s u t =
    let e : table_of p x t.list ≡ table_with p x s = sym (table_is p x t.list) ∙ ap (table_with p x) (sym t.same) in
    subst (λ z. SpellsTable p z (key k.Table ∷ name x ∷ key k.BraceOpen ∷ (u ++ key k.BraceClose ∷ []))) e (a_table x t.spells t.once)

-- one: a number is not too high. b: how many brackets may be opened, but for one.
module _ (ws : List Lexeme) (n b h : ℕ) (one : 1 ≤ h) where
  abbrev Low : Expr → Type 0
  Low e = expr_height e ≤ h

  abbrev KeyLow : Expr × List ℕ → Type 0
  KeyLow x = expr_height x.0 ≤ h

  abbrev DefaultLow : List ℕ × List Expr → Type 0
  DefaultLow x = highest expr_height x.1 ≤ h

  -- ---- what stands behind the name of a property

  Reads-key : (p : ℕ) → Reads ws (SpellsKey p) KeyLow (suc b) (suc b) p (key_at ws n (suc b) h p)
  unfolding key_at
  Reads-key p =
      let a = some_name in
      Reads-bind ws (Spells top p) _ Low _ (suc b) (suc b) (suc b) p _ _ (Reads-expr ws n h (suc b) top p)
      (λ e u s. ((e, a), key k.Colon ∷ name a ∷ key k.Semicolon ∷ [], a_key a s, λ low. low))
      (λ e u st s low. Reads-expect ws _ _ (suc b) (suc b) (suc b) e.1 k.Colon _ (e.0, a) (name a ∷ key k.Semicolon ∷ []) refl (a_key a s) low
      (Reads-named ws n _ _ (suc b) (suc b) (e.1 + 1) _ (λ x. ((e.0, x), key k.Semicolon ∷ [], a_key x s, low))
      (λ x _. Reads-expect ws _ _ (suc b) (suc b) (suc b) (e.1 + 1 + 1) k.Semicolon _ (e.0, x) [] refl (a_key x s) low
      (Reads-ok ws _ _ (suc b) (e.1 + 1 + 1 + 1) (e.0, x) (a_key x s) low))))

  Reads-table_keys : (p : ℕ) → Reads ws (λ es v. SpellsTableProp p (keys es) (name key_name ∷ v)) (Each KeyLow) (suc b) (suc b) (p + 1) (table_keys_at ws n (suc b) h (p + 1))
  unfolding table_keys_at
  Reads-table_keys p =
      Reads-expect ws _ _ (suc b) (suc b) (suc b) (p + 1) k.Assign _ [] (key k.BraceOpen ∷ key k.BraceClose ∷ []) refl (the_keys no_more) tt
      (Reads-expect ws _ _ (suc b) (suc b) (suc b) (p + 1 + 1) k.BraceOpen _ [] (key k.BraceClose ∷ []) refl (the_keys no_more) tt
      (Reads-bind ws (SpellsEach SpellsKey (p + 1 + 1 + 1)) _ (Each KeyLow) _ (suc b) (suc b) (suc b) (p + 1 + 1 + 1) _ _ (Reads-each ws SpellsKey KeyLow (key_at ws n (suc b) h) (suc b) Reads-key closes_brace n (p + 1 + 1 + 1))
      (λ es v r. (es, key k.BraceClose ∷ [], the_keys r, λ q. q))
      (λ es v st r q. Reads-expect ws _ _ (suc b) (suc b) (suc b) es.1 k.BraceClose _ es.0 [] refl (the_keys r) q (Reads-ok ws _ _ (suc b) (es.1 + 1) es.0 (the_keys r) q))))

  Reads-table_size : (p : ℕ) → Reads ws (λ v w. SpellsTableProp p (size v) (name size_name ∷ w)) Any (suc b) (suc b) (p + 1) (table_size_at ws n (suc b) h (p + 1))
  unfolding table_size_at
  Reads-table_size p =
      let z = zero_lexeme in
      Reads-expect ws _ _ (suc b) (suc b) (suc b) (p + 1) k.Assign _ z.value (number z ∷ key k.Semicolon ∷ []) refl (the_size z) tt
      (Reads-numbered ws n _ _ (suc b) (suc b) (p + 1 + 1) _ (λ v. (v.value, key k.Semicolon ∷ [], the_size v, tt))
      (λ v _. Reads-expect ws _ _ (suc b) (suc b) (suc b) (p + 1 + 1 + 1) k.Semicolon _ v.value [] refl (the_size v) tt (Reads-ok ws _ _ (suc b) (p + 1 + 1 + 1 + 1) v.value (the_size v) tt)))

  Reads-action_name : (p : ℕ) → Reads ws (SpellsActionName p) Any (suc b) (suc b) p (action_name_at ws n (suc b) h p)
  unfolding action_name_at action_end_at
  Reads-action_name p =
      let i = p + 1 in
      Reads-named ws n _ _ (suc b) (suc b) p _ (λ x. (x, key k.Semicolon ∷ [], a_name x, tt))
      (λ x _. Reads-cond ws _ _ (suc b) (suc b) i (at_key k.Open (slice_get ws i)) _ _
      (λ e. Reads-lexeme ws _ _ (suc b) b (suc b) i (key k.Open) _ (at_key-is k.Open (slice_get ws i) e) refl (x, key k.Close ∷ key k.Semicolon ∷ [], with_brackets x, tt)
      (Reads-expect ws _ _ b (suc b) (suc b) (i + 1) k.Close _ x (key k.Semicolon ∷ []) refl (with_brackets x) tt
      (Reads-expect ws _ _ (suc b) (suc b) (suc b) (i + 1 + 1) k.Semicolon _ x [] refl (with_brackets x) tt (Reads-ok ws _ _ (suc b) (i + 1 + 1 + 1) x (with_brackets x) tt))))
      (λ _. Reads-expect ws _ _ (suc b) (suc b) (suc b) i k.Semicolon _ x [] refl (a_name x) tt (Reads-ok ws _ _ (suc b) (i + 1) x (a_name x) tt)))

  Reads-table_actions : (p : ℕ) → Reads ws (λ xs v. SpellsTableProp p (actions xs) (name actions_name ∷ v)) Any (suc b) (suc b) (p + 1) (table_actions_at ws n (suc b) h (p + 1))
  unfolding table_actions_at
  Reads-table_actions p =
      Reads-expect ws _ _ (suc b) (suc b) (suc b) (p + 1) k.Assign _ [] (key k.BraceOpen ∷ key k.BraceClose ∷ []) refl (the_actions no_more) tt
      (Reads-expect ws _ _ (suc b) (suc b) (suc b) (p + 1 + 1) k.BraceOpen _ [] (key k.BraceClose ∷ []) refl (the_actions no_more) tt
      (Reads-bind ws (SpellsEach SpellsActionName (p + 1 + 1 + 1)) _ (Each Any) _ (suc b) (suc b) (suc b) (p + 1 + 1 + 1) _ _ (Reads-each ws SpellsActionName Any (action_name_at ws n (suc b) h) (suc b) Reads-action_name closes_brace n (p + 1 + 1 + 1))
      (λ xs v r. (xs, key k.BraceClose ∷ [], the_actions r, λ _. tt))
      (λ xs v st r _. Reads-expect ws _ _ (suc b) (suc b) (suc b) xs.1 k.BraceClose _ xs.0 [] refl (the_actions r) tt (Reads-ok ws _ _ (suc b) (xs.1 + 1) xs.0 (the_actions r) tt))))

  Reads-arguments : (p : ℕ) → Reads ws (SpellsArguments p) (Each Low) (suc b) (suc b) p (arguments_at ws n (suc b) h p)
  unfolding arguments_at
  Reads-arguments p =
      let less : suc b - 1 ≡ b = omega arith in
      Reads-cond ws _ _ (suc b) (suc b) p (at_key k.Open (slice_get ws p)) _ _
      (λ e. Reads-lexeme ws _ _ (suc b) b (suc b) p (key k.Open) _ (at_key-is k.Open (slice_get ws p) e) refl ([], key k.Close ∷ [], in_brackets no_item, tt)
      (rw less (Reads-bind ws (SpellsSome (Spells top) (p + 1)) _ (Each Low) _ b b (suc b) (p + 1) _ _ (Reads-some ws (Spells top) Low (expr_at ws n h b top) b (λ j. Reads-expr ws n h b top j) (least_expr h one) n (p + 1))
      (λ es v r. (es, key k.Close ∷ [], in_brackets r, λ q. q))
      (λ es v st r q. Reads-expect ws _ _ b (suc b) (suc b) es.1 k.Close _ es.0 [] refl (in_brackets r) q (Reads-ok ws _ _ (suc b) (es.1 + 1) es.0 (in_brackets r) q)))))
      (λ _. Reads-ok ws _ _ (suc b) p [] no_brackets tt)

  -- i: the place behind "default_action"; u: what stands before it
  default_of : (p i : ℕ) (f : Bool) (x : List ℕ) (es : List Expr) (u v : List Lexeme) → SpellsFixed f u → i ≡ p + length u + 1 → SpellsArguments (i + 1 + 1) es v
      → SpellsTableProp p (default f (x, es)) (u ++ name default_name ∷ key k.Assign ∷ name x ∷ (v ++ key k.Semicolon ∷ []))
  default_of p i f x es u v s at r = the_default x s (subst (λ j. SpellsArguments (j + 1 + 1) es v) at r)

  Reads-default : (p i : ℕ) (f : Bool) (u : List Lexeme) → SpellsFixed f u → i ≡ p + length u + 1 → Reads ws (λ d v. SpellsTableProp p (default f d) (u ++ name default_name ∷ v)) DefaultLow (suc b) (suc b) i (default_at ws n (suc b) h i)
  unfolding default_at
  Reads-default p i f u s at =
      let a = some_name in
      Reads-expect ws _ _ (suc b) (suc b) (suc b) i k.Assign _ (a, []) (name a ∷ key k.Semicolon ∷ []) refl (default_of p i f a [] u [] s at no_brackets) (omega arith)
      (Reads-named ws n _ _ (suc b) (suc b) (i + 1) _ (λ x. ((x, []), key k.Semicolon ∷ [], default_of p i f x [] u [] s at no_brackets, omega arith))
      (λ x _. Reads-bind ws (SpellsArguments (i + 1 + 1)) _ (Each Low) _ (suc b) (suc b) (suc b) (i + 1 + 1) _ _ (Reads-arguments (i + 1 + 1))
      (λ es v r. ((x, es), key k.Semicolon ∷ [], default_of p i f x es u v s at r, λ q. each_low expr_height h es q))
      (λ es v st r q. Reads-expect ws _ _ (suc b) (suc b) (suc b) es.1 k.Semicolon _ (x, es.0) [] refl (default_of p i f x es.0 u v s at r) (each_low expr_height h es.0 q)
      (Reads-ok ws _ _ (suc b) (es.1 + 1) (x, es.0) (default_of p i f x es.0 u v s at r) (each_low expr_height h es.0 q)))))

  -- ---- properties, behind those of s, which begin at q and whose lexemes are u

  pub record PropsLow (s : Props) : Type 0 where
    pub keys_low : highest (λ (x : Expr × List ℕ). expr_height x.0) (items_or_none s.keys) ≤ h
    pub default_low : height_if (λ (x : List ℕ × List Expr). highest expr_height x.1) s.default ≤ h

  module _ (q p : ℕ) (s : Props) (u : List Lexeme) (t : Stored q s u) (at : p ≡ q + length u) (low : PropsLow s) where
    abbrev S : Props → List Lexeme → Type 0
    S r v = Stored q r (u ++ v)

    keys_fit : (es : List (Expr × List ℕ)) → Each KeyLow es → PropsLow (with_keys s es)
    keys_fit es r = record { keys_low = each_low (λ (x : Expr × List ℕ). expr_height x.0) h es r; default_low = low.default_low }

    default_fits : (f : Bool) (d : List ℕ × List Expr) → DefaultLow d → PropsLow (with_default s f d)
    default_fits f d r = record { keys_low = low.keys_low; default_low = r }

    Reads-fixed_prop : Reads ws S PropsLow (suc b) (suc b) p (fixed_prop_at ws n (suc b) h s p)
    unfolding fixed_prop_at
    Reads-fixed_prop =
        let a = some_name in
        Reads-cond ws _ _ (suc b) (suc b) p (is_some s.default) _ _ (λ _. Reads-wrong ws _ _ (suc b) (suc b) p)
        (λ none. let short = stored_default q p s u t at true (a, []) (key k.Const ∷ name default_name ∷ key k.Assign ∷ name a ∷ key k.Semicolon ∷ []) (the_default a fixed no_brackets) none in
        let fit = default_fits true (a, []) (omega arith) in
        Reads-expect ws _ _ (suc b) (suc b) (suc b) p k.Const _ (with_default s true (a, [])) (name default_name ∷ key k.Assign ∷ name a ∷ key k.Semicolon ∷ []) refl short fit
        (Reads-this_name ws n default_name _ _ (suc b) (suc b) (p + 1) _ (with_default s true (a, [])) (key k.Assign ∷ name a ∷ key k.Semicolon ∷ []) short fit
        (Reads-bind ws (λ d v. SpellsTableProp p (default true d) (key k.Const ∷ name default_name ∷ v)) _ DefaultLow _ (suc b) (suc b) (suc b) (p + 1 + 1) _ _ (Reads-default p (p + 1 + 1) true (key k.Const ∷ []) fixed (omega arith))
        (λ d v r. (with_default s true d, [], rw (append-nil v) (stored_default q p s u t at true d (key k.Const ∷ name default_name ∷ v) r none), λ o. default_fits true d o))
        (λ d v st r o. Reads-ok ws _ _ (suc b) d.1 (with_default s true d.0) (rw (append-nil v) (stored_default q p s u t at true d.0 (key k.Const ∷ name default_name ∷ v) r none)) (default_fits true d.0 o)))))

    -- behind the name x, which stands at p
    Reads-named_prop : (x : List ℕ) → slice_get ws p ≡ Some (name x) → Reads ws S PropsLow (suc b) (suc b) p (named_prop_at ws n (suc b) h s p x (p + 1))
    unfolding named_prop_at keys_prop_at size_prop_at actions_prop_at default_prop_at
    Reads-named_prop x is =
        let a = some_name in
        let z = zero_lexeme in
        let wrong_here : Reads ws S PropsLow (suc b) (suc b) p (Err (wrong p)) = Reads-wrong ws _ _ (suc b) (suc b) p in
        let here = λ (y : List ℕ) (e : x ≡ y). subst (λ w. slice_get ws p ≡ Some (name w)) e is in
        Reads-cond ws _ _ (suc b) (suc b) p (same_text x key_name) _ _
        (λ e. Reads-cond ws _ _ (suc b) (suc b) p (is_some s.keys) _ _ (λ _. wrong_here)
        (λ none. Reads-lexeme ws _ _ (suc b) (suc b) (suc b) p (name key_name) _ (here key_name (text_is x key_name e)) refl
        (with_keys s [], key k.Assign ∷ key k.BraceOpen ∷ key k.BraceClose ∷ [], stored_keys q p s u t at [] (name key_name ∷ key k.Assign ∷ key k.BraceOpen ∷ key k.BraceClose ∷ []) (the_keys no_more) none, keys_fit [] tt)
        (Reads-bind ws (λ es v. SpellsTableProp p (keys es) (name key_name ∷ v)) _ (Each KeyLow) _ (suc b) (suc b) (suc b) (p + 1) _ _ (Reads-table_keys p)
        (λ es v r. (with_keys s es, [], rw (append-nil v) (stored_keys q p s u t at es (name key_name ∷ v) r none), λ o. keys_fit es o))
        (λ es v st r o. Reads-ok ws _ _ (suc b) es.1 (with_keys s es.0) (rw (append-nil v) (stored_keys q p s u t at es.0 (name key_name ∷ v) r none)) (keys_fit es.0 o)))))
        (λ _. Reads-cond ws _ _ (suc b) (suc b) p (same_text x size_name) _ _
        (λ e. Reads-cond ws _ _ (suc b) (suc b) p (is_some s.size) _ _ (λ _. wrong_here)
        (λ none. Reads-lexeme ws _ _ (suc b) (suc b) (suc b) p (name size_name) _ (here size_name (text_is x size_name e)) refl
        (with_size s z.value, key k.Assign ∷ number z ∷ key k.Semicolon ∷ [], stored_size q p s u t at z.value (name size_name ∷ key k.Assign ∷ number z ∷ key k.Semicolon ∷ []) (the_size z) none, size_fits z.value)
        (Reads-bind ws (λ v w. SpellsTableProp p (size v) (name size_name ∷ w)) _ Any _ (suc b) (suc b) (suc b) (p + 1) _ _ (Reads-table_size p)
        (λ m v r. (with_size s m, [], rw (append-nil v) (stored_size q p s u t at m (name size_name ∷ v) r none), λ _. size_fits m))
        (λ m v st r _. Reads-ok ws _ _ (suc b) m.1 (with_size s m.0) (rw (append-nil v) (stored_size q p s u t at m.0 (name size_name ∷ v) r none)) (size_fits m.0)))))
        (λ _. Reads-cond ws _ _ (suc b) (suc b) p (same_text x actions_name) _ _
        (λ e. Reads-cond ws _ _ (suc b) (suc b) p (is_some s.actions) _ _ (λ _. wrong_here)
        (λ none. Reads-lexeme ws _ _ (suc b) (suc b) (suc b) p (name actions_name) _ (here actions_name (text_is x actions_name e)) refl
        (with_actions s [], key k.Assign ∷ key k.BraceOpen ∷ key k.BraceClose ∷ [], stored_actions q p s u t at [] (name actions_name ∷ key k.Assign ∷ key k.BraceOpen ∷ key k.BraceClose ∷ []) (the_actions no_more) none, actions_fit [])
        (Reads-bind ws (λ xs v. SpellsTableProp p (actions xs) (name actions_name ∷ v)) _ Any _ (suc b) (suc b) (suc b) (p + 1) _ _ (Reads-table_actions p)
        (λ xs v r. (with_actions s xs, [], rw (append-nil v) (stored_actions q p s u t at xs (name actions_name ∷ v) r none), λ _. actions_fit xs))
        (λ xs v st r _. Reads-ok ws _ _ (suc b) xs.1 (with_actions s xs.0) (rw (append-nil v) (stored_actions q p s u t at xs.0 (name actions_name ∷ v) r none)) (actions_fit xs.0)))))
        (λ _. Reads-cond ws _ _ (suc b) (suc b) p (same_text x default_name) _ _
        (λ e. Reads-cond ws _ _ (suc b) (suc b) p (is_some s.default) _ _ (λ _. wrong_here)
        (λ none. Reads-lexeme ws _ _ (suc b) (suc b) (suc b) p (name default_name) _ (here default_name (text_is x default_name e)) refl
        (with_default s false (a, []), key k.Assign ∷ name a ∷ key k.Semicolon ∷ [], stored_default q p s u t at false (a, []) (name default_name ∷ key k.Assign ∷ name a ∷ key k.Semicolon ∷ []) (the_default a free no_brackets) none, default_fits false (a, []) (omega arith))
        (Reads-bind ws (λ d v. SpellsTableProp p (default false d) (name default_name ∷ v)) _ DefaultLow _ (suc b) (suc b) (suc b) (p + 1) _ _ (Reads-default p (p + 1) false [] free (omega arith))
        (λ d v r. (with_default s false d, [], rw (append-nil v) (stored_default q p s u t at false d (name default_name ∷ v) r none), λ o. default_fits false d o))
        (λ d v st r o. Reads-ok ws _ _ (suc b) d.1 (with_default s false d.0) (rw (append-nil v) (stored_default q p s u t at false d.0 (name default_name ∷ v) r none)) (default_fits false d.0 o)))))
        (λ _. wrong_here))))
      where
        size_fits : (m : ℕ) → PropsLow (with_size s m)
        size_fits m = record { keys_low = low.keys_low; default_low = low.default_low }

        actions_fit : (xs : List (List ℕ)) → PropsLow (with_actions s xs)
        actions_fit xs = record { keys_low = low.keys_low; default_low = low.default_low }

    Reads-prop : Reads ws S PropsLow (suc b) (suc b) p (prop_at ws n (suc b) h s p)
    unfolding prop_at named_at
    Reads-prop =
        Reads-cond ws _ _ (suc b) (suc b) p (at_key k.Const (slice_get ws p)) _ _ (λ _. Reads-fixed_prop) (λ _. by (name_in (slice_get ws p)) (λ x e. name_lexeme x (slice_get ws p) e))
      where
        by : (o : Option (List ℕ)) → ((x : List ℕ) → o ≡ Some x → slice_get ws p ≡ Some (name x)) → Reads ws S PropsLow (suc b) (suc b) p (named p o >>= λ x. named_prop_at ws n (suc b) h s p x.0 x.1)
        by None is = Reads-wrong ws _ _ (suc b) (suc b) p
        by (Some x) is = Reads-named_prop x (is x refl)

  Reads-props : (j q p : ℕ) (s : Props) (u : List Lexeme) → Stored q s u → p ≡ q + length u → PropsLow s → Reads ws (λ r v. Stored q r (u ++ v)) PropsLow (suc b) (suc b) p (props_at ws n (suc b) h j s p)
  unfolding props_at
  Reads-props zero q p s u t at low = Reads-spent ws _ _ (suc b) (suc b) p
  Reads-props (suc j) q p s u t at low =
      Reads-cond ws _ _ (suc b) (suc b) p (at_key k.BraceClose (slice_get ws p)) _ _ (λ _. Reads-ok ws _ _ (suc b) p s (rw (append-nil u) t) low)
      (λ _. Reads-bind ws (λ r v. Stored q r (u ++ v)) _ PropsLow _ (suc b) (suc b) (suc b) p _ _ (Reads-prop q p s u t at low)
      (λ r v o. (r, [], rw (append-nil v) o, λ fits. fits))
      (λ x v st o fits. Reads-map ws _ _ _ _ (suc b) (suc b) x.1 _ (λ r w z. subst (Stored q r) (append_assoc u v w) z) (λ r z. z)
      (Reads-props j q x.1 x.0 (u ++ v) o (omega (arith, at, Stands-length ws p x.1 v st, length-append u v)) fits)))

  none_low : PropsLow no_props
  none_low = record { keys_low = omega arith; default_low = omega arith }

  none_stored : (q : ℕ) → Stored q no_props []
  none_stored q = record { list = []; spells = no_more; once = tt; same = refl }

  table_low : (p : ℕ) (x : List ℕ) (s : Props) → PropsLow s → table_height (table_with p x s) ≤ h + 1
  table_low p x s low = omega (arith, low.keys_low, low.default_low)

  pub Reads-table : (p : ℕ) → Reads ws (SpellsTable p) (λ t. table_height t ≤ h + 1) (suc b) (suc b) p (table_at ws n (suc b) h p)
  unfolding table_at
  Reads-table p =
      let a = some_name in
      let i = p + 1 + 1 + 1 in
      Reads-expect ws _ _ (suc b) (suc b) (suc b) p k.Table _ (table_with p a no_props) (name a ∷ key k.BraceOpen ∷ key k.BraceClose ∷ []) refl (table_spelled p a no_props [] (none_stored i)) (table_low p a no_props none_low)
      (Reads-named ws n _ _ (suc b) (suc b) (p + 1) _ (λ x. (table_with p x no_props, key k.BraceOpen ∷ key k.BraceClose ∷ [], table_spelled p x no_props [] (none_stored i), table_low p x no_props none_low))
      (λ x _. Reads-expect ws _ _ (suc b) (suc b) (suc b) (p + 1 + 1) k.BraceOpen _ (table_with p x no_props) (key k.BraceClose ∷ []) refl (table_spelled p x no_props [] (none_stored i)) (table_low p x no_props none_low)
      (Reads-bind ws (Stored i) _ PropsLow _ (suc b) (suc b) (suc b) i _ _ (Reads-props n i i no_props [] (none_stored i) (omega arith) none_low)
      (λ s u t. (table_with p x s, key k.BraceClose ∷ [], table_spelled p x s u t, λ low. table_low p x s low))
      (λ s u st t low. Reads-expect ws _ _ (suc b) (suc b) (suc b) s.1 k.BraceClose _ (table_with p x s.0) [] refl (table_spelled p x s.0 u t) (table_low p x s.0 low)
      (Reads-ok ws _ _ (suc b) (s.1 + 1) (table_with p x s.0) (table_spelled p x s.0 u t) (table_low p x s.0 low))))))
