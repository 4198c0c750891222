-- Controls that are spelled are read.
use Rattle.std.proofs.Common.{◌≡◌, ℕ, zero, suc, ◌+◌, ◌-◌, ◌≤◌, ◌<◌, false, List, [], ◌∷◌, ◌++◌, length, Option, Some, None, Ok, refl, sym, ap, ◌∙◌, arith, length-append, append_assoc}
use Rattle.std.proofs.lemmas.List.{append-nil}
use Rattle.std.specs.Prelude.{slice_get, is_some}
use Rattle.lex_text.specs.Names.{same_text}
use Rattle.lex_words.specs.declared.key.Key.TheVariants as k
use Rattle.lex_words.specs.Seen.{Lexeme, name, key, at_key, name_in}
use Rattle.lex_words.specs.Brackets.{left}
use Rattle.lex_words.specs.Reading.{◌>>=◌}
use Rattle.lex_words.proofs.Even.{parted, opened}
use Rattle.lex_words.proofs.Standing.{Stands, Stands-split}
use Rattle.lex_words.proofs.Steps.{goes_on, expect_ok, named_ok}
use Rattle.p4_tree.specs.Tree.{Expr, Stmt, stmts_from, Action, Table, Local, local_action, local_var, Control}
use Rattle.p4_tree.specs.Height.{highest, action_height, local_height, control_height}
use Rattle.p4_tree.specs.declared.statement.PTy.{PTy}
use Rattle.p4_tree.specs.declared.statement.PTy.TheVariants as type
use Rattle.p4_tree.specs.declared.program.Param.{Param}
use Rattle.p4_tree.specs.declared.program.Register.{Register}
use Rattle.p4_spelling.specs.Words.{apply_name}
use Rattle.p4_spelling.specs.Lists.{SpellsSome, SpellsEach, no_more, one_more}
use Rattle.p4_spelling.specs.Types.{a_bool, a_bit, bits, SpellsScalar, SpellsType, a_scalar, a_name, SpellsArgument, an_argument, SpellsParam}
use Rattle.p4_spelling.specs.Statements.{a_var, SpellsConst, a_const}
use Rattle.p4_spelling.specs.Controls.{SpellsAction, an_action, SpellsTable, a_table, SpellsLocal, an_action as a_local_action, a_table as a_local_table, a_register, a_const as a_local_const, a_var as a_local_var, SpellsControl, a_control}
use Rattle.p4_spelling.specs.Types as types
use Rattle.p4_expressions.specs.Reading.{scalar_at}
use Rattle.p4_expressions.proofs.CompleteSteps.{scalar_read}
use Rattle.p4_expressions.proofs.SoundSteps.{Any}
use Rattle.p4_reader.specs.Declaring.{var_from}
use Rattle.p4_reader.specs.Reading.{body_at}
use Rattle.p4_reader.proofs.Balance.{even_block}
use Rattle.p4_reader.proofs.CompleteDeclared.{var_parts, const_is_read}
use Rattle.p4_reader.proofs.CompleteStatements.{stmts_in, stmts_from-stmts_in, block_is_read}
use Rattle.p4_decls.specs.Repeating.{list_at, some_at}
use Rattle.p4_decls.specs.Declaring.{argument_at, param_at}
use Rattle.p4_decls.specs.Controls.{action_at, variable_at, behind_name_at, variable_or_apply_at, local_at, goes_on as local_goes_on, locals_at, control_at}
use Rattle.p4_decls.proofs.Repeated.{some_is_read}
use Rattle.p4_decls.proofs.Balance.{even_argument, even_arguments, even_params, even_local, even_locals}
use Rattle.p4_decls.proofs.Firsts.{type_first}
use Rattle.p4_decls.proofs.CompleteDeclaring.{register_is_read, argument_is_read}
use Rattle.p4_decls.proofs.CompleteParsers.{any_each, Anything, params_are_read}
use Rattle.p4_decls.proofs.CompleteTables.{table_is_read}

argument_first : (p : ℕ) (a : PTy × List ℕ) (u : List Lexeme) → SpellsArgument p a u → (ws : List Lexeme) (q : ℕ) → Stands ws p u q → at_key k.Close (slice_get ws p) ≡ false
argument_first p a w (an_argument {u = u} x s) ws q st = type_first ws k.Close refl refl s p (p + length u) (Stands-split ws p q u (name x ∷ []) st).0

-- a scalar type begins with none of these
record NoName (ws : List Lexeme) (p : ℕ) : Type 0 where
  none : is_some (name_in (slice_get ws p)) ≡ false
  action : at_key k.Action (slice_get ws p) ≡ false
  table : at_key k.Table (slice_get ws p) ≡ false
  register : at_key k.Register (slice_get ws p) ≡ false
  const_ : at_key k.Const (slice_get ws p) ≡ false

no_name : (ws : List Lexeme) (p : ℕ) (w : Lexeme) → slice_get ws p ≡ Some w → is_some (name_in (Some w)) ≡ false → at_key k.Action (Some w) ≡ false → at_key k.Table (Some w) ≡ false → at_key k.Register (Some w) ≡ false → at_key k.Const (Some w) ≡ false → NoName ws p
no_name ws p w e a b c d f = record { none = ap (λ o. is_some (name_in o)) e ∙ a; action = ap (at_key k.Action) e ∙ b; table = ap (at_key k.Table) e ∙ c; register = ap (at_key k.Register) e ∙ d; const_ = ap (at_key k.Const) e ∙ f }

scalar_no_name : {t : PTy} {u : List Lexeme} → SpellsScalar t u → (ws : List Lexeme) (p q : ℕ) → Stands ws p u q → NoName ws p
scalar_no_name a_bool ws p q st = no_name ws p (key k.Bool) st.0 refl refl refl refl refl
scalar_no_name a_bit ws p q st = no_name ws p (key k.Bit) st.0 refl refl refl refl refl
scalar_no_name (bits v low) ws p q st = no_name ws p (key k.Bit) st.0 refl refl refl refl refl

module _ (ws : List Lexeme) (n b h : ℕ) where
  -- ---- actions

  arguments_are_read : {p : ℕ} {ps : List (PTy × List ℕ)} {u : List Lexeme} → SpellsSome SpellsArgument p ps u → (c q : ℕ) → Stands ws p u q → left c u ≡ Some c → length u < n → slice_get ws q ≡ Some (key k.Close) → some_at ws (argument_at ws n) n p ≡ Ok (ps, q)
  arguments_are_read {ps = ps} s c q st lv lt close =
      some_is_read ws n c SpellsArgument Any Anything (argument_at ws n) (λ p a u x. even_argument x) (λ p a u x q st low lv lt _. argument_is_read ws n x q st) tt (λ p a u x q st. argument_first p a u x ws q st) s q st (any_each ps) lv lt close tt

  action_is : (p m q : ℕ) (x : List ℕ) (ps : List (PTy × List ℕ)) (ss : List Stmt) → slice_get ws p ≡ Some (key k.Action) → slice_get ws (p + 1) ≡ Some (name x) → slice_get ws (p + 1 + 1) ≡ Some (key k.Open)
      → some_at ws (argument_at ws n) n (p + 1 + 1 + 1) ≡ Ok (ps, m) → slice_get ws m ≡ Some (key k.Close) → body_at ws n b (h - 2) (m + 1) ≡ Ok (ss, q) → action_at ws n b h p ≡ Ok (record { at = p; name = x; params = ps; body = stmts_from ss }, q)
  unfolding action_at
  action_is p m q x ps ss a c o r d s =
      goes_on _ _ (k.Action, p + 1) _ (expect_ok ws k.Action p a) (goes_on _ _ (x, p + 1 + 1) _ (named_ok ws n x (p + 1) c) (goes_on _ _ (k.Open, p + 1 + 1 + 1) _ (expect_ok ws k.Open (p + 1 + 1) o) (goes_on _ _ (ps, m) _ r
      (goes_on _ _ (k.Close, m + 1) _ (expect_ok ws k.Close m d) (goes_on _ _ (ss, q) _ s refl)))))

  action_is_read : {p : ℕ} {d : Action} {u : List Lexeme} → SpellsAction p d u → (q : ℕ) → Stands ws p u q → action_height d + 1 ≤ h → left b u ≡ Some b → length u < n → action_at ws n b h p ≡ Ok (d, q)
  action_is_read {p = p} (an_action {ps = ps} {ss = ss} {u = u} {v = v} x s r) q st low lv lt =
      let i = p + 1 + 1 + 1 in
      let m = i + length u in
      let sp = Stands-split ws i q u (key k.Close ∷ v) st.1.1.1 in
      let lo = opened b u v (even_arguments s) lv in
      let len = length-append u (key k.Close ∷ v) in
      action_is p m q x ps (stmts_in ss) st.0 st.1.0 st.1.1.0 (arguments_are_read s (b - 1) m sp.0 lo.1 (omega (arith, lt, len)) sp.1.0) sp.1.0
      (block_is_read ws n b r (h - 2) q sp.1.1 (omega (arith, low)) lo.2 (omega (arith, lt, len)))
      ∙ ap (λ z. Ok (record { at = p; name = x; params = ps; body = z }, q)) (stmts_from-stmts_in ss)

  -- ---- declarations

  by_action : (p : ℕ) (d : Action) (q : ℕ) → slice_get ws p ≡ Some (key k.Action) → action_at ws n b h p ≡ Ok (d, q) → local_at ws n b h p ≡ Ok (Some (local_action p d), q)
  unfolding local_at
  by_action p d q e r = rw e (goes_on _ _ (d, q) _ r refl)

  variable_is : (p i q : ℕ) (t : PTy) (x : List ℕ) (e : Option Expr) → var_from ws n b h t i ≡ Ok (record { ty = t; name = x; start = e }, q) → variable_at ws n b h p t i ≡ Ok (local_var p t x e, q)
  unfolding variable_at
  variable_is p i q t x e r = goes_on _ _ (record { ty = t; name = x; start = e }, q) _ r refl

  by_scalar : (p i q : ℕ) (t : PTy) (d : Local) → NoName ws p → scalar_at ws n p ≡ Ok (t, i) → variable_at ws n b h p t i ≡ Ok (d, q) → local_at ws n b h p ≡ Ok (Some d, q)
  unfolding local_at variable_or_apply_at
  by_scalar p i q t d f r s = rw (f.action, f.table, f.register, f.const_, f.none) (goes_on _ _ (t, i) _ r (goes_on _ _ (d, q) _ s refl))

  by_type_name : (p q : ℕ) (y : List ℕ) (d : Local) → slice_get ws p ≡ Some (name y) → same_text y apply_name ≡ false → variable_at ws n b h p (type.Named y) (p + 1) ≡ Ok (d, q) → local_at ws n b h p ≡ Ok (Some d, q)
  unfolding local_at variable_or_apply_at behind_name_at
  by_type_name p q y d w e s = rw w (goes_on _ _ (y, p + 1) _ (named_ok ws n y p w) (rw e (goes_on _ _ (d, q) _ s refl)))

  by_apply : (p : ℕ) → slice_get ws p ≡ Some (name apply_name) → local_at ws n b h p ≡ Ok (None, p + 1)
  unfolding local_at variable_or_apply_at behind_name_at
  by_apply p w = rw w (goes_on _ _ (apply_name, p + 1) _ (named_ok ws n apply_name p w) refl)

  table_opens : {p : ℕ} {d : Table} {u : List Lexeme} → SpellsTable p d u → (q : ℕ) → Stands ws p u q → slice_get ws p ≡ Some (key k.Table)
  table_opens (a_table x s o) q st = st.0

  register_opens : {p : ℕ} {d : Register} {u : List Lexeme} → types.SpellsRegister p d u → (q : ℕ) → Stands ws p u q → slice_get ws p ≡ Some (key k.Register)
  register_opens (types.a_register v x s) q st = st.0

  const_opens : {p : ℕ} {t : PTy} {x : List ℕ} {e : Expr} {u : List Lexeme} → SpellsConst p t x e u → (q : ℕ) → Stands ws p u q → slice_get ws p ≡ Some (key k.Const)
  const_opens (a_const x s r) q st = st.0

  action_opens : {p : ℕ} {d : Action} {u : List Lexeme} → SpellsAction p d u → (q : ℕ) → Stands ws p u q → slice_get ws p ≡ Some (key k.Action)
  action_opens (an_action x s r) q st = st.0

  local_is_read : {p : ℕ} {d : Local} {u : List Lexeme} → SpellsLocal p d u → (q : ℕ) → Stands ws p u q → local_height d ≤ h → left b u ≡ Some b → length u < n → local_at ws n b h p ≡ Ok (Some d, q)
  unfolding local_at
  local_is_read {p = p} (a_local_action {d = d} s) q st low lv lt = by_action p d q (action_opens s q st) (action_is_read s q st low lv lt)
  local_is_read {p = p} (a_local_table {d = d} s) q st low lv lt =
      rw (table_opens s q st) (goes_on _ _ (d, q) _ (table_is_read ws n b (h - 2) s q st (omega (arith, low)) lv lt) refl)
  local_is_read {p = p} (a_register {d = d} s) q st low lv lt = rw (register_opens s q st) (goes_on _ _ (d, q) _ (register_is_read ws n s q st) refl)
  local_is_read {p = p} (a_local_const {t = t} {x = x} {e = e} s) q st low lv lt =
      rw (const_opens s q st) (goes_on _ _ (record { ty = t; name = x; value = e }, q) _ (const_is_read ws n s h b q st low lv lt) refl)
  local_is_read {p = p} (a_local_var {t = t} {e = e} other (a_var {u = u} {v = v} x (a_scalar s) r)) q st low lv lt =
      let z = var_parts ws n p q h b t x e u v (a_scalar s) r st low lv lt in
      by_scalar p (p + length u) q t (local_var p t x e) (scalar_no_name s ws p (p + length u) z.stands) (scalar_read ws n s p (p + length u) z.stands (ap (at_key k.Less) z.named)) (variable_is p (p + length u) q t x e z.behind)
  local_is_read {p = p} (a_local_var {t = t} {e = e} other (a_var {u = u} {v = v} x (a_name y) r)) q st low lv lt =
      let z = var_parts ws n p q h b (type.Named y) x e (name y ∷ []) v (a_name y) r st low lv lt in
      by_type_name p q y (local_var p (type.Named y) x e) st.0 other (variable_is p (p + 1) q (type.Named y) x e z.behind)

  local_long : {p : ℕ} {d : Local} {u : List Lexeme} → SpellsLocal p d u → 1 ≤ length u
  local_long (a_local_action (an_action x s r)) = omega arith
  local_long (a_local_table (a_table x s o)) = omega arith
  local_long (a_register (types.a_register v x s)) = omega arith
  local_long (a_local_const (a_const x s r)) = omega arith
  local_long (a_local_var other (a_var {u = u} {v = v} x s r)) = omega (arith, length-append u (name x ∷ (v ++ key k.Semicolon ∷ [])))

  locals_step : (j : ℕ) (ds : List Local) (i : ℕ) → locals_at ws n b h (suc j) ds i ≡ (local_at ws n b h i >>= λ d. local_goes_on ws n b h ds d.1 d.0 (λ es. locals_at ws n b h j es d.1))
  unfolding locals_at
  locals_step j ds i = refl

  -- behind the declarations of front, in j turns
  locals_are_read : {p : ℕ} {ds : List Local} {u : List Lexeme} → SpellsEach SpellsLocal p ds u → (front : List Local) (j q : ℕ) → Stands ws p u q → highest local_height ds ≤ h → left b u ≡ Some b → length u < n → length u < j → slice_get ws q ≡ Some (name apply_name)
      → locals_at ws n b h j front p ≡ Ok (front ++ ds, q + 1)
  locals_are_read no_more front zero q st low lv lt lj end = absurd (omega (arith, lj))
  locals_are_read {p = p} no_more front (suc j) q st low lv lt lj end =
      let here : slice_get ws p ≡ Some (name apply_name) = ap (slice_get ws) st ∙ end in
      locals_step j front p ∙ goes_on _ _ (None, p + 1) _ (by_apply p here) (ap (λ i. Ok (front, i + 1)) st ∙ ap (λ z. Ok (z, q + 1)) (sym (append-nil front)))
  locals_are_read (one_more s r) front zero q st low lv lt lj end = absurd (omega (arith, lj))
  locals_are_read {p = p} (one_more {a = d} {rest = ds} {u = u} {v = v} s r) front (suc j) q st low lv lt lj end =
      let m = p + length u in
      let sp = Stands-split ws p q u v st in
      let lp = parted b b u v (even_local s) lv in
      let len = length-append u v in
      locals_step j front p ∙ goes_on _ _ (Some d, m) _ (local_is_read s m sp.0 (omega (arith, low)) lp.0 (omega (arith, lt, len)))
      (locals_are_read r (front ++ d ∷ []) j q sp.1 (omega (arith, low)) lp.1 (omega (arith, lt, len)) (omega (arith, lj, len, local_long s)) end ∙ ap (λ z. Ok (z, q + 1)) (append_assoc front (d ∷ []) ds))

  -- ---- controls

  control_is : (p m l q : ℕ) (x : List ℕ) (ps : List Param) (ds : List Local) (ss : List Stmt) → slice_get ws p ≡ Some (key k.Control) → slice_get ws (p + 1) ≡ Some (name x) → slice_get ws (p + 1 + 1) ≡ Some (key k.Open)
      → list_at ws (param_at ws n) n (p + 1 + 1 + 1) ≡ Ok (ps, m) → slice_get ws m ≡ Some (key k.Close) → slice_get ws (m + 1) ≡ Some (key k.BraceOpen) → locals_at ws n b h n [] (m + 1 + 1) ≡ Ok (ds, l) → body_at ws n b h l ≡ Ok (ss, q)
      → slice_get ws q ≡ Some (key k.BraceClose) → control_at ws n b h p ≡ Ok (record { at = p; name = x; params = ps; locals = ds; apply = stmts_from ss }, q + 1)
  unfolding control_at
  control_is p m l q x ps ds ss a c o r d e s t f =
      goes_on _ _ (k.Control, p + 1) _ (expect_ok ws k.Control p a) (goes_on _ _ (x, p + 1 + 1) _ (named_ok ws n x (p + 1) c) (goes_on _ _ (k.Open, p + 1 + 1 + 1) _ (expect_ok ws k.Open (p + 1 + 1) o) (goes_on _ _ (ps, m) _ r
      (goes_on _ _ (k.Close, m + 1) _ (expect_ok ws k.Close m d) (goes_on _ _ (k.BraceOpen, m + 1 + 1) _ (expect_ok ws k.BraceOpen (m + 1) e) (goes_on _ _ (ds, l) _ s (goes_on _ _ (ss, q) _ t
      (goes_on _ _ (k.BraceClose, q + 1) _ (expect_ok ws k.BraceClose q f) refl))))))))

  pub control_is_read : {p : ℕ} {d : Control} {u : List Lexeme} → SpellsControl p d u → (q : ℕ) → Stands ws p u q → control_height d ≤ h + 1 → left b u ≡ Some b → length u < n → control_at ws n b h p ≡ Ok (d, q)
  control_is_read {p = p} (a_control {ps = ps} {ds = ds} {ss = ss} {u = u} {v = v} {w = w} x s r t) q st low lv lt =
      let i = p + 1 + 1 + 1 in
      let m = i + length u in
      let l = m + 1 + 1 + length v in
      let z = l + 1 + length w in
      let end = w ++ key k.BraceClose ∷ [] in
      let rest = v ++ name apply_name ∷ end in
      let sp = Stands-split ws i q u (key k.Close ∷ key k.BraceOpen ∷ rest) st.1.1.1 in
      let sq = Stands-split ws (m + 1 + 1) q v (name apply_name ∷ end) sp.1.1.1 in
      let sr = Stands-split ws (l + 1) q w (key k.BraceClose ∷ []) sq.1.1 in
      let lo = opened b u (key k.BraceOpen ∷ rest) (even_params s) lv in
      let lq = parted b b v (name apply_name ∷ end) (even_locals r) lo.2 in
      let lr = parted b b w (key k.BraceClose ∷ []) (even_block t) lq.1 in
      let len = length-append u (key k.Close ∷ key k.BraceOpen ∷ rest) in
      let len' = length-append v (name apply_name ∷ end) in
      let len'' = length-append w (key k.BraceClose ∷ []) in
      control_is p m (l + 1) z x ps ds (stmts_in ss) st.0 st.1.0 st.1.1.0 (params_are_read ws n s (b - 1) m sp.0 lo.1 (omega (arith, lt, len)) sp.1.0) sp.1.0 sp.1.1.0
      (locals_are_read r [] n l sq.0 (omega (arith, low)) lq.0 (omega (arith, lt, len, len')) (omega (arith, lt, len, len')) sq.1.0)
      (block_is_read ws n b t h z sr.0 (omega (arith, low)) lr.0 (omega (arith, lt, len, len', len''))) sr.1.0
      ∙ ap (λ y. Ok (record { at = p; name = x; params = ps; locals = ds; apply = y }, z + 1)) (stmts_from-stmts_in ss)
      ∙ ap (λ j. Ok (record { at = p; name = x; params = ps; locals = ds; apply = ss }, j)) sr.1.1
