-- The deparser of a linked program, and the controls of checksums.
use Rattle.std.proofs.Common.{codes, ◌≡◌, ◌⊎◌, inl, inr, ℕ, List, [], ◌∷◌, map, Bool, true, false, cond, not, ◌&&◌, Option, Some, None, refl, sym, ap, ap₂, ◌∙◌, subst}
use Rattle.std.specs.Option.{option_map}
use Rattle.lex_text.specs.Names.{same_text}
use Rattle.rule_tests.specs.Tests.{IsFine, both}
use Rattle.p4_tree.specs.Tree.{Expr, num, flag, path, valid, applied, error_name, negation, inversion, opposite, binary, conditional, slice, cast, Arg, one, many, Stmt, Stmts, nothing, block, var, assign, choice, return_, exit_, call, done, next, without, otherwise, Local, Control}
use Rattle.p4_meaning.specs.Scope.{Roots, param_at, param_name}
use Rattle.p4_scopes.specs.Scopes.{Stands, held, is_missing, Scope}
use Rattle.p4_scopes.specs.Uses.{holds_header}
use Rattle.p4_scopes.specs.declared.thing.Thing.TheVariants.{Header, PacketOut}
use Rattle.p4_scopes.specs.declared.thing.Access.{Access}
use Rattle.p4_statement_rules.specs.Forms.{takes_call, verb_form}
use Rattle.p4_statement_rules.specs.Calls.{form_tests}
use Rattle.p4_statement_rules.specs.Statements.{stands_tests}
use Rattle.p4_statement_rules.specs.declared.rule.Part.{Part}
use Rattle.p4_statement_rules.specs.declared.rule.Part.TheVariants as place
use Rattle.p4_declaration_rules.specs.Parsers.{with_ways}
use Rattle.p4_declaration_rules.specs.Controls.{after_local, in_control, control_tests, form_emits}
use Rattle.p4_printer.specs.CanSpell.{IsName, EachCan, SomeCan, MayCan, CanSpellPath, CanSpellExpr, CanSpellArg, IsVar, CanSpellStmt, CanSpellStmts}
use Rattle.p4_rule_laws.specs.Old.{OldPath, Alike}
use Rattle.p4_rule_laws.specs.OldPrograms.{OldLocals, OldControl}
use Rattle.p4_rule_laws.specs.Kept.{Keeps}
use Rattle.p4_rule_laws.specs.Growth.{BodyGrows, LocalsGrow, no_local, same_local, control_with}
use Rattle.p4_rule_laws.proofs.BodiesGrow.{emitted_body}
use Rattle.p4_rule_laws.proofs.GrowthLemmas.{same_params, control_grows}
use Rattle.own_programs.specs.OwnPrograms.{is_own}
use Rattle.own_programs.proofs.Names.{broken}
use Rattle.linked_programs.specs.Rewritten.{is_length, length_at, path_with, expr_with, arg_with, stmt_with, stmts_with}
use Rattle.linked_programs.specs.Linked.{tele_name, emit_call}

-- ---- own declarations as they are

pub locals_same : (h : Part) (v s t : Scope) (ls : List Local) → OldLocals is_own ls → LocalsGrow is_own h v s t ls ls
locals_same h v s t [] o = no_local
locals_same h v s t (l ∷ ls) o = same_local l o.0 (locals_same h v (after_local s l) (after_local t l) ls o.1)

-- ---- the deparser

module _ (s t : Scope) (c : Control) (o : OldControl is_own c) (alike : Alike is_own s t) where
  abbrev v : Scope
  v = with_ways t c.params

  abbrev pk : List ℕ
  pk = param_name (param_at c.params 0)

  abbrev hd : List ℕ
  hd = param_name (param_at c.params 1)

  not_old : OldPath is_own (hd ∷ tele_name ∷ []) → ⊥
  not_old p = broken (sym p.1.0)

  abbrev args : List Arg
  args = one 0 (path 0 (hd ∷ tele_name ∷ [])) ∷ []

  pub deparser_grows :
      (a b : Access) (bits : ℕ) → v (pk ∷ []) ≡ held a PacketOut → is_missing (v (hd ∷ [])) ≡ false → v (hd ∷ tele_name ∷ []) ≡ held b (Header bits) → IsFine (control_tests place.Deparser s c)
      → IsFine (control_tests place.Deparser t (control_with c c.params c.locals (next (emit_call c) c.apply)))
  deparser_grows a b bits out there header f =
      control_grows is_own place.Deparser s t c c.params c.locals (next (emit_call c) c.apply) o.name (same_params is_own s t c.params o.params) (locals_same place.Deparser v (with_ways s c.params) v c.locals o.locals) (λ k. body k) alike f
    where
      z : Scope
      z = in_control t (control_with c c.params c.locals (next (emit_call c) c.apply))

      body : Keeps v (in_control t (control_with c c.params c.locals (next (emit_call c) c.apply))) → BodyGrows is_own place.Deparser (in_control s c) (in_control t (control_with c c.params c.locals (next (emit_call c) c.apply))) c.apply (next (emit_call c) c.apply)
      body k =
          (let out_z : in_control t (control_with c c.params c.locals (next (emit_call c) c.apply)) (pk ∷ []) ≡ held a PacketOut = k.kept pk [] (ap is_missing out) ∙ out in
          let head_z : in_control t (control_with c c.params c.locals (next (emit_call c) c.apply)) (hd ∷ tele_name ∷ []) ≡ held b (Header bits) = k.kept hd (tele_name ∷ []) there ∙ header in
          emitted_body is_own (in_control s c) (in_control t (control_with c c.params c.locals (next (emit_call c) c.apply))) 0 (pk ∷ codes "emit" ∷ []) args (hd ∷ tele_name ∷ []) c.apply o.apply
          (subst (λ (st : Stands). IsFine (both (stands_tests 0 (takes_call place.Deparser (verb_form st (codes "emit")))) (form_tests 0 (in_control t (control_with c c.params c.locals (next (emit_call c) c.apply))) (verb_form st (codes "emit")) args))) (sym out_z)
          (refl, (ap is_missing head_z, ap (λ (st : Stands). not (holds_header st)) head_z)))
          (ap (λ (st : Stands). form_emits (verb_form st (codes "emit")) args) out_z)
          not_old)

-- ---- checksums: nothing in them reads the packet's length, which no parameter names

module _ (r : Roots) (none : r.standard ≡ []) where
  named : (x : List ℕ) → IsName x → same_text [] x ≡ false
  named [] n = broken (sym n.0)
  named (b ∷ bs) n = refl

  not_length : (x : List (List ℕ)) → CanSpellPath x → is_length r x ≡ false
  not_length [] h = refl
  not_length (x ∷ []) h = refl
  not_length (x ∷ y ∷ []) h = ap (λ (z : List ℕ). same_text z x && same_text (codes "packet_length") y) none ∙ ap (λ (b : Bool). b && same_text (codes "packet_length") y) (named x h.0)
  not_length (x ∷ y ∷ z ∷ rest) h = refl

  path_none : (x : List (List ℕ)) → CanSpellPath x → path_with r x ≡ x
  path_none x h = ap (λ (b : Bool). cond b (length_at r) x) (not_length x h)

  expr_none : (e : Expr) → CanSpellExpr e → expr_with r e ≡ e
  expr_none (num p n) h = refl
  expr_none (flag p b) h = refl
  expr_none (path p x) h = ap (path p) (path_none x h)
  expr_none (valid p x) h = refl
  expr_none (applied p t b) h = refl
  expr_none (error_name p x) h = refl
  expr_none (negation p a) h = ap (negation p) (expr_none a h)
  expr_none (inversion p a) h = ap (inversion p) (expr_none a h)
  expr_none (opposite p a) h = ap (opposite p) (expr_none a h)
  expr_none (binary p op a b) h = ap₂ (binary p op) (expr_none a h.0) (expr_none b h.1)
  expr_none (conditional p t a b) h = λ i. conditional p (expr_none t h.0 i) (expr_none a h.1 i) (expr_none b h.2 i)
  expr_none (slice p a hi lo) h = ap (λ (z : Expr). slice p z hi lo) (expr_none a h.0)
  expr_none (cast p ty a) h = ap (cast p ty) (expr_none a h.1)

  each_none : (es : List Expr) → EachCan CanSpellExpr es → map (expr_with r) es ≡ es
  each_none [] h = refl
  each_none (e ∷ es) h = ap₂ (λ (x : Expr) (xs : List Expr). x ∷ xs) (expr_none e h.0) (each_none es h.1)

  some_none : (es : List Expr) → SomeCan CanSpellExpr es → map (expr_with r) es ≡ es
  some_none [] h = refl
  some_none (e ∷ es) h = ap₂ (λ (x : Expr) (xs : List Expr). x ∷ xs) (expr_none e h.0) (each_none es h.1)

  start_none : (e : Option Expr) → MayCan CanSpellExpr e → option_map (expr_with r) e ≡ e
  start_none None h = refl
  start_none (Some e) h = ap Some (expr_none e h)

  arg_none : (a : Arg) → CanSpellArg a → arg_with r a ≡ a
  arg_none (one p e) h = ap (one p) (expr_none e h)
  arg_none (many p es) h = ap (many p) (some_none es h)

  args_none : (xs : List Arg) → EachCan CanSpellArg xs → map (arg_with r) xs ≡ xs
  args_none [] h = refl
  args_none (a ∷ xs) h = ap₂ (λ (x : Arg) (ys : List Arg). x ∷ ys) (arg_none a h.0) (args_none xs h.1)

  var_none : (s : Stmt) → IsVar s → stmt_with r s ≡ s
  var_none (var p t x e) h = ap (var p t x) (start_none e h.2)
  var_none (nothing p) h = absurd h
  var_none (block p ss) h = absurd h
  var_none (assign p x e) h = absurd h
  var_none (choice p e a b) h = absurd h
  var_none (return_ p) h = absurd h
  var_none (exit_ p) h = absurd h
  var_none (call p x xs) h = absurd h

  item_none : (s : Stmt) → CanSpellStmt false s ⊎ IsVar s → (CanSpellStmt false s → stmt_with r s ≡ s) → stmt_with r s ≡ s
  item_none s (inl h) k = k h
  item_none s (inr h) k = var_none s h

  mutual
    stmt_none : (c : Bool) (s : Stmt) → CanSpellStmt c s → stmt_with r s ≡ s
    stmt_none c (nothing p) h = refl
    stmt_none c (block p ss) h = ap (block p) (stmts_none ss h)
    stmt_none c (var p t x e) h = absurd h
    stmt_none c (assign p x e) h = ap (assign p x) (expr_none e h.1)
    stmt_none c (choice p e a without) h = ap₂ (λ (x : Expr) (y : Stmt). choice p x y without) (expr_none e h.0) (stmt_none false a h.1)
    stmt_none c (choice p e a (otherwise b)) h = λ i. choice p (expr_none e h.0 i) (stmt_none true a h.1 i) (otherwise (stmt_none c b h.2 i))
    stmt_none c (return_ p) h = refl
    stmt_none c (exit_ p) h = refl
    stmt_none c (call p x xs) h = ap (call p x) (args_none xs h.1)

    pub stmts_none : (ss : Stmts) → CanSpellStmts ss → stmts_with r ss ≡ ss
    stmts_none done h = refl
    stmts_none (next s ss) h = ap₂ next (item_none s h.0 (λ k. stmt_none false s k)) (stmts_none ss h.1)
