-- In a program in which no name is taken all names are old, for any old names that are not taken.
use Rattle.std.proofs.Common.{codes, ◌≡◌, ℕ, List, [], ◌∷◌, ◌++◌, Bool, true, false, cond, Option, Some, None, refl}
use Rattle.p4_tree.specs.Tree.{Expr, num, flag, path, valid, applied, error_name, negation, inversion, opposite, binary, conditional, slice, cast, Arg, one, many, Stmt, Stmts, MaybeStmt, nothing, block, var, assign, choice, return_, exit_, call, done, next, stmts_from, without, otherwise, Keyset, any, only, masked, Case, Transition, nowhere, to, select, ParserState, Local, local_action, local_table, local_register, local_const, local_var, Top, constant, typedef, header_type, struct_type, register, parser, control}
use Rattle.p4_tree.specs.declared.statement.PTy.{PTy}
use Rattle.p4_tree.specs.declared.statement.PTy.TheVariants as type
use Rattle.p4_tree.specs.declared.program.Param.{Param}
use Rattle.p4_rule_laws.specs.Old.{OldPath, OldType, OldFields, OldExpr, OldExprs, OldStart, OldArg, OldArgs, OldStmt, OldStmts, OldElse}
use Rattle.p4_rule_laws.specs.OldPrograms.{OldKeys, OldDefault, OldWays, OldKeyset, OldKeysets, OldCases, OldTransition, OldStates, OldLocal, OldLocals, OldTop, OldTops}
use Rattle.link_faults.specs.WrittenNames.{Names, names_of_type, names_of_expr, names_of_exprs, names_of_start, receiver_names, names_of_arg, names_of_args, names_of_stmt, names_of_stmts, names_of_else, names_of_fields, names_of_params, names_of_keyset, names_of_keysets, names_of_cases, names_of_transition, names_of_states, names_of_keys, names_of_default, names_of_local, names_of_locals, names_of_top, names_of_tops, is_taken, first_taken}

abbrev pub IsFree : Names → Type 0
IsFree xs = first_taken xs ≡ None

pub none_found : {A : Type 0} (x : List ℕ) → Some x ≡ None → A
none_found x e = absurd (cc e)

pub free_item : (x : List ℕ) (xs : Names) → IsFree (x ∷ xs) → (is_taken x ≡ false) × IsFree xs
free_item x xs h = go (is_taken x) h
  where
    go : (b : Bool) → cond b (Some x) (first_taken xs) ≡ None → (b ≡ false) × IsFree xs
    go true k = none_found x k
    go false k = (refl, k)

pub split : (xs ys : Names) → IsFree (xs ++ ys) → IsFree xs × IsFree ys
split [] ys h = (refl, h)
split (x ∷ xs) ys h = go (is_taken x) h (split xs ys)
  where
    go : (b : Bool) → cond b (Some x) (first_taken (xs ++ ys)) ≡ None → (IsFree (xs ++ ys) → IsFree xs × IsFree ys) → (cond b (Some x) (first_taken xs) ≡ None) × IsFree ys
    go true k more = none_found x k
    go false k more = more k

module _ (old : List ℕ → Bool) (untaken : (x : List ℕ) → is_taken x ≡ false → old x ≡ true) where
  item : (x : List ℕ) (xs : Names) → IsFree (x ∷ xs) → (old x ≡ true) × IsFree xs
  item x xs h = (let i = free_item x xs h in (untaken x i.0, i.1))

  pub names_free : (xs : Names) → IsFree xs → OldPath old xs
  names_free [] h = tt
  names_free (x ∷ xs) h = (let i = item x xs h in (i.0, names_free xs i.1))

  only_name : (x : List ℕ) → IsFree (x ∷ []) → old x ≡ true
  only_name x h = (item x [] h).0

  pub type_free : (t : PTy) → IsFree (names_of_type t) → OldType old t
  type_free (type.Bit w) h = tt
  type_free type.Bool h = tt
  type_free (type.Named x) h = only_name x h

  pub expr_free : (e : Expr) → IsFree (names_of_expr e) → OldExpr old e
  expr_free (num p n) h = tt
  expr_free (flag p b) h = tt
  expr_free (path p x) h = names_free x h
  expr_free (valid p x) h = names_free x h
  expr_free (applied p t b) h = only_name t h
  expr_free (error_name p x) h = tt
  expr_free (negation p a) h = expr_free a h
  expr_free (inversion p a) h = expr_free a h
  expr_free (opposite p a) h = expr_free a h
  expr_free (binary p op a b) h = (let s = split (names_of_expr a) (names_of_expr b) h in (expr_free a s.0, expr_free b s.1))
  expr_free (conditional p t a b) h = (let s = split (names_of_expr t) (names_of_expr a ++ names_of_expr b) h in let r = split (names_of_expr a) (names_of_expr b) s.1 in (expr_free t s.0, expr_free a r.0, expr_free b r.1))
  expr_free (slice p a x y) h = expr_free a h
  expr_free (cast p t a) h = expr_free a (split (names_of_type t) (names_of_expr a) h).1

  pub exprs_free : (es : List Expr) → IsFree (names_of_exprs es) → OldExprs old es
  exprs_free [] h = tt
  exprs_free (e ∷ es) h = (let s = split (names_of_expr e) (names_of_exprs es) h in (expr_free e s.0, exprs_free es s.1))

  pub start_free : (e : Option Expr) → IsFree (names_of_start e) → OldStart old e
  start_free None h = tt
  start_free (Some e) h = expr_free e h

  pub arg_free : (a : Arg) → IsFree (names_of_arg a) → OldArg old a
  arg_free (one p e) h = expr_free e h
  arg_free (many p es) h = exprs_free es h

  pub args_free : (xs : List Arg) → IsFree (names_of_args xs) → OldArgs old xs
  args_free [] h = tt
  args_free (a ∷ xs) h = (let s = split (names_of_arg a) (names_of_args xs) h in (arg_free a s.0, args_free xs s.1))

  mutual
    stmt_free : (c : Stmt) → IsFree (names_of_stmt c) → OldStmt old c
    stmt_free (nothing p) h = tt
    stmt_free (block p ss) h = stmts_free ss h
    stmt_free (var p t x e) h = (let s = split (names_of_type t) (x ∷ names_of_start e) h in let i = item x (names_of_start e) s.1 in (type_free t s.0, i.0, start_free e i.1))
    stmt_free (assign p x e) h = (let s = split x (names_of_expr e) h in (names_free x s.0, expr_free e s.1))
    stmt_free (choice p e a b) h = (let s = split (names_of_expr e) (names_of_stmt a ++ names_of_else b) h in let r = split (names_of_stmt a) (names_of_else b) s.1 in (expr_free e s.0, stmt_free a r.0, else_free b r.1))
    stmt_free (return_ p) h = tt
    stmt_free (exit_ p) h = tt
    stmt_free (call p x xs) h = (let s = split x (receiver_names x xs ++ names_of_args xs) h in (names_free x s.0, args_free xs (split (receiver_names x xs) (names_of_args xs) s.1).1))

    else_free : (c : MaybeStmt) → IsFree (names_of_else c) → OldElse old c
    else_free without h = tt
    else_free (otherwise c) h = stmt_free c h

    stmts_free : (ss : Stmts) → IsFree (names_of_stmts ss) → OldStmts old ss
    stmts_free done h = tt
    stmts_free (next c ss) h = (let s = split (names_of_stmt c) (names_of_stmts ss) h in (stmt_free c s.0, stmts_free ss s.1))

  pub fields_free : (fs : List (PTy × List ℕ)) → IsFree (names_of_fields fs) → OldFields old fs
  fields_free [] h = tt
  fields_free (f ∷ fs) h = (let s = split (names_of_type f.0) (f.1 ∷ names_of_fields fs) h in let i = item f.1 (names_of_fields fs) s.1 in (type_free f.0 s.0, i.0, fields_free fs i.1))

  pub ways_free : (qs : List Param) → IsFree (names_of_params qs) → OldWays old qs
  ways_free [] h = tt
  ways_free (q ∷ qs) h = (let s = split (names_of_type q.ty) (q.name ∷ names_of_params qs) h in let i = item q.name (names_of_params qs) s.1 in (type_free q.ty s.0, i.0, ways_free qs i.1))

  pub keyset_free : (k : Keyset) → IsFree (names_of_keyset k) → OldKeyset old k
  keyset_free (any p) h = tt
  keyset_free (only p e) h = expr_free e h
  keyset_free (masked p e m) h = (let s = split (names_of_expr e) (names_of_expr m) h in (expr_free e s.0, expr_free m s.1))

  pub keysets_free : (ks : List Keyset) → IsFree (names_of_keysets ks) → OldKeysets old ks
  keysets_free [] h = tt
  keysets_free (k ∷ ks) h = (let s = split (names_of_keyset k) (names_of_keysets ks) h in (keyset_free k s.0, keysets_free ks s.1))

  pub cases_free : (cs : List Case) → IsFree (names_of_cases cs) → OldCases old cs
  cases_free [] h = tt
  cases_free (c ∷ cs) h = (let s = split (names_of_keysets c.keys) (c.next ∷ names_of_cases cs) h in let i = item c.next (names_of_cases cs) s.1 in (keysets_free c.keys s.0, i.0, cases_free cs i.1))

  pub transition_free : (t : Transition) → IsFree (names_of_transition t) → OldTransition old t
  transition_free (nowhere p) h = tt
  transition_free (to p x) h = only_name x h
  transition_free (select p es cs) h = (let s = split (names_of_exprs es) (names_of_cases cs) h in (exprs_free es s.0, cases_free cs s.1))

  pub states_free : (sts : List ParserState) → IsFree (names_of_states sts) → OldStates old sts
  states_free [] h = tt
  states_free (st ∷ sts) h =
      (let i = item st.name (names_of_stmts (stmts_from st.body) ++ (names_of_transition st.next ++ names_of_states sts)) h in
      let s = split (names_of_stmts (stmts_from st.body)) (names_of_transition st.next ++ names_of_states sts) i.1 in
      let r = split (names_of_transition st.next) (names_of_states sts) s.1 in
      (i.0, stmts_free (stmts_from st.body) s.0, transition_free st.next r.0, states_free sts r.1))

  pub keys_free : (ks : List (Expr × List ℕ)) → IsFree (names_of_keys ks) → OldKeys old ks
  keys_free [] h = tt
  keys_free (k ∷ ks) h = (let s = split (names_of_expr k.0) (k.1 ∷ names_of_keys ks) h in (expr_free k.0 s.0, keys_free ks (item k.1 (names_of_keys ks) s.1).1))

  pub default_free : (d : Option (List ℕ × List Expr)) → IsFree (names_of_default d) → OldDefault old d
  default_free None h = tt
  default_free (Some d) h = (let i = item d.0 (names_of_exprs d.1) h in (i.0, exprs_free d.1 i.1))

  pub local_free : (l : Local) → IsFree (names_of_local l) → OldLocal old l
  local_free (local_action p a) h = (let i = item a.name (names_of_fields a.params ++ names_of_stmts a.body) h in let s = split (names_of_fields a.params) (names_of_stmts a.body) i.1 in (i.0, fields_free a.params s.0, stmts_free a.body s.1))
  local_free (local_table p t) h =
      (let i = item t.name (names_of_keys t.keys ++ (t.actions ++ names_of_default t.default)) h in
      let s = split (names_of_keys t.keys) (t.actions ++ names_of_default t.default) i.1 in
      let r = split t.actions (names_of_default t.default) s.1 in
      record { name = i.0; keys = keys_free t.keys s.0; actions = names_free t.actions r.0; default = default_free t.default r.1 })
  local_free (local_register p r) h = (let s = split (names_of_type r.ty) (r.name ∷ []) h in (only_name r.name s.1, type_free r.ty s.0))
  local_free (local_const p t x e) h = (let s = split (names_of_type t) (x ∷ names_of_expr e) h in let i = item x (names_of_expr e) s.1 in (type_free t s.0, i.0, expr_free e i.1))
  local_free (local_var p t x e) h = (let s = split (names_of_type t) (x ∷ names_of_start e) h in let i = item x (names_of_start e) s.1 in (type_free t s.0, i.0, start_free e i.1))

  pub locals_free : (ls : List Local) → IsFree (names_of_locals ls) → OldLocals old ls
  locals_free [] h = tt
  locals_free (l ∷ ls) h = (let s = split (names_of_local l) (names_of_locals ls) h in (local_free l s.0, locals_free ls s.1))

  pub top_free : (t : Top) → IsFree (names_of_top t) → OldTop old t
  top_free (constant p t x e) h = (let s = split (names_of_type t) (x ∷ names_of_expr e) h in let i = item x (names_of_expr e) s.1 in (type_free t s.0, i.0, expr_free e i.1))
  top_free (typedef p t x) h = (let s = split (names_of_type t) (x ∷ []) h in (type_free t s.0, only_name x s.1))
  top_free (header_type p x fs) h = (let i = item x (names_of_fields fs) h in (i.0, fields_free fs i.1))
  top_free (struct_type p x fs) h = (let i = item x (names_of_fields fs) h in (i.0, fields_free fs i.1))
  top_free (register p r) h = (let s = split (names_of_type r.ty) (r.name ∷ []) h in (only_name r.name s.1, type_free r.ty s.0))
  top_free (parser p d) h =
      (let i = item d.name (names_of_params d.params ++ names_of_states d.states) h in
      let s = split (names_of_params d.params) (names_of_states d.states) i.1 in
      record { name = i.0; params = ways_free d.params s.0; states = states_free d.states s.1; start = untaken (codes "start") refl })
  top_free (control p c) h =
      (let i = item c.name (names_of_params c.params ++ (names_of_locals c.locals ++ names_of_stmts c.apply)) h in
      let s = split (names_of_params c.params) (names_of_locals c.locals ++ names_of_stmts c.apply) i.1 in
      let r = split (names_of_locals c.locals) (names_of_stmts c.apply) s.1 in
      record { name = i.0; params = ways_free c.params s.0; locals = locals_free c.locals r.0; apply = stmts_free c.apply r.1 })

  pub tops_free : (ts : List Top) → IsFree (names_of_tops ts) → OldTops old ts
  tops_free [] h = tt
  tops_free (t ∷ ts) h = (let s = split (names_of_top t) (names_of_tops ts) h in (top_free t s.0, tops_free ts s.1))
