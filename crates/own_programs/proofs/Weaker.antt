-- A tree whose names pass a test passes each weaker test.
use Rattle.std.proofs.Common.{◌≡◌, ℕ, List, [], ◌∷◌, true, codes, Option, Some, None}
use Rattle.p4_tree.specs.Tree.{Expr, num, flag, path, valid, applied, error_name, negation, inversion, opposite, binary, conditional, slice, cast, Arg, one, many, Stmt, Stmts, MaybeStmt, nothing, block, var, assign, choice, return_, exit_, call, done, next, without, otherwise, stmts_from, Keyset, any, only, masked, Case, Transition, nowhere, to, select, ParserState, Local, local_action, local_table, local_register, local_const, local_var, Parser}
use Rattle.p4_tree.specs.declared.statement.PTy.{PTy}
use Rattle.p4_tree.specs.declared.statement.PTy.TheVariants as type
use Rattle.p4_tree.specs.declared.program.Param.{Param}
use Rattle.p4_rule_laws.specs.Old.{Names, OldPath, OldType, OldFields, OldExpr, OldExprs, OldStart, OldArg, OldArgs, OldStmt, OldStmts, OldElse}
use Rattle.p4_rule_laws.specs.OldPrograms.{OldKeys, OldDefault, OldWays, OldKeyset, OldKeysets, OldCases, OldTransition, OldStates, OldParser, OldLocal}

module _ (old more : Names) (weaker : (x : List ℕ) → old x ≡ true → more x ≡ true) where
  pub path_more : (x : List (List ℕ)) → OldPath old x → OldPath more x
  path_more [] o = tt
  path_more (x ∷ xs) o = (weaker x o.0, path_more xs o.1)

  pub type_more : (t : PTy) → OldType old t → OldType more t
  type_more (type.Bit w) o = tt
  type_more type.Bool o = tt
  type_more (type.Named t) o = weaker t o

  pub fields_more : (fs : List (PTy × List ℕ)) → OldFields old fs → OldFields more fs
  fields_more [] o = tt
  fields_more (f ∷ fs) o = (type_more f.0 o.0, weaker f.1 o.1, fields_more fs o.2)

  pub expr_more : (e : Expr) → OldExpr old e → OldExpr more e
  expr_more (num p n) o = tt
  expr_more (flag p b) o = tt
  expr_more (path p x) o = path_more x o
  expr_more (valid p x) o = path_more x o
  expr_more (applied p t h) o = weaker t o
  expr_more (error_name p x) o = tt
  expr_more (negation p a) o = expr_more a o
  expr_more (inversion p a) o = expr_more a o
  expr_more (opposite p a) o = expr_more a o
  expr_more (binary p op a b) o = (expr_more a o.0, expr_more b o.1)
  expr_more (conditional p c a b) o = (expr_more c o.0, expr_more a o.1, expr_more b o.2)
  expr_more (slice p a h l) o = expr_more a o
  expr_more (cast p t a) o = expr_more a o

  exprs_more : (es : List Expr) → OldExprs old es → OldExprs more es
  exprs_more [] o = tt
  exprs_more (e ∷ es) o = (expr_more e o.0, exprs_more es o.1)

  pub start_more : (e : Option Expr) → OldStart old e → OldStart more e
  start_more None o = tt
  start_more (Some e) o = expr_more e o

  arg_more : (a : Arg) → OldArg old a → OldArg more a
  arg_more (one p e) o = expr_more e o
  arg_more (many p es) o = exprs_more es o

  pub args_more : (args : List Arg) → OldArgs old args → OldArgs more args
  args_more [] o = tt
  args_more (a ∷ args) o = (arg_more a o.0, args_more args o.1)

  -- ---- statements

  mutual
    stmt_more : (c : Stmt) → OldStmt old c → OldStmt more c
    stmt_more (nothing p) o = tt
    stmt_more (block p b) o = stmts_more b o
    stmt_more (var p t x e) o = (type_more t o.0, weaker x o.1, start_more e o.2)
    stmt_more (assign p x e) o = (path_more x o.0, expr_more e o.1)
    stmt_more (choice p e a b) o = (expr_more e o.0, stmt_more a o.1, else_more b o.2)
    stmt_more (return_ p) o = tt
    stmt_more (exit_ p) o = tt
    stmt_more (call p x args) o = (path_more x o.0, args_more args o.1)

    else_more : (c : MaybeStmt) → OldElse old c → OldElse more c
    else_more without o = tt
    else_more (otherwise c) o = stmt_more c o

    pub stmts_more : (b : Stmts) → OldStmts old b → OldStmts more b
    stmts_more done o = tt
    stmts_more (next c b) o = (stmt_more c o.0, stmts_more b o.1)

  -- ---- tables

  keys_more : (ks : List (Expr × List ℕ)) → OldKeys old ks → OldKeys more ks
  keys_more [] o = tt
  keys_more (k ∷ ks) o = (expr_more k.0 o.0, keys_more ks o.1)

  default_more : (d : Option (List ℕ × List Expr)) → OldDefault old d → OldDefault more d
  default_more None o = tt
  default_more (Some d) o = (weaker d.0 o.0, exprs_more d.1 o.1)

  -- ---- declarations of controls

  pub local_more : (l : Local) → OldLocal old l → OldLocal more l
  local_more (local_action p a) o = (weaker a.name o.0, fields_more a.params o.1, stmts_more a.body o.2)
  local_more (local_table p t) o = record { name = weaker t.name o.name; keys = keys_more t.keys o.keys; actions = path_more t.actions o.actions; default = default_more t.default o.default }
  local_more (local_register p r) o = (weaker r.name o.0, type_more r.ty o.1)
  local_more (local_const p t x e) o = (type_more t o.0, weaker x o.1, expr_more e o.2)
  local_more (local_var p t x e) o = (type_more t o.0, weaker x o.1, start_more e o.2)

  -- ---- parsers

  pub ways_more : (qs : List Param) → OldWays old qs → OldWays more qs
  ways_more [] o = tt
  ways_more (q ∷ qs) o = (type_more q.ty o.0, weaker q.name o.1, ways_more qs o.2)

  keyset_more : (k : Keyset) → OldKeyset old k → OldKeyset more k
  keyset_more (any p) o = tt
  keyset_more (only p e) o = expr_more e o
  keyset_more (masked p e m) o = (expr_more e o.0, expr_more m o.1)

  keysets_more : (ks : List Keyset) → OldKeysets old ks → OldKeysets more ks
  keysets_more [] o = tt
  keysets_more (k ∷ ks) o = (keyset_more k o.0, keysets_more ks o.1)

  cases_more : (cs : List Case) → OldCases old cs → OldCases more cs
  cases_more [] o = tt
  cases_more (c ∷ cs) o = (keysets_more c.keys o.0, weaker c.next o.1, cases_more cs o.2)

  transition_more : (t : Transition) → OldTransition old t → OldTransition more t
  transition_more (nowhere p) o = tt
  transition_more (to p x) o = weaker x o
  transition_more (select p es cs) o = (exprs_more es o.0, cases_more cs o.1)

  states_more : (sts : List ParserState) → OldStates old sts → OldStates more sts
  states_more [] o = tt
  states_more (st ∷ sts) o = (weaker st.name o.0, stmts_more (stmts_from st.body) o.1, transition_more st.next o.2, states_more sts o.3)

  pub parser_more : (d : Parser) → OldParser old d → OldParser more d
  parser_more d o = record { name = weaker d.name o.name; params = ways_more d.params o.params; states = states_more d.states o.states; start = weaker (codes "start") o.start }
