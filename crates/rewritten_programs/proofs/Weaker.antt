-- What holds of a program for one relation of expressions holds for each weaker one.
use Rattle.std.proofs.Common.{ℕ, List, [], ◌∷◌, Bool, Option}
use Rattle.std.specs.List.{AllZip}
use Rattle.p4_tree.specs.Tree.{Expr, Arg, Stmt, Stmts, MaybeStmt, Action, Table, Local, Control, Top, Program}
use Rattle.rewritten_programs.specs.Rewritten.{ArgRewritten, in_one, in_many, no_value, ArgsRewritten, no_args, arg_then, StartRewritten, no_start, in_start, TestRewritten, outcome, in_test, StmtRewritten, lone, returns, exits, in_block, in_var, in_assign, in_choice, in_call, ElseRewritten, no_else, in_else, BlockRewritten, none_left, first_then, ActionRewritten, KeyRewritten, TableRewritten, LocalRewritten, in_action, in_table, local_register_stays, local_const_stays, in_local_var, ControlRewritten, TopRewritten, constant_stays, typedef_stays, header_stays, struct_stays, register_stays, parser_stays, in_control, ProgramRewritten}

all_weaker : {A : Type 0} (R S : A → A → Type 0) → ((x y : A) → R x y → S x y) → (xs ys : List A) → AllZip R xs ys → AllZip S xs ys
all_weaker R S w [] [] h = h
all_weaker R S w [] (y ∷ ys) h = absurd h
all_weaker R S w (x ∷ xs) [] h = absurd h
all_weaker R S w (x ∷ xs) (y ∷ ys) h = (w x y h.0, all_weaker R S w xs ys h.1)

module _ (E F : Expr → Expr → Type 0) (w : (e f : Expr) → E e f → F e f) where
  arg : {v : Bool} {a b : Arg} → ArgRewritten E v a b → ArgRewritten F v a b
  arg (in_one {e = e} {f = f} p r) = in_one p (w e f r)
  arg (in_many {es = es} {fs = fs} p r) = in_many p (all_weaker E F w es fs r)
  arg (no_value a) = no_value a

  args : {v : ℕ → Bool} {n : ℕ} {xs ys : List Arg} → ArgsRewritten E v n xs ys → ArgsRewritten F v n xs ys
  args (no_args n) = no_args n
  args (arg_then n r q) = arg_then n (arg r) (args q)

  start : {d e : Option Expr} → StartRewritten E d e → StartRewritten F d e
  start no_start = no_start
  start (in_start {e = e} {f = f} r) = in_start (w e f r)

  test : {e f : Expr} → TestRewritten E e f → TestRewritten F e f
  test (outcome h) = outcome h
  test (in_test {e = e} {f = f} h r) = in_test h (w e f r)

  mutual
    stmt : {c d : Stmt} → StmtRewritten E c d → StmtRewritten F c d
    stmt (lone p) = lone p
    stmt (returns p) = returns p
    stmt (exits p) = exits p
    stmt (in_block p r) = in_block p (block r)
    stmt (in_var p t x r) = in_var p t x (start r)
    stmt (in_assign {e = e} {f = f} p x r) = in_assign p x (w e f r)
    stmt (in_choice p r a b) = in_choice p (test r) (stmt a) (other b)
    stmt (in_call p x r) = in_call p x (args r)

    other : {c d : MaybeStmt} → ElseRewritten E c d → ElseRewritten F c d
    other no_else = no_else
    other (in_else r) = in_else (stmt r)

    block : {a b : Stmts} → BlockRewritten E a b → BlockRewritten F a b
    block none_left = none_left
    block (first_then r q) = first_then (stmt r) (block q)

  action : (a b : Action) → ActionRewritten E a b → ActionRewritten F a b
  action a b r = record { body = block r.body; rest = r.rest }

  key : (k l : Expr × List ℕ) → KeyRewritten E k l → KeyRewritten F k l
  key k l r = (w k.0 l.0 r.0, r.1)

  table : (t u : Table) → TableRewritten E t u → TableRewritten F t u
  table t u r = record { keys = all_weaker (KeyRewritten E) (KeyRewritten F) key t.keys u.keys r.keys; rest = r.rest }

  local : (l m : Local) → LocalRewritten E l m → LocalRewritten F l m
  local _ _ (in_action {a = a} {b = b} p r) = in_action p (action a b r)
  local _ _ (in_table {t = t} {u = u} p r) = in_table p (table t u r)
  local _ _ (local_register_stays p r) = local_register_stays p r
  local _ _ (local_const_stays p t x e) = local_const_stays p t x e
  local _ _ (in_local_var p t x r) = in_local_var p t x (start r)

  control : (c d : Control) → ControlRewritten E c d → ControlRewritten F c d
  control c d r = record { locals = all_weaker (LocalRewritten E) (LocalRewritten F) local c.locals d.locals r.locals; apply = block r.apply; rest = r.rest }

  top : (t u : Top) → TopRewritten E t u → TopRewritten F t u
  top _ _ (constant_stays p t x e) = constant_stays p t x e
  top _ _ (typedef_stays p t x) = typedef_stays p t x
  top _ _ (header_stays p x fs) = header_stays p x fs
  top _ _ (struct_stays p x fs) = struct_stays p x fs
  top _ _ (register_stays p r) = register_stays p r
  top _ _ (parser_stays p d) = parser_stays p d
  top _ _ (in_control {c = c} {d = d} p r) = in_control p (control c d r)

  pub weaker : (p q : Program) → ProgramRewritten E p q → ProgramRewritten F p q
  weaker p q r = record { tops = all_weaker (TopRewritten E) (TopRewritten F) top p.tops q.tops r.tops; rest = r.rest }
