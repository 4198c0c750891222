-- Programs with other values can be spelled where the given ones can.
use Rattle.std.proofs.Common.{◌⊎◌, inl, inr, ℕ, List, [], ◌∷◌, Bool, true, false, Option, sym, subst}
use Rattle.std.specs.List.{AllZip}
use Rattle.p4_tree.specs.Tree.{Expr, Arg, Stmt, Stmts, Action, Table, Local, Control, Top, Program}
use Rattle.p4_printer.specs.CanSpell.{IsName, EachCan, SomeCan, MayCan, CanSpellExpr, CanSpellArg, IsVar, CanSpellStmt, CanSpellStmts, CanSpellAction, CanSpellKey, CanSpellTable, CanSpellLocal, CanSpellControl, CanSpellTop, CanSpell}
use Rattle.rewriting_laws.specs.Standing.{MayStandFor}
use Rattle.rewritten_programs.specs.Rewritten.{ArgRewritten, in_one, in_many, no_value, ArgsRewritten, no_args, arg_then, StartRewritten, no_start, in_start, TestRewritten, outcome, in_test, StmtRewritten, lone, returns, exits, in_block, in_var, in_assign, in_choice, in_call, no_else, in_else, BlockRewritten, none_left, first_then, ActionRewritten, KeyRewritten, TableRewritten, LocalRewritten, in_action, in_table, local_register_stays, local_const_stays, in_local_var, ControlRewritten, TopRewritten, constant_stays, typedef_stays, header_stays, struct_stays, register_stays, parser_stays, in_control, ProgramRewritten}

each_can : {A : Type 0} (R : A → A → Type 0) (C : A → Type 0) → ((a b : A) → R a b → C a → C b) → (xs ys : List A) → AllZip R xs ys → EachCan C xs → EachCan C ys
each_can R C w [] [] r h = tt
each_can R C w [] (y ∷ ys) r h = absurd r
each_can R C w (x ∷ xs) [] r h = absurd r
each_can R C w (x ∷ xs) (y ∷ ys) r h = (w x y r.0 h.0, each_can R C w xs ys r.1 h.1)

some_can : {A : Type 0} (R : A → A → Type 0) (C : A → Type 0) → ((a b : A) → R a b → C a → C b) → (xs ys : List A) → AllZip R xs ys → SomeCan C xs → SomeCan C ys
some_can R C w [] ys r h = absurd h
some_can R C w (x ∷ xs) [] r h = absurd r
some_can R C w (x ∷ xs) (y ∷ ys) r h = (w x y r.0 h.0, each_can R C w xs ys r.1 h.1)

expr_spelled : (e f : Expr) → MayStandFor e f → CanSpellExpr e → CanSpellExpr f
expr_spelled e f r h = r.spelled h

arg_spelled : {v : Bool} {a b : Arg} → ArgRewritten MayStandFor v a b → CanSpellArg a → CanSpellArg b
arg_spelled (in_one p r) h = r.spelled h
arg_spelled (in_many {es = es} {fs = fs} p r) h = some_can MayStandFor CanSpellExpr expr_spelled es fs r h
arg_spelled (no_value a) h = h

args_spelled : {v : ℕ → Bool} {n : ℕ} {xs ys : List Arg} → ArgsRewritten MayStandFor v n xs ys → EachCan CanSpellArg xs → EachCan CanSpellArg ys
args_spelled (no_args n) h = tt
args_spelled (arg_then n r q) h = (arg_spelled r h.0, args_spelled q h.1)

start_spelled : {d e : Option Expr} → StartRewritten MayStandFor d e → MayCan CanSpellExpr d → MayCan CanSpellExpr e
start_spelled no_start h = tt
start_spelled (in_start r) h = r.spelled h

test_spelled : {e f : Expr} → TestRewritten MayStandFor e f → CanSpellExpr e → CanSpellExpr f
test_spelled (outcome h) c = c
test_spelled (in_test h r) c = r.spelled c

var_spelled : {c d : Stmt} → StmtRewritten MayStandFor c d → IsVar c → IsVar d
var_spelled (lone p) h = h
var_spelled (returns p) h = h
var_spelled (exits p) h = h
var_spelled (in_block p r) h = h
var_spelled (in_var p t x r) h = (h.0, h.1, start_spelled r h.2)
var_spelled (in_assign p x r) h = h
var_spelled (in_choice p t a b) h = h
var_spelled (in_call p x r) h = h

either : {A B C D : Type 0} → (A → C) → (B → D) → A ⊎ B → C ⊎ D
either f g (inl a) = inl (f a)
either f g (inr b) = inr (g b)

mutual
  stmt_spelled : {c d : Stmt} → StmtRewritten MayStandFor c d → (closed : Bool) → CanSpellStmt closed c → CanSpellStmt closed d
  stmt_spelled (lone p) closed h = h
  stmt_spelled (returns p) closed h = h
  stmt_spelled (exits p) closed h = h
  stmt_spelled (in_block p r) closed h = block_spelled r h
  stmt_spelled (in_var p t x r) closed h = h
  stmt_spelled (in_assign p x r) closed h = (h.0, r.spelled h.1)
  stmt_spelled (in_choice p t a no_else) closed h = (test_spelled t h.0, stmt_spelled a false h.1, h.2)
  stmt_spelled (in_choice p t a (in_else b)) closed h = (test_spelled t h.0, stmt_spelled a true h.1, stmt_spelled b closed h.2)
  stmt_spelled (in_call p x r) closed h = (h.0, args_spelled r h.1)

  block_spelled : {a b : Stmts} → BlockRewritten MayStandFor a b → CanSpellStmts a → CanSpellStmts b
  block_spelled none_left h = tt
  block_spelled (first_then r q) h = (either (stmt_spelled r false) (var_spelled r) h.0, block_spelled q h.1)

action_spelled : (a b : Action) → ActionRewritten MayStandFor a b → CanSpellAction a → CanSpellAction b
action_spelled a b r h = subst CanSpellAction (sym r.rest) (h.0, h.1, block_spelled r.body h.2)

key_spelled : (k l : Expr × List ℕ) → KeyRewritten MayStandFor k l → CanSpellKey k → CanSpellKey l
key_spelled k l r h = (r.0.spelled h.0, subst IsName (sym r.1) h.1)

table_spelled : (t u : Table) → TableRewritten MayStandFor t u → CanSpellTable t → CanSpellTable u
table_spelled t u r h = subst CanSpellTable (sym r.rest) (h.0, each_can (KeyRewritten MayStandFor) CanSpellKey key_spelled t.keys u.keys r.keys h.1, h.2, h.3, h.4)

local_spelled : (l m : Local) → LocalRewritten MayStandFor l m → CanSpellLocal l → CanSpellLocal m
local_spelled _ _ (in_action {a = a} {b = b} p r) h = action_spelled a b r h
local_spelled _ _ (in_table {t = t} {u = u} p r) h = table_spelled t u r h
local_spelled _ _ (local_register_stays p r) h = h
local_spelled _ _ (local_const_stays p t x e) h = h
local_spelled _ _ (in_local_var p t x r) h = (h.0, (h.1.0, h.1.1, start_spelled r h.1.2))

control_spelled : (c d : Control) → ControlRewritten MayStandFor c d → CanSpellControl c → CanSpellControl d
control_spelled c d r h = subst CanSpellControl (sym r.rest) (h.0, h.1, each_can (LocalRewritten MayStandFor) CanSpellLocal local_spelled c.locals d.locals r.locals h.2, block_spelled r.apply h.3)

top_spelled : (t u : Top) → TopRewritten MayStandFor t u → CanSpellTop t → CanSpellTop u
top_spelled _ _ (constant_stays p t x e) h = h
top_spelled _ _ (typedef_stays p t x) h = h
top_spelled _ _ (header_stays p x fs) h = h
top_spelled _ _ (struct_stays p x fs) h = h
top_spelled _ _ (register_stays p r) h = h
top_spelled _ _ (parser_stays p d) h = h
top_spelled _ _ (in_control {c = c} {d = d} p r) h = control_spelled c d r h

pub stays_spelled : (p q : Program) → ProgramRewritten MayStandFor p q → CanSpell p → CanSpell q
stays_spelled p q r h =
    subst CanSpell (sym r.rest) (record { tops = each_can (TopRewritten MayStandFor) CanSpellTop top_spelled p.tops q.tops r.tops h.tops; main = h.main })
