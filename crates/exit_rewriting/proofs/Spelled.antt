-- What can be spelled can be so without exits: a guarded branch stands in a block, and all else keeps its form.
use Rattle.std.proofs.Common.{◌⊎◌, Bool, true, false, ◌||◌, cond, List, [], ◌∷◌, map, refl, inl, inr}
use Rattle.p4_tree.specs.Tree.{Stmt, Stmts, nothing, block, var, assign, choice, return_, exit_, call, done, next, without, otherwise, Local, local_action, local_table, local_register, local_const, local_var, Control, Top, constant, typedef, header_type, struct_type, register, parser, control}
use Rattle.p4_printer.specs.CanSpell.{IsName, EachCan, IsVar, CanSpellStmt, CanSpellStmts, CanSpellLocal, CanSpellControl, CanSpellTop}
use Rattle.exit_statements.specs.Without.{Body, in_action, in_control, flag_of, guarded, exit_in, Exits, no_exits, test_leaves, stmt_leaves, stmts_leave, is_var, in_list, in_branch, stmt_without, stmts_without}
use Rattle.exit_statements.specs.Actions.{lowered, body_without}
use Rattle.exit_programs.specs.Programs.{flags, exits_in, exits_at, local_without, with_flag, control_leaves, control_without, top_without}
use Rattle.exit_rewriting.specs.Laws.{StaysSpelled}

-- ---- statements

-- what may stand before an `else` may stand where none follows
opened : (closed : Bool) (s : Stmt) → CanSpellStmt closed s → CanSpellStmt false s
opened closed (nothing p) c = tt
opened closed (block p ss) c = c
opened closed (var p ty x e) c = c
opened closed (assign p target e) c = c
opened closed (choice p e s without) c = (c.0, c.1, refl)
opened closed (choice p e s (otherwise t)) c = (c.0, c.1, opened closed t c.2)
opened closed (return_ p) c = tt
opened closed (exit_ p) c = tt
opened closed (call p callee args) c = c

flag_is_name : (body : Body) → IsName (flag_of flags body)
flag_is_name in_action = (refl, refl)
flag_is_name in_control = (refl, refl)

exit_can : (closed : Bool) (body : Body) → CanSpellStmt closed (exit_in flags body)
exit_can closed in_action = (inl (((refl, refl), tt), tt), (inl (((refl, refl), tt), tt), tt))
exit_can closed in_control = (((refl, refl), tt), tt)

module _ (m : Exits) (body : Body) where
  guard_can : (s : Stmt) → CanSpellStmt false s → CanSpellStmt false (guarded (flag_of flags body) s)
  guard_can s c = ((flag_is_name body, tt), c, refl)

  branch_can : (left closed : Bool) (s : Stmt) → CanSpellStmt closed s → CanSpellStmt closed (in_branch flags m body left s)
  branch_can true closed s c = (inl (guard_can s (opened closed s c)), tt)
  branch_can false closed s c = c

  list_can : (left : Bool) (s : Stmt) → CanSpellStmt false s → (is_declaration : Bool) → CanSpellStmt false (in_list flags m body left is_declaration s)
  list_can true s c false = guard_can s c
  list_can true s c true = c
  list_can false s c b = c

  var_can : (left : Bool) (s : Stmt) → IsVar s → IsVar (in_list flags m body left (is_var s) (stmt_without flags m body s))
  var_can true (var p ty x e) c = c
  var_can false (var p ty x e) c = c
  var_can left _ c = absurd c

  item_can : (left : Bool) (s : Stmt) → (CanSpellStmt false s → CanSpellStmt false (stmt_without flags m body s)) → CanSpellStmt false s ⊎ IsVar s
      → CanSpellStmt false (in_list flags m body left (is_var s) (stmt_without flags m body s)) ⊎ IsVar (in_list flags m body left (is_var s) (stmt_without flags m body s))
  item_can left s can (inl c) = inl (list_can left (stmt_without flags m body s) (can c) (is_var s))
  item_can left s can (inr c) = inr (var_can left s c)

  mutual
    stmt_can : (closed : Bool) (s : Stmt) → CanSpellStmt closed s → CanSpellStmt closed (stmt_without flags m body s)
    stmt_can closed (nothing p) c = tt
    stmt_can closed (block p ss) c = stmts_can false ss c
    stmt_can closed (var p ty x e) c = c
    stmt_can closed (assign p target e) c = c
    stmt_can closed (choice p e s without) c = (c.0, branch_can (test_leaves m e) false (stmt_without flags m body s) (stmt_can false s c.1), c.2)
    stmt_can closed (choice p e s (otherwise t)) c =
        (c.0, branch_can (test_leaves m e) true (stmt_without flags m body s) (stmt_can true s c.1), branch_can (test_leaves m e) closed (stmt_without flags m body t) (stmt_can closed t c.2))
    stmt_can closed (return_ p) c = ((flag_is_name body, tt), tt)
    stmt_can closed (exit_ p) c = exit_can closed body
    stmt_can closed (call p callee args) c = c

    stmts_can : (left : Bool) (ss : Stmts) → CanSpellStmts ss → CanSpellStmts (stmts_without flags m body left ss)
    stmts_can left done c = tt
    stmts_can left (next s ss) c = (item_can left s (λ d. stmt_can false s d) c.0, stmts_can (left || stmt_leaves m s) ss c.1)

-- ---- declarations

body_can : (ss : Stmts) → CanSpellStmts ss → CanSpellStmts (body_without flags ss)
body_can ss c = by (stmts_leave no_exits ss)
  where
    by : (b : Bool) → CanSpellStmts (cond b (next (lowered flags.returned) (stmts_without flags no_exits in_action false ss)) ss)
    by true = (inr (tt, (refl, refl), tt), stmts_can no_exits in_action false ss c)
    by false = c

local_can : (l : Local) → CanSpellLocal l → CanSpellLocal (local_without l)
local_can (local_action p a) c = (c.0, c.1, body_can a.body c.2)
local_can (local_table p t) c = c
local_can (local_register p r) c = c
local_can (local_const p ty x e) c = c
local_can (local_var p ty x e) c = c

locals_can : (ls : List Local) → EachCan CanSpellLocal ls → EachCan CanSpellLocal (map local_without ls)
locals_can [] c = tt
locals_can (l ∷ ls) c = (local_can l c.0, locals_can ls c.1)

flag_can : (b : Bool) (ls : List Local) → EachCan CanSpellLocal ls → EachCan CanSpellLocal (with_flag b ls)
flag_can true ls c = ((refl, (tt, (refl, refl), tt)), c)
flag_can false ls c = c

control_can : (m : Exits) (d : Control) → CanSpellControl d → CanSpellControl (control_without m d)
control_can m d c =
    (c.0, c.1, flag_can (control_leaves m d) (map local_without d.locals) (locals_can d.locals c.2), stmts_can (exits_at m d) in_control false d.apply c.3)

top_can : (m : Exits) (t : Top) → CanSpellTop t → CanSpellTop (top_without m t)
top_can m (constant p ty x e) c = c
top_can m (typedef p ty x) c = c
top_can m (header_type p x fs) c = c
top_can m (struct_type p x fs) c = c
top_can m (register p r) c = c
top_can m (parser p d) c = c
top_can m (control p d) c = control_can m d c

tops_can : (m : Exits) (ts : List Top) → EachCan CanSpellTop ts → EachCan CanSpellTop (map (top_without m) ts)
tops_can m [] c = tt
tops_can m (t ∷ ts) c = (top_can m t c.0, tops_can m ts c.1)

pub stays_spelled : StaysSpelled
stays_spelled p c = record { tops = tops_can (exits_in p) p.tops c.tops; main = c.main }
