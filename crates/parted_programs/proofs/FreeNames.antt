-- A program without exits has the names of the given one and those of the flags, so each test that these pass.
use Rattle.std.proofs.Common.{◌≡◌, ◌∷◌, [], ◌||◌, ◌∙◌, ℕ, List, map, Bool, true, false, cond, not, refl, sym, ap}
use Rattle.exit_programs.specs.Names.{is_given}
use Rattle.exit_programs.specs.Programs.{control_leaves, control_without, exits_at, exits_in, flags, local_without, top_without, with_flag}
use Rattle.exit_statements.specs.Actions.{body_without, lowered}
use Rattle.exit_statements.specs.Without.{Body, in_action, in_control, Exits, else_without, exit_in, flag_of, guarded, in_branch, in_list, is_var, no_exits, raised, stmt_leaves, stmt_without, stmts_leave, stmts_without, test_leaves}
use Rattle.lex_text.specs.Names.{same_text}
use Rattle.own_programs.proofs.Names.{broken}
use Rattle.own_programs.proofs.Weaker.{args_more, expr_more, fields_more, local_more, parser_more, path_more, start_more, stmts_more, type_more, ways_more}
use Rattle.p4_rule_laws.specs.Old.{Names, OldElse, OldStmt, OldStmts}
use Rattle.p4_rule_laws.specs.OldPrograms.{OldControl, OldLocal, OldLocals, OldTop, OldTops}
use Rattle.p4_tree.specs.Tree.{Control, Local, MaybeStmt, Stmt, Stmts, Top, assign, block, call, choice, constant, control, done, exit_, header_type, local_action, local_const, local_register, local_table, local_var, next, nothing, otherwise, parser, register, return_, struct_type, typedef, var, without}
use Rattle.p4_typing_laws.proofs.CallCounts.{text_is}
use Rattle.parted_programs.specs.Laws.{WithoutExitsIsFree, is_other_name}
use Rattle.parted_programs.specs.Parted.{new_metadata}

module _ (old : Names) (weaker : (x : List ℕ) → is_given x ≡ true → old x ≡ true) (left_old : old flags.left ≡ true) (returned_old : old flags.returned ≡ true) where
  raised_old : (x : List ℕ) → old x ≡ true → OldStmt old (raised x)
  raised_old x h = ((h, tt), tt)

  module _ (m : Exits) (body : Body) where
    flag_old : old (flag_of flags body) ≡ true
    flag_old = go body
      where
        go : (b : Body) → old (flag_of flags b) ≡ true
        go in_action = returned_old
        go in_control = left_old

    exit_old : OldStmt old (exit_in flags body)
    exit_old = go body
      where
        go : (b : Body) → OldStmt old (exit_in flags b)
        go in_action = (raised_old flags.left left_old, (raised_old flags.returned returned_old, tt))
        go in_control = raised_old flags.left left_old

    guarded_old : (c : Stmt) → OldStmt old c → OldStmt old (guarded (flag_of flags body) c)
    guarded_old c o = ((flag_old, tt), o, tt)

    list_old : (l v : Bool) (c : Stmt) → OldStmt old c → OldStmt old (in_list flags m body l v c)
    list_old true false c o = guarded_old c o
    list_old true true c o = o
    list_old false v c o = o

    branch_old : (l : Bool) (c : Stmt) → OldStmt old c → OldStmt old (in_branch flags m body l c)
    branch_old true c o = (guarded_old c o, tt)
    branch_old false c o = o

    mutual
      stmt_old : (c : Stmt) → OldStmt is_given c → OldStmt old (stmt_without flags m body c)
      stmt_old (nothing p) o = tt
      stmt_old (block p ss) o = stmts_old false ss o
      stmt_old (var p t x e) o = (type_more is_given old weaker t o.0, weaker x o.1, start_more is_given old weaker e o.2)
      stmt_old (assign p x e) o = (path_more is_given old weaker x o.0, expr_more is_given old weaker e o.1)
      stmt_old (choice p e a b) o = (expr_more is_given old weaker e o.0, branch_old (test_leaves m e) (stmt_without flags m body a) (stmt_old a o.1), else_old (test_leaves m e) b o.2)
      stmt_old (return_ p) o = raised_old (flag_of flags body) flag_old
      stmt_old (exit_ p) o = exit_old
      stmt_old (call p x args) o = (path_more is_given old weaker x o.0, args_more is_given old weaker args o.1)

      else_old : (l : Bool) (c : MaybeStmt) → OldElse is_given c → OldElse old (else_without flags m body l c)
      else_old l without o = tt
      else_old l (otherwise c) o = branch_old l (stmt_without flags m body c) (stmt_old c o)

      stmts_old : (l : Bool) (ss : Stmts) → OldStmts is_given ss → OldStmts old (stmts_without flags m body l ss)
      stmts_old l done o = tt
      stmts_old l (next c ss) o = (list_old l (is_var c) (stmt_without flags m body c) (stmt_old c o.0), stmts_old (l || stmt_leaves m c) ss o.1)

  body_old : (ss : Stmts) → OldStmts is_given ss → OldStmts old (body_without flags ss)
  body_old ss o = go (stmts_leave no_exits ss)
    where
      go : (b : Bool) → OldStmts old (cond b (next (lowered flags.returned) (stmts_without flags no_exits in_action false ss)) ss)
      go true = ((tt, returned_old, tt), stmts_old no_exits in_action false ss o)
      go false = stmts_more is_given old weaker ss o

  local_old : (l : Local) → OldLocal is_given l → OldLocal old (local_without l)
  local_old (local_action p a) o = (weaker a.name o.0, fields_more is_given old weaker a.params o.1, body_old a.body o.2)
  local_old (local_table p t) o = local_more is_given old weaker (local_table p t) o
  local_old (local_register p r) o = local_more is_given old weaker (local_register p r) o
  local_old (local_const p t x e) o = local_more is_given old weaker (local_const p t x e) o
  local_old (local_var p t x e) o = local_more is_given old weaker (local_var p t x e) o

  locals_old : (ls : List Local) → OldLocals is_given ls → OldLocals old (map local_without ls)
  locals_old [] o = tt
  locals_old (l ∷ ls) o = (local_old l o.0, locals_old ls o.1)

  with_flag_old : (b : Bool) (ls : List Local) → OldLocals old ls → OldLocals old (with_flag b ls)
  with_flag_old true ls o = ((tt, left_old, tt), o)
  with_flag_old false ls o = o

  control_old : (m : Exits) (c : Control) → OldControl is_given c → OldControl old (control_without m c)
  control_old m c o =
      record {
        name = weaker c.name o.name;
        params = ways_more is_given old weaker c.params o.params;
        locals = with_flag_old (control_leaves m c) (map local_without c.locals) (locals_old c.locals o.locals);
        apply = stmts_old (exits_at m c) in_control false c.apply o.apply;
      }

  top_old : (m : Exits) (t : Top) → OldTop is_given t → OldTop old (top_without m t)
  top_old m (constant p t x e) o = (type_more is_given old weaker t o.0, weaker x o.1, expr_more is_given old weaker e o.2)
  top_old m (typedef p t x) o = (type_more is_given old weaker t o.0, weaker x o.1)
  top_old m (header_type p x fs) o = (weaker x o.0, fields_more is_given old weaker fs o.1)
  top_old m (struct_type p x fs) o = (weaker x o.0, fields_more is_given old weaker fs o.1)
  top_old m (register p r) o = (weaker r.name o.0, type_more is_given old weaker r.ty o.1)
  top_old m (parser p d) o = parser_more is_given old weaker d o
  top_old m (control p c) o = control_old m c o

  tops_old : (m : Exits) (ts : List Top) → OldTops is_given ts → OldTops old (map (top_without m) ts)
  tops_old m [] o = tt
  tops_old m (t ∷ ts) o = (top_old m t o.0, tops_old m ts o.1)

-- a given name is not the new struct's
other_if_given : (x : List ℕ) → is_given x ≡ true → is_other_name x ≡ true
other_if_given x h = go (same_text new_metadata x) refl
  where
    go : (b : Bool) → same_text new_metadata x ≡ b → not b ≡ true
    go true e = broken (sym h ∙ ap is_given (sym (text_is new_metadata x e)))
    go false e = refl

pub without_exits_is_free : WithoutExitsIsFree
without_exits_is_free f g = tops_old is_other_name other_if_given refl refl (exits_in f) f.tops g.tops
