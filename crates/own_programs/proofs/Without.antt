-- A program without exits has own names where the given one has given names, and tells reports where it does.
use Rattle.std.proofs.Common.{◌≡◌, ℕ, List, [], ◌∷◌, map, Bool, true, false, cond, not, ◌&&◌, ◌||◌, codes, refl, ap₂, ◌∙◌}
use Rattle.std.specs.List.{list_any}
use Rattle.lex_text.specs.Comments.{begins}
use Rattle.p4_tree.specs.Tree.{Stmt, Stmts, MaybeStmt, nothing, block, var, assign, choice, return_, exit_, call, done, next, without, otherwise, Local, local_action, local_table, local_register, local_const, local_var, Control, Top, constant, typedef, header_type, struct_type, register, parser, control, Program}
use Rattle.p4_rule_laws.specs.Old.{OldStmt, OldElse, OldStmts}
use Rattle.p4_rule_laws.specs.OldPrograms.{OldLocal, OldLocals, OldControl, OldTop, OldTops}
use Rattle.exit_statements.specs.Without.{Body, in_action, in_control, flag_of, raised, guarded, exit_in, Exits, no_exits, test_leaves, stmt_leaves, stmts_leave, is_var, in_list, in_branch, stmt_without, else_without, stmts_without}
use Rattle.exit_statements.specs.Actions.{lowered, body_without}
use Rattle.exit_programs.specs.Programs.{flags, exits_in, exits_at, local_without, control_leaves, with_flag, control_without, top_without, program_without}
use Rattle.exit_programs.specs.Names.{is_given, HasGivenNames}
use Rattle.exit_programs.proofs.Left.{none_left}
use Rattle.exit_rules.proofs.WellTyped.{stays_well_typed}
use Rattle.own_programs.specs.OwnPrograms.{is_own, HasOwnNames, stmt_tells_reports, else_tells_reports, stmts_tell_reports, local_tells_reports, top_tells_reports, program_tells_reports}
use Rattle.own_programs.specs.Laws.{LoweredProgramsForward}
use Rattle.own_programs.proofs.Weaker.{path_more, type_more, fields_more, expr_more, start_more, args_more, local_more, ways_more, parser_more, stmts_more}
use Rattle.own_programs.proofs.Forwarding.{own_programs_forward}

-- a given name is own
own_if_given : (x : List ℕ) → is_given x ≡ true → is_own x ≡ true
own_if_given x h = go (begins (codes "hydra_") x) (begins (codes "hydra_x_") x) h
  where
    go : (a b : Bool) → not a ≡ true → not (a && not b) ≡ true
    go true b k = absurd (let c : false ≡ true = k in cc)
    go false b k = refl

-- ---- names

raised_own : (x : List ℕ) → is_own x ≡ true → OldStmt is_own (raised x)
raised_own x h = ((h, tt), tt)

module _ (m : Exits) (body : Body) where
  flag_own : is_own (flag_of flags body) ≡ true
  flag_own = go body
    where
      go : (b : Body) → is_own (flag_of flags b) ≡ true
      go in_action = refl
      go in_control = refl

  exit_own : OldStmt is_own (exit_in flags body)
  exit_own = go body
    where
      go : (b : Body) → OldStmt is_own (exit_in flags b)
      go in_action = (raised_own flags.left refl, (raised_own flags.returned refl, tt))
      go in_control = raised_own flags.left refl

  guarded_own : (c : Stmt) → OldStmt is_own c → OldStmt is_own (guarded (flag_of flags body) c)
  guarded_own c o = ((flag_own, tt), o, tt)

  list_own : (l v : Bool) (c : Stmt) → OldStmt is_own c → OldStmt is_own (in_list flags m body l v c)
  list_own true false c o = guarded_own c o
  list_own true true c o = o
  list_own false v c o = o

  branch_own : (l : Bool) (c : Stmt) → OldStmt is_own c → OldStmt is_own (in_branch flags m body l c)
  branch_own true c o = (guarded_own c o, tt)
  branch_own false c o = o

  mutual
    stmt_own : (c : Stmt) → OldStmt is_given c → OldStmt is_own (stmt_without flags m body c)
    stmt_own (nothing p) o = tt
    stmt_own (block p ss) o = stmts_own false ss o
    stmt_own (var p t x e) o = (type_more is_given is_own own_if_given t o.0, own_if_given x o.1, start_more is_given is_own own_if_given e o.2)
    stmt_own (assign p x e) o = (path_more is_given is_own own_if_given x o.0, expr_more is_given is_own own_if_given e o.1)
    stmt_own (choice p e a b) o = (expr_more is_given is_own own_if_given e o.0, branch_own (test_leaves m e) (stmt_without flags m body a) (stmt_own a o.1), else_own (test_leaves m e) b o.2)
    stmt_own (return_ p) o = raised_own (flag_of flags body) flag_own
    stmt_own (exit_ p) o = exit_own
    stmt_own (call p x args) o = (path_more is_given is_own own_if_given x o.0, args_more is_given is_own own_if_given args o.1)

    else_own : (l : Bool) (c : MaybeStmt) → OldElse is_given c → OldElse is_own (else_without flags m body l c)
    else_own l without o = tt
    else_own l (otherwise c) o = branch_own l (stmt_without flags m body c) (stmt_own c o)

    pub stmts_own : (l : Bool) (ss : Stmts) → OldStmts is_given ss → OldStmts is_own (stmts_without flags m body l ss)
    stmts_own l done o = tt
    stmts_own l (next c ss) o = (list_own l (is_var c) (stmt_without flags m body c) (stmt_own c o.0), stmts_own (l || stmt_leaves m c) ss o.1)

body_own : (ss : Stmts) → OldStmts is_given ss → OldStmts is_own (body_without flags ss)
body_own ss o = go (stmts_leave no_exits ss)
  where
    go : (b : Bool) → OldStmts is_own (cond b (next (lowered flags.returned) (stmts_without flags no_exits in_action false ss)) ss)
    go true = ((tt, refl, tt), stmts_own no_exits in_action false ss o)
    go false = stmts_more is_given is_own own_if_given ss o

local_own : (l : Local) → OldLocal is_given l → OldLocal is_own (local_without l)
local_own (local_action p a) o = (own_if_given a.name o.0, fields_more is_given is_own own_if_given a.params o.1, body_own a.body o.2)
local_own (local_table p t) o = local_more is_given is_own own_if_given (local_table p t) o
local_own (local_register p r) o = local_more is_given is_own own_if_given (local_register p r) o
local_own (local_const p t x e) o = local_more is_given is_own own_if_given (local_const p t x e) o
local_own (local_var p t x e) o = local_more is_given is_own own_if_given (local_var p t x e) o

locals_own : (ls : List Local) → OldLocals is_given ls → OldLocals is_own (map local_without ls)
locals_own [] o = tt
locals_own (l ∷ ls) o = (local_own l o.0, locals_own ls o.1)

with_flag_own : (b : Bool) (ls : List Local) → OldLocals is_own ls → OldLocals is_own (with_flag b ls)
with_flag_own true ls o = ((tt, refl, tt), o)
with_flag_own false ls o = o

control_own : (m : Exits) (c : Control) → OldControl is_given c → OldControl is_own (control_without m c)
control_own m c o =
    record {
      name = own_if_given c.name o.name;
      params = ways_more is_given is_own own_if_given c.params o.params;
      locals = with_flag_own (control_leaves m c) (map local_without c.locals) (locals_own c.locals o.locals);
      apply = stmts_own (exits_at m c) in_control false c.apply o.apply;
    }

top_own : (m : Exits) (t : Top) → OldTop is_given t → OldTop is_own (top_without m t)
top_own m (constant p t x e) o = (type_more is_given is_own own_if_given t o.0, own_if_given x o.1, expr_more is_given is_own own_if_given e o.2)
top_own m (typedef p t x) o = (type_more is_given is_own own_if_given t o.0, own_if_given x o.1)
top_own m (header_type p x fs) o = (own_if_given x o.0, fields_more is_given is_own own_if_given fs o.1)
top_own m (struct_type p x fs) o = (own_if_given x o.0, fields_more is_given is_own own_if_given fs o.1)
top_own m (register p r) o = (own_if_given r.name o.0, type_more is_given is_own own_if_given r.ty o.1)
top_own m (parser p d) o = parser_more is_given is_own own_if_given d o
top_own m (control p c) o = control_own m c o

tops_own : (m : Exits) (ts : List Top) → OldTops is_given ts → OldTops is_own (map (top_without m) ts)
tops_own m [] o = tt
tops_own m (t ∷ ts) o = (top_own m t o.0, tops_own m ts o.1)

pub without_own : (p : Program) → HasGivenNames p → HasOwnNames (program_without p)
without_own p g = record { tops = tops_own (exits_in p) p.tops g.tops; main = path_more is_given is_own own_if_given p.main g.main }

-- ---- reports

or_none : (b : Bool) → (b || false) ≡ b
or_none true = refl
or_none false = refl

module _ (m : Exits) (body : Body) where
  exit_quiet : (b : Body) → stmt_tells_reports (exit_in flags b) ≡ false
  exit_quiet in_action = refl
  exit_quiet in_control = refl

  list_tells : (l v : Bool) (c : Stmt) → stmt_tells_reports (in_list flags m body l v c) ≡ stmt_tells_reports c
  list_tells true false c = or_none (stmt_tells_reports c)
  list_tells true true c = refl
  list_tells false v c = refl

  branch_tells : (l : Bool) (c : Stmt) → stmt_tells_reports (in_branch flags m body l c) ≡ stmt_tells_reports c
  branch_tells true c = or_none (stmt_tells_reports c || false) ∙ or_none (stmt_tells_reports c)
  branch_tells false c = refl

  mutual
    stmt_tells : (c : Stmt) → stmt_tells_reports (stmt_without flags m body c) ≡ stmt_tells_reports c
    stmt_tells (nothing p) = refl
    stmt_tells (block p ss) = stmts_tell false ss
    stmt_tells (var p t x e) = refl
    stmt_tells (assign p x e) = refl
    stmt_tells (choice p e a b) = ap₂ (λ (x y : Bool). x || y) (branch_tells (test_leaves m e) (stmt_without flags m body a) ∙ stmt_tells a) (else_tells (test_leaves m e) b)
    stmt_tells (return_ p) = refl
    stmt_tells (exit_ p) = exit_quiet body
    stmt_tells (call p x args) = refl

    else_tells : (l : Bool) (c : MaybeStmt) → else_tells_reports (else_without flags m body l c) ≡ else_tells_reports c
    else_tells l without = refl
    else_tells l (otherwise c) = branch_tells l (stmt_without flags m body c) ∙ stmt_tells c

    pub stmts_tell : (l : Bool) (ss : Stmts) → stmts_tell_reports (stmts_without flags m body l ss) ≡ stmts_tell_reports ss
    stmts_tell l done = refl
    stmts_tell l (next c ss) = ap₂ (λ (x y : Bool). x || y) (list_tells l (is_var c) (stmt_without flags m body c) ∙ stmt_tells c) (stmts_tell (l || stmt_leaves m c) ss)

body_tells : (ss : Stmts) → stmts_tell_reports (body_without flags ss) ≡ stmts_tell_reports ss
body_tells ss = go (stmts_leave no_exits ss)
  where
    go : (b : Bool) → stmts_tell_reports (cond b (next (lowered flags.returned) (stmts_without flags no_exits in_action false ss)) ss) ≡ stmts_tell_reports ss
    go true = stmts_tell no_exits in_action false ss
    go false = refl

locals_tell : (ls : List Local) → list_any local_tells_reports (map local_without ls) ≡ list_any local_tells_reports ls
locals_tell [] = refl
locals_tell (local_action p a ∷ ls) = ap₂ (λ (x y : Bool). x || y) (body_tells a.body) (locals_tell ls)
locals_tell (local_table p t ∷ ls) = locals_tell ls
locals_tell (local_register p r ∷ ls) = locals_tell ls
locals_tell (local_const p t x e ∷ ls) = locals_tell ls
locals_tell (local_var p t x e ∷ ls) = locals_tell ls

flag_tells : (b : Bool) (ls : List Local) → list_any local_tells_reports (with_flag b ls) ≡ list_any local_tells_reports ls
flag_tells true ls = refl
flag_tells false ls = refl

tops_tell : (m : Exits) (ts : List Top) → list_any top_tells_reports (map (top_without m) ts) ≡ list_any top_tells_reports ts
tops_tell m [] = refl
tops_tell m (control p c ∷ ts) =
    ap₂ (λ (x y : Bool). x || y)
    (ap₂ (λ (x y : Bool). x || y) (flag_tells (control_leaves m c) (map local_without c.locals) ∙ locals_tell c.locals) (stmts_tell (exits_at m c) in_control false c.apply))
    (tops_tell m ts)
tops_tell m (constant p t x e ∷ ts) = tops_tell m ts
tops_tell m (typedef p t x ∷ ts) = tops_tell m ts
tops_tell m (header_type p x fs ∷ ts) = tops_tell m ts
tops_tell m (struct_type p x fs ∷ ts) = tops_tell m ts
tops_tell m (register p r ∷ ts) = tops_tell m ts
tops_tell m (parser p d ∷ ts) = tops_tell m ts

pub reports_same : (p : Program) → program_tells_reports (program_without p) ≡ program_tells_reports p
reports_same p = tops_tell (exits_in p) p.tops

-- ---- the law

pub lowered_programs_forward : LoweredProgramsForward
lowered_programs_forward p well given quiet = own_programs_forward (program_without p) (stays_well_typed p well given) (without_own p given) (none_left p) (reports_same p ∙ quiet)
