-- What leaves a program without exits, and a program that nothing leaves.
use Rattle.std.proofs.Common.{◌≡◌, ℕ, List, [], ◌∷◌, ◌++◌, map, Bool, true, false, ◌||◌, cond, Option, Some, None, refl, ap, ap₂, ◌∙◌}
use Rattle.std.specs.Prelude.{if◌then◌else◌}
use Rattle.std.specs.List.{list_any}
use Rattle.lex_text.specs.Names.{same_text}
use Rattle.p4_tree.specs.Tree.{Stmt, Stmts, MaybeStmt, nothing, block, var, assign, choice, return_, exit_, call, done, next, without, otherwise, Local, local_action, local_table, local_register, local_const, local_var, Control, Top, constant, typedef, header_type, struct_type, register, parser, control, Program}
use Rattle.p4_meaning.specs.Statements.{Act, makes, drops, reads, writes, tells, sums, runs, applies, idle, act_of, application}
use Rattle.p4_meaning.specs.Scope.{Scope}
use Rattle.p4_meaning.specs.Under.{no_scope, in_control as inside, behind_top, behind_local, stmt_under, else_under, stmts_under}
use Rattle.p4_meaning.specs.Actions.{Action, in_action as in_action_of, actions_in, actions_of, action_named}
use Rattle.p4_meaning.specs.Tables.{Table, table_named}
use Rattle.exit_statements.specs.Without.{in_action, in_control, Exits, no_exits, table_leaves, test_leaves, call_leaves, stmt_leaves, else_leaves, stmts_leave, stmts_without}
use Rattle.exit_statements.specs.Actions.{lowered, body_without, stmt_exits, else_exits, stmts_exit, action_exits, table_exits}
use Rattle.exit_statements.proofs.Agreed.{none_is_left, stay_same}
use Rattle.exit_programs.specs.Programs.{flags, exits_in, exits_at, local_without, local_exits, control_leaves, with_flag, control_without, top_without}
use Rattle.exit_programs.specs.Owned.{all_actions, all_tables}
use Rattle.exit_programs.specs.Laws as laws
use Rattle.exit_programs.specs.Laws.{local_leaves, top_leaves, program_leaves, StaysAsItIs}

-- ---- none is left

body_none : (ss : Stmts) → stmts_leave no_exits (body_without flags ss) ≡ false
body_none ss = go (stmts_leave no_exits ss) refl
  where
    go : (b : Bool) → stmts_leave no_exits ss ≡ b → stmts_leave no_exits (if b then next (lowered flags.returned) (stmts_without flags no_exits in_action false ss) else ss) ≡ false
    go true e = none_is_left flags no_exits in_action false ss
    go false e = e

locals_none : (ls : List Local) → list_any local_leaves (map local_without ls) ≡ false
locals_none [] = refl
locals_none (local_action p a ∷ ls) = ap₂ (λ (x y : Bool). x || y) (body_none a.body) (locals_none ls)
locals_none (local_table p t ∷ ls) = locals_none ls
locals_none (local_register p r ∷ ls) = locals_none ls
locals_none (local_const p ty x e ∷ ls) = locals_none ls
locals_none (local_var p ty x e ∷ ls) = locals_none ls

flag_none : (b : Bool) (ls : List Local) → list_any local_leaves ls ≡ false → list_any local_leaves (with_flag b ls) ≡ false
flag_none true ls e = e
flag_none false ls e = e

tops_none : (m : Exits) (ts : List Top) → list_any top_leaves (map (top_without m) ts) ≡ false
tops_none m [] = refl
tops_none m (constant p ty x e ∷ ts) = tops_none m ts
tops_none m (typedef p ty x ∷ ts) = tops_none m ts
tops_none m (header_type p x fs ∷ ts) = tops_none m ts
tops_none m (struct_type p x fs ∷ ts) = tops_none m ts
tops_none m (register p r ∷ ts) = tops_none m ts
tops_none m (parser p d ∷ ts) = tops_none m ts
tops_none m (control p c ∷ ts) =
    ap₂ (λ (x y : Bool). x || y)
    (ap₂ (λ (x y : Bool). x || y) (flag_none (control_leaves m c) (map local_without c.locals) (locals_none c.locals)) (none_is_left flags (exits_at m c) in_control false c.apply))
    (tops_none m ts)

pub none_left : laws.NoneIsLeft
none_left p = tops_none (exits_in p) p.tops

-- ---- a program that nothing leaves

or_left : (a b : Bool) → (a || b) ≡ false → a ≡ false
or_left true b e = absurd (cc e)
or_left false b e = refl

or_right : (a b : Bool) → (a || b) ≡ false → b ≡ false
or_right true b e = absurd (cc e)
or_right false b e = e

-- statements without either may not exit, whatever their names stand for
mutual
  stmt_no : (sc : Scope) (s : Stmt) → stmt_leaves no_exits s ≡ false → stmt_exits (stmt_under sc s) ≡ false
  stmt_no sc (nothing p) e = refl
  stmt_no sc (block p ss) e = stmts_no sc ss e
  stmt_no sc (var p ty x v) e = refl
  stmt_no sc (assign p t v) e = refl
  stmt_no sc (choice p c s t) e =
      let rest = or_right (test_leaves no_exits c) (stmt_leaves no_exits s || else_leaves no_exits t) e in
      ap₂ (λ (x y : Bool). x || y) (stmt_no sc s (or_left (stmt_leaves no_exits s) (else_leaves no_exits t) rest)) (else_no sc t (or_right (stmt_leaves no_exits s) (else_leaves no_exits t) rest))
  stmt_no sc (return_ p) e = refl
  stmt_no sc (exit_ p) e = absurd (cc e)
  stmt_no sc (call p callee args) e = refl

  else_no : (sc : Scope) (s : MaybeStmt) → else_leaves no_exits s ≡ false → else_exits (else_under sc s) ≡ false
  else_no sc without e = refl
  else_no sc (otherwise s) e = stmt_no sc s e

  stmts_no : (sc : Scope) (ss : Stmts) → stmts_leave no_exits ss ≡ false → stmts_exit (stmts_under sc ss) ≡ false
  stmts_no sc done e = refl
  stmts_no sc (next s ss) e = ap₂ (λ (x y : Bool). x || y) (stmt_no sc s (or_left (stmt_leaves no_exits s) (stmts_leave no_exits ss) e)) (stmts_no sc ss (or_right (stmt_leaves no_exits s) (stmts_leave no_exits ss) e))

mutual
  stmt_stays : (s : Stmt) → stmt_leaves no_exits s ≡ false → stmt_exits s ≡ false
  stmt_stays (nothing p) e = refl
  stmt_stays (block p ss) e = stmts_stay ss e
  stmt_stays (var p ty x v) e = refl
  stmt_stays (assign p t v) e = refl
  stmt_stays (choice p c s t) e =
      let rest = or_right (test_leaves no_exits c) (stmt_leaves no_exits s || else_leaves no_exits t) e in
      ap₂ (λ (x y : Bool). x || y) (stmt_stays s (or_left (stmt_leaves no_exits s) (else_leaves no_exits t) rest)) (else_stays t (or_right (stmt_leaves no_exits s) (else_leaves no_exits t) rest))
  stmt_stays (return_ p) e = refl
  stmt_stays (exit_ p) e = absurd (cc e)
  stmt_stays (call p callee args) e = refl

  else_stays : (s : MaybeStmt) → else_leaves no_exits s ≡ false → else_exits s ≡ false
  else_stays without e = refl
  else_stays (otherwise s) e = stmt_stays s e

  stmts_stay : (ss : Stmts) → stmts_leave no_exits ss ≡ false → stmts_exit ss ≡ false
  stmts_stay done e = refl
  stmts_stay (next s ss) e = ap₂ (λ (x y : Bool). x || y) (stmt_stays s (or_left (stmt_leaves no_exits s) (stmts_leave no_exits ss) e)) (stmts_stay ss (or_right (stmt_leaves no_exits s) (stmts_leave no_exits ss) e))

-- ---- no action may exit

more_none : (a : Action) (as' : List Action) → stmts_exit a.body ≡ false → ((x : List ℕ) → action_exits (action_named as' x) ≡ false) → (x : List ℕ) → action_exits (action_named (a ∷ as') x) ≡ false
more_none a as' e more x = go (same_text a.name x)
  where
    go : (b : Bool) → action_exits (cond b (Some a) (action_named as' x)) ≡ false
    go true = e
    go false = more x

in_locals : (ls : List Local) (sc : Scope) (rest : List Action) → list_any local_leaves ls ≡ false → ((x : List ℕ) → action_exits (action_named rest x) ≡ false) → (x : List ℕ) → action_exits (action_named (actions_in sc ls ++ rest) x) ≡ false
in_locals [] sc rest e more = more
in_locals (local_action p a ∷ ls) sc rest e more =
    more_none _ (actions_in sc ls ++ rest) (stmts_no (in_action_of sc a) a.body (or_left (stmts_leave no_exits a.body) (list_any local_leaves ls) e)) (in_locals ls sc rest (or_right (stmts_leave no_exits a.body) (list_any local_leaves ls) e) more)
in_locals (local_table p t ∷ ls) sc rest e more = in_locals ls sc rest e more
in_locals (local_register p r ∷ ls) sc rest e more = in_locals ls sc rest e more
in_locals (local_const p ty x v ∷ ls) sc rest e more = in_locals ls (behind_local sc (local_const p ty x v)) rest e more
in_locals (local_var p ty x v ∷ ls) sc rest e more = in_locals ls sc rest e more

in_tops : (ts : List Top) (sc : Scope) → list_any top_leaves ts ≡ false → (x : List ℕ) → action_exits (action_named (actions_of sc ts) x) ≡ false
in_tops [] sc e = λ x. refl
in_tops (constant p ty y v ∷ ts) sc e = in_tops ts (behind_top sc (constant p ty y v)) e
in_tops (typedef p ty y ∷ ts) sc e = in_tops ts (behind_top sc (typedef p ty y)) e
in_tops (header_type p y fs ∷ ts) sc e = in_tops ts sc e
in_tops (struct_type p y fs ∷ ts) sc e = in_tops ts sc e
in_tops (register p r ∷ ts) sc e = in_tops ts sc e
in_tops (parser p d ∷ ts) sc e = in_tops ts sc e
in_tops (control p c ∷ ts) sc e =
    in_locals c.locals (inside 0 1 2 sc c) (actions_of sc ts) (or_left (list_any local_leaves c.locals) (stmts_leave no_exits c.apply) (or_left (top_leaves (control p c)) (list_any top_leaves ts) e)) (in_tops ts sc (or_right (top_leaves (control p c)) (list_any top_leaves ts) e))

-- nothing may exit
record Quiet (m : Exits) : Type 0 where
  action : (x : List ℕ) → m.action x ≡ false
  table : (t : List ℕ) → m.table t ≡ false

any_none : (as' : List Action) (xs : List (List ℕ)) → ((x : List ℕ) → action_exits (action_named as' x) ≡ false) → list_any (λ x. action_exits (action_named as' x)) xs ≡ false
any_none as' [] h = refl
any_none as' (x ∷ xs) h = ap₂ (λ (a b : Bool). a || b) (h x) (any_none as' xs h)

quiet : (p : Program) → program_leaves p ≡ false → Quiet (exits_in p)
quiet p e = record { action = in_tops p.tops no_scope e; table = λ t. listed (table_named (all_tables p) t) }
  where
    listed : (o : Option Table) → table_exits (all_actions p) o ≡ false
    listed None = refl
    listed (Some t) = any_none (all_actions p) t.actions (in_tops p.tops no_scope e)

-- ---- so nothing is rewritten

module _ (m : Exits) (q : Quiet m) where
  act_quiet : (a : Act) → call_leaves m a ≡ false
  act_quiet (makes h b) = refl
  act_quiet drops = refl
  act_quiet (reads x t i) = refl
  act_quiet (writes x i v) = refl
  act_quiet (tells r es) = refl
  act_quiet (sums b c es f) = refl
  act_quiet (runs x es) = q.action x
  act_quiet (applies t) = q.table t
  act_quiet idle = refl

  test_quiet : (o : Option (List ℕ × Bool)) → table_leaves m o ≡ false
  test_quiet None = refl
  test_quiet (Some t) = q.table t.0

  mutual
    stmt_quiet : (s : Stmt) → stmt_leaves no_exits s ≡ false → stmt_leaves m s ≡ false
    stmt_quiet (nothing p) e = refl
    stmt_quiet (block p ss) e = stmts_quiet ss e
    stmt_quiet (var p ty x v) e = refl
    stmt_quiet (assign p t v) e = refl
    stmt_quiet (choice p c s t) e =
        let rest = or_right (test_leaves no_exits c) (stmt_leaves no_exits s || else_leaves no_exits t) e in
        ap₂ (λ (x y : Bool). x || y) (test_quiet (application c))
        (ap₂ (λ (x y : Bool). x || y) (stmt_quiet s (or_left (stmt_leaves no_exits s) (else_leaves no_exits t) rest)) (else_quiet t (or_right (stmt_leaves no_exits s) (else_leaves no_exits t) rest)))
    stmt_quiet (return_ p) e = absurd (cc e)
    stmt_quiet (exit_ p) e = absurd (cc e)
    stmt_quiet (call p callee args) e = act_quiet (act_of callee args)

    else_quiet : (s : MaybeStmt) → else_leaves no_exits s ≡ false → else_leaves m s ≡ false
    else_quiet without e = refl
    else_quiet (otherwise s) e = stmt_quiet s e

    stmts_quiet : (ss : Stmts) → stmts_leave no_exits ss ≡ false → stmts_leave m ss ≡ false
    stmts_quiet done e = refl
    stmts_quiet (next s ss) e = ap₂ (λ (x y : Bool). x || y) (stmt_quiet s (or_left (stmt_leaves no_exits s) (stmts_leave no_exits ss) e)) (stmts_quiet ss (or_right (stmt_leaves no_exits s) (stmts_leave no_exits ss) e))

locals_same : (ls : List Local) → list_any local_leaves ls ≡ false → map local_without ls ≡ ls
locals_same [] e = refl
locals_same (local_action p a ∷ ls) e =
    ap₂ (λ (x : Stmts) (xs : List Local). local_action p (record a { body = x }) ∷ xs)
    (ap (λ (b : Bool). cond b (next (lowered flags.returned) (stmts_without flags no_exits in_action false a.body)) a.body) (or_left (stmts_leave no_exits a.body) (list_any local_leaves ls) e))
    (locals_same ls (or_right (stmts_leave no_exits a.body) (list_any local_leaves ls) e))
locals_same (local_table p t ∷ ls) e = ap (λ (xs : List Local). local_table p t ∷ xs) (locals_same ls e)
locals_same (local_register p r ∷ ls) e = ap (λ (xs : List Local). local_register p r ∷ xs) (locals_same ls e)
locals_same (local_const p ty x v ∷ ls) e = ap (λ (xs : List Local). local_const p ty x v ∷ xs) (locals_same ls e)
locals_same (local_var p ty x v ∷ ls) e = ap (λ (xs : List Local). local_var p ty x v ∷ xs) (locals_same ls e)

locals_quiet : (ls : List Local) → list_any local_leaves ls ≡ false → list_any local_exits ls ≡ false
locals_quiet [] e = refl
locals_quiet (local_action p a ∷ ls) e = ap₂ (λ (x y : Bool). x || y) (stmts_stay a.body (or_left (stmts_leave no_exits a.body) (list_any local_leaves ls) e)) (locals_quiet ls (or_right (stmts_leave no_exits a.body) (list_any local_leaves ls) e))
locals_quiet (local_table p t ∷ ls) e = locals_quiet ls e
locals_quiet (local_register p r ∷ ls) e = locals_quiet ls e
locals_quiet (local_const p ty x v ∷ ls) e = locals_quiet ls e
locals_quiet (local_var p ty x v ∷ ls) e = locals_quiet ls e

-- a control that cannot leave, and whose actions have neither, stays as it is
pub control_same : (m : Exits) (c : Control) → stmts_leave (exits_at m c) c.apply ≡ false → list_any local_leaves c.locals ≡ false → control_without m c ≡ c
control_same m c body locals =
    ap₂ (λ (ls : List Local) (ss : Stmts). record c { locals = ls; apply = ss })
    (ap (λ (b : Bool). with_flag b (map local_without c.locals)) (ap₂ (λ (x y : Bool). x || y) body (locals_quiet c.locals locals)) ∙ locals_same c.locals locals)
    (stay_same flags (exits_at m c) in_control c.apply body)

tops_same : (m : Exits) → Quiet m → (ts : List Top) → list_any top_leaves ts ≡ false → map (top_without m) ts ≡ ts
tops_same m q [] e = refl
tops_same m q (constant p ty x v ∷ ts) e = ap (λ (xs : List Top). constant p ty x v ∷ xs) (tops_same m q ts e)
tops_same m q (typedef p ty x ∷ ts) e = ap (λ (xs : List Top). typedef p ty x ∷ xs) (tops_same m q ts e)
tops_same m q (header_type p x fs ∷ ts) e = ap (λ (xs : List Top). header_type p x fs ∷ xs) (tops_same m q ts e)
tops_same m q (struct_type p x fs ∷ ts) e = ap (λ (xs : List Top). struct_type p x fs ∷ xs) (tops_same m q ts e)
tops_same m q (register p r ∷ ts) e = ap (λ (xs : List Top). register p r ∷ xs) (tops_same m q ts e)
tops_same m q (parser p d ∷ ts) e = ap (λ (xs : List Top). parser p d ∷ xs) (tops_same m q ts e)
tops_same m q (control p c ∷ ts) e =
    let one = or_left (top_leaves (control p c)) (list_any top_leaves ts) e in
    ap₂ (λ (d : Control) (xs : List Top). control p d ∷ xs)
    (control_same m c (stmts_quiet (exits_at m c) (record { action = λ x. q.action _; table = λ t. q.table _ }) c.apply (or_right (list_any local_leaves c.locals) (stmts_leave no_exits c.apply) one)) (or_left (list_any local_leaves c.locals) (stmts_leave no_exits c.apply) one))
    (tops_same m q ts (or_right (top_leaves (control p c)) (list_any top_leaves ts) e))

pub stays_as_it_is : StaysAsItIs
stays_as_it_is p e = ap (λ (ts : List Top). record p { tops = ts }) (tops_same (exits_in p) (quiet p e) p.tops e)
