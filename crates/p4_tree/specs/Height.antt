-- How high trees are: the nodes on the longest way from the top down. The nodes are the program, its declarations and
-- those inside controls, what these declare, parameters, states, transitions, key sets, statements, arguments and
-- expressions. Types, operators, names and numbers are none.
use Rattle.std.specs.Prelude.{ℕ, ◌+◌, max, List, [], ◌∷◌, Option, Some, None}
use Rattle.p4_tree.specs.Tree.{Expr, num, flag, path, valid, applied, error_name, negation, inversion, opposite, binary, conditional, slice, cast, Arg, one, many, Stmt, Stmts, MaybeStmt, nothing, block, var, assign, choice, return_, exit_, call, done, next, without, otherwise, Keyset, any, only, masked, Case, Transition, nowhere, to, select, ParserState, Action, Table, Local, local_action, local_table, local_register, local_const, local_var, Control, Parser, Top, constant, typedef, header_type, struct_type, register, parser, control, Program}

-- the greatest of the heights of some trees
abbrev pub highest : {A : Type 0} → (A → ℕ) → List A → ℕ
highest f [] = 0
highest f (x ∷ xs) = max (f x) (highest f xs)

-- the height of a tree, where there is one
abbrev pub height_if : {A : Type 0} → (A → ℕ) → Option A → ℕ
height_if f None = 0
height_if f (Some x) = f x

-- the height of an expression: a node with no node below it has height 1
abbrev pub expr_height : Expr → ℕ
expr_height (num p n) = 1
expr_height (flag p b) = 1
expr_height (path p names) = 1
expr_height (valid p header) = 1
expr_height (applied p x b) = 1
expr_height (error_name p x) = 1
expr_height (negation p a) = expr_height a + 1
expr_height (inversion p a) = expr_height a + 1
expr_height (opposite p a) = expr_height a + 1
expr_height (binary p op a b) = max (expr_height a) (expr_height b) + 1
expr_height (conditional p t a b) = max (expr_height t) (max (expr_height a) (expr_height b)) + 1
expr_height (slice p a high low) = expr_height a + 1
expr_height (cast p ty a) = expr_height a + 1

-- the height of an argument
abbrev pub arg_height : Arg → ℕ
arg_height (one p e) = expr_height e + 1
arg_height (many p es) = highest expr_height es + 1

abbrev mutual
  -- the height of a statement
  pub stmt_height : Stmt → ℕ
  stmt_height (nothing p) = 1
  stmt_height (block p ss) = stmts_height ss + 1
  stmt_height (var p ty x e) = height_if expr_height e + 1
  stmt_height (assign p target e) = expr_height e + 1
  stmt_height (choice p e a b) = max (expr_height e) (max (stmt_height a) (else_height b)) + 1
  stmt_height (return_ p) = 1
  stmt_height (exit_ p) = 1
  stmt_height (call p callee args) = highest arg_height args + 1

  -- the height of what an `else` holds
  pub else_height : MaybeStmt → ℕ
  else_height without = 0
  else_height (otherwise s) = stmt_height s

  -- the greatest height of a list's statements
  pub stmts_height : Stmts → ℕ
  stmts_height done = 0
  stmts_height (next s ss) = max (stmt_height s) (stmts_height ss)

-- the height of a key set
abbrev pub keyset_height : Keyset → ℕ
keyset_height (any p) = 1
keyset_height (only p e) = expr_height e + 1
keyset_height (masked p e m) = max (expr_height e) (expr_height m) + 1

-- the greatest height of a case's key sets; a case is no node
abbrev pub case_height : Case → ℕ
case_height c = highest keyset_height c.keys

-- the height of a transition
abbrev pub transition_height : Transition → ℕ
transition_height (nowhere p) = 1
transition_height (to p x) = 1
transition_height (select p es cases) = max (highest expr_height es) (highest case_height cases) + 1

-- the height of a state
abbrev pub state_height : ParserState → ℕ
state_height s = max (highest stmt_height s.body) (transition_height s.next) + 1

-- the height of a parser, whose parameters have height 1
abbrev pub parser_height : Parser → ℕ
parser_height d = max (highest (λ p. 1) d.params) (highest state_height d.states) + 1

-- the height of an action
abbrev pub action_height : Action → ℕ
action_height a = stmts_height a.body + 1

-- the height of a table
abbrev pub table_height : Table → ℕ
table_height t = max (highest (λ k. expr_height k.0) t.keys) (height_if (λ d. highest expr_height d.1) t.default) + 1

-- the height of a declaration inside a control; a register itself has height 1
abbrev pub local_height : Local → ℕ
local_height (local_action p a) = action_height a + 1
local_height (local_table p t) = table_height t + 1
local_height (local_register p r) = 2
local_height (local_const p ty x e) = expr_height e + 1
local_height (local_var p ty x e) = height_if expr_height e + 1

-- the height of a control
abbrev pub control_height : Control → ℕ
control_height c = max (highest (λ p. 1) c.params) (max (highest local_height c.locals) (stmts_height c.apply)) + 1

-- the height of a declaration at top level
abbrev pub top_height : Top → ℕ
top_height (constant p ty x e) = expr_height e + 1
top_height (typedef p ty x) = 1
top_height (header_type p x fields) = 1
top_height (struct_type p x fields) = 1
top_height (register p r) = 2
top_height (parser p d) = parser_height d + 1
top_height (control p d) = control_height d + 1

-- the height of a program
abbrev pub height : Program → ℕ
height p = highest top_height p.tops + 1
