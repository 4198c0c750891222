-- The same tree but for its places.
use Rattle.std.specs.Prelude.{◌≡◌, ℕ, List, map}
use Rattle.std.specs.Option.{option_map}
use Rattle.p4_tree.specs.Tree.{Expr, num, flag, path, valid, applied, error_name, negation, inversion, opposite, binary, conditional, slice, cast, Arg, one, many, Stmt, Stmts, MaybeStmt, nothing, block, var, assign, choice, return_, exit_, call, done, next, without, otherwise, Keyset, any, only, masked, Case, Transition, nowhere, to, select, ParserState, Action, Table, Local, local_action, local_table, local_register, local_const, local_var, Control, Parser, Top, constant, typedef, header_type, struct_type, register, parser, control, Program}
use Rattle.p4_tree.specs.declared.program.Param.{Param}
use Rattle.p4_tree.specs.declared.program.Register.{Register}

-- an expression with all places 0
abbrev pub plain : Expr → Expr
plain (num p n) = num 0 n
plain (flag p b) = flag 0 b
plain (path p names) = path 0 names
plain (valid p header) = valid 0 header
plain (applied p x b) = applied 0 x b
plain (error_name p x) = error_name 0 x
plain (negation p a) = negation 0 (plain a)
plain (inversion p a) = inversion 0 (plain a)
plain (opposite p a) = opposite 0 (plain a)
plain (binary p op a b) = binary 0 op (plain a) (plain b)
plain (conditional p t a b) = conditional 0 (plain t) (plain a) (plain b)
plain (slice p a high low) = slice 0 (plain a) high low
plain (cast p ty a) = cast 0 ty (plain a)

-- an argument with all places 0
abbrev pub plain_arg : Arg → Arg
plain_arg (one p e) = one 0 (plain e)
plain_arg (many p es) = many 0 (map plain es)

abbrev mutual
  -- a statement with all places 0
  pub plain_stmt : Stmt → Stmt
  plain_stmt (nothing p) = nothing 0
  plain_stmt (block p ss) = block 0 (plain_stmts ss)
  plain_stmt (var p ty x e) = var 0 ty x (option_map plain e)
  plain_stmt (assign p target e) = assign 0 target (plain e)
  plain_stmt (choice p e a b) = choice 0 (plain e) (plain_stmt a) (plain_else b)
  plain_stmt (return_ p) = return_ 0
  plain_stmt (exit_ p) = exit_ 0
  plain_stmt (call p callee args) = call 0 callee (map plain_arg args)

  pub plain_else : MaybeStmt → MaybeStmt
  plain_else without = without
  plain_else (otherwise s) = otherwise (plain_stmt s)

  pub plain_stmts : Stmts → Stmts
  plain_stmts done = done
  plain_stmts (next s ss) = next (plain_stmt s) (plain_stmts ss)

-- a parameter and a register with the place 0
abbrev pub plain_param : Param → Param
plain_param p = record p { at = 0 }

abbrev pub plain_register : Register → Register
plain_register r = record r { at = 0 }

-- a key set with all places 0
abbrev pub plain_keyset : Keyset → Keyset
plain_keyset (any p) = any 0
plain_keyset (only p e) = only 0 (plain e)
plain_keyset (masked p e m) = masked 0 (plain e) (plain m)

abbrev pub plain_case : Case → Case
plain_case c = record c { keys = map plain_keyset c.keys }

-- a transition with all places 0
abbrev pub plain_transition : Transition → Transition
plain_transition (nowhere p) = nowhere 0
plain_transition (to p x) = to 0 x
plain_transition (select p es cases) = select 0 (map plain es) (map plain_case cases)

-- a state with all places 0
abbrev pub plain_state : ParserState → ParserState
plain_state s = record s { at = 0; body = map plain_stmt s.body; next = plain_transition s.next }

-- a parser with all places 0
abbrev pub plain_parser : Parser → Parser
plain_parser d = record d { at = 0; params = map plain_param d.params; states = map plain_state d.states }

-- an action with all places 0
abbrev pub plain_action : Action → Action
plain_action a = record a { at = 0; body = plain_stmts a.body }

-- a table's key, and its default with the arguments, with all places 0
abbrev pub plain_key : Expr × List ℕ → Expr × List ℕ
plain_key k = (plain k.0, k.1)

abbrev pub plain_default : List ℕ × List Expr → List ℕ × List Expr
plain_default d = (d.0, map plain d.1)

-- a table with all places 0
abbrev pub plain_table : Table → Table
plain_table t = record t { at = 0; keys = map plain_key t.keys; default = option_map plain_default t.default }

-- a declaration inside a control with all places 0
abbrev pub plain_local : Local → Local
plain_local (local_action p a) = local_action 0 (plain_action a)
plain_local (local_table p t) = local_table 0 (plain_table t)
plain_local (local_register p r) = local_register 0 (plain_register r)
plain_local (local_const p ty x e) = local_const 0 ty x (plain e)
plain_local (local_var p ty x e) = local_var 0 ty x (option_map plain e)

-- a control with all places 0
abbrev pub plain_control : Control → Control
plain_control c = record c { at = 0; params = map plain_param c.params; locals = map plain_local c.locals; apply = plain_stmts c.apply }

-- a declaration at top level with all places 0
abbrev pub plain_top : Top → Top
plain_top (constant p ty x e) = constant 0 ty x (plain e)
plain_top (typedef p ty x) = typedef 0 ty x
plain_top (header_type p x fields) = header_type 0 x fields
plain_top (struct_type p x fields) = struct_type 0 x fields
plain_top (register p r) = register 0 (plain_register r)
plain_top (parser p d) = parser 0 (plain_parser d)
plain_top (control p d) = control 0 (plain_control d)

-- a program with all places 0
abbrev pub plain_program : Program → Program
plain_program p = record p { at = 0; tops = map plain_top p.tops }

-- the same program but for its places
abbrev pub IsSameProgram : Program → Program → Type 0
IsSameProgram p q = plain_program p ≡ plain_program q
