-- Trees under a scope: what their names stand for is written in their place. Read `Scope` before it and `Actions` after
-- it.
use Rattle.std.specs.Prelude.{ℕ, List, [], ◌∷◌, map, Option, Some, None}
use Rattle.std.specs.Option.{option_map}
use Rattle.bit_values.specs.Bits.{Word}
use Rattle.p4_tree.specs.Tree.{Expr, num, flag, path, valid, applied, error_name, negation, inversion, opposite, binary, conditional, slice, cast, Arg, one, many, Stmt, Stmts, MaybeStmt, nothing, block, var, assign, choice, return_, exit_, call, done, next, without, otherwise, Keyset, any, only, masked, Case, Transition, nowhere, to, select, ParserState, Local, local_const, local_var, Control, Parser, Top, constant, typedef}
use Rattle.p4_tree.specs.declared.statement.PTy.{PTy}
use Rattle.p4_meaning.specs.Store.{blank}
use Rattle.p4_meaning.specs.Statements.{start_of}
use Rattle.p4_meaning.specs.Scope.{Scope, no_roots, roots_of, full_name, first_name, path_under, constant_at, type_under, own_names}

-- a constant is its word, and any other path a path of the store
abbrev pub constant_or_path : (p : ℕ) → Option Word → List (List ℕ) → Expr
constant_or_path p None names = path p names
constant_or_path p (Some w) names = num p (record { width = w.width; value = w.value })

-- the callee of a call: an action, a table or a register by its full name, a header by its path
abbrev pub callee_under : Scope → List (List ℕ) → List (List ℕ)
callee_under sc [] = []
callee_under sc (x ∷ []) = full_name sc x ∷ []
callee_under sc (x ∷ verb ∷ []) = full_name sc x ∷ verb ∷ []
callee_under sc (x ∷ y ∷ z ∷ rest) = first_name sc x ∷ y ∷ z ∷ rest

module _ (sc : Scope) where
  -- a cast names no typedef
  abbrev pub expr_under : Expr → Expr
  expr_under (num p n) = num p n
  expr_under (flag p b) = flag p b
  expr_under (path p names) = constant_or_path p (constant_at sc names) (path_under sc names)
  expr_under (valid p header) = valid p (path_under sc header)
  expr_under (applied p table hit) = applied p (full_name sc table) hit
  expr_under (error_name p x) = error_name p x
  expr_under (negation p a) = negation p (expr_under a)
  expr_under (inversion p a) = inversion p (expr_under a)
  expr_under (opposite p a) = opposite p (expr_under a)
  expr_under (binary p op a b) = binary p op (expr_under a) (expr_under b)
  expr_under (conditional p t a b) = conditional p (expr_under t) (expr_under a) (expr_under b)
  expr_under (slice p a high low) = slice p (expr_under a) high low
  expr_under (cast p ty a) = cast p ty (expr_under a)

  abbrev pub arg_under : Arg → Arg
  arg_under (one p e) = one p (expr_under e)
  arg_under (many p es) = many p (map expr_under es)

  abbrev mutual
    pub stmt_under : Stmt → Stmt
    stmt_under (nothing p) = nothing p
    stmt_under (block p ss) = block p (stmts_under ss)
    stmt_under (var p ty x e) = var p (type_under sc.types ty) (first_name sc x) (option_map expr_under e)
    stmt_under (assign p target e) = assign p (path_under sc target) (expr_under e)
    stmt_under (choice p e a b) = choice p (expr_under e) (stmt_under a) (else_under b)
    stmt_under (return_ p) = return_ p
    stmt_under (exit_ p) = exit_ p
    stmt_under (call p callee args) = call p (callee_under sc callee) (map arg_under args)

    pub else_under : MaybeStmt → MaybeStmt
    else_under without = without
    else_under (otherwise s) = otherwise (stmt_under s)

    pub stmts_under : Stmts → Stmts
    stmts_under done = done
    stmts_under (next s ss) = next (stmt_under s) (stmts_under ss)

  abbrev pub keyset_under : Keyset → Keyset
  keyset_under (any p) = any p
  keyset_under (only p e) = only p (expr_under e)
  keyset_under (masked p e m) = masked p (expr_under e) (expr_under m)

  abbrev pub case_under : Case → Case
  case_under c = record c { keys = map keyset_under c.keys }

  abbrev pub transition_under : Transition → Transition
  transition_under (nowhere p) = nowhere p
  transition_under (to p x) = to p x
  transition_under (select p es cases) = select p (map expr_under es) (map case_under cases)

  abbrev pub state_under : ParserState → ParserState
  state_under s = record s { body = map stmt_under s.body; next = transition_under s.next }

-- ---- scopes along a program

-- behind a constant: its value holds numbers and constants alone
abbrev pub with_constant : Scope → PTy → List ℕ → Expr → Scope
with_constant sc ty x e = record sc { constants = (x, start_of (type_under sc.types ty) (Some (expr_under sc e)) blank) ∷ sc.constants }

-- behind a typedef
abbrev pub with_type : Scope → PTy → List ℕ → Scope
with_type sc ty x = record sc { types = (x, type_under sc.types ty) ∷ sc.types }

-- before the first declaration
abbrev pub no_scope : Scope
no_scope = record { roots = no_roots; control = []; own = []; constants = []; types = []; inner = None }

-- behind a declaration at top level
abbrev pub behind_top : Scope → Top → Scope
behind_top sc (constant p ty x e) = with_constant sc ty x e
behind_top sc (typedef p ty x) = with_type sc ty x
behind_top sc _ = sc

abbrev pub behind_tops : Scope → List Top → Scope
behind_tops sc [] = sc
behind_tops sc (t ∷ ts) = behind_tops (behind_top sc t) ts

-- at the beginning of a parser, whose parameters are the packet, the headers, the metadata and the standard metadata
abbrev pub in_parser : Scope → Parser → Scope
in_parser sc d = record sc { roots = roots_of d.params 1 2 3 }

-- at the beginning of a control, where the three parameters stand at these places
abbrev pub in_control : (headers metadata standard : ℕ) → Scope → Control → Scope
in_control h m s sc c = record sc { roots = roots_of c.params h m s; control = c.name; own = own_names c.locals }

-- behind a declaration of a control
abbrev pub behind_local : Scope → Local → Scope
behind_local sc (local_const p ty x e) = with_constant sc ty x e
behind_local sc _ = sc

abbrev pub behind_locals : Scope → List Local → Scope
behind_locals sc [] = sc
behind_locals sc (l ∷ ls) = behind_locals (behind_local sc l) ls

-- a control's variables, as the statements that set them
abbrev pub settings_under : Scope → List Local → Stmts
settings_under sc [] = done
settings_under sc (local_var p ty x e ∷ ls) = next (stmt_under sc (var p ty x e)) (settings_under sc ls)
settings_under sc (l ∷ ls) = settings_under (behind_local sc l) ls
