-- The names of a program in the order of its text, and which are taken. Read `Refusals` before it.
use Rattle.std.specs.Prelude.{codes, ℕ, List, [], ◌∷◌, ◌++◌, Bool, ◌||◌, Option, Some, None, nat_eq, if◌then◌else◌}
use Rattle.lex_text.specs.Names.{same_text}
use Rattle.lex_text.specs.Comments.{begins}
use Rattle.p4_tree.specs.Tree.{Expr, num, flag, path, valid, applied, error_name, negation, inversion, opposite, binary, conditional, slice, cast, Arg, one, many, Stmt, Stmts, MaybeStmt, nothing, block, var, assign, choice, return_, exit_, call, done, next, stmts_from, without, otherwise, Keyset, any, only, masked, Case, Transition, nowhere, to, select, ParserState, Local, local_action, local_table, local_register, local_const, local_var, Top, constant, typedef, header_type, struct_type, register, parser, control, Program}
use Rattle.p4_tree.specs.declared.statement.PTy.{PTy}
use Rattle.p4_tree.specs.declared.statement.PTy.TheVariants as type
use Rattle.p4_tree.specs.declared.program.Param.{Param}
use Rattle.p4_meaning.specs.Statements.{receiver_of}
use Rattle.linkage.specs.Linkage.{report_receiver}

-- names, and for a digest to the receiver of reports that receiver's digits, where it stands
abbrev pub Names : Type 0
Names = List (List ℕ)

abbrev pub names_of_type : PTy → Names
names_of_type (type.Named x) = x ∷ []
names_of_type _ = []

-- ---- expressions

abbrev pub names_of_expr : Expr → Names
names_of_expr (num p n) = []
names_of_expr (flag p b) = []
names_of_expr (path p xs) = xs
names_of_expr (valid p xs) = xs
names_of_expr (applied p t b) = t ∷ []
names_of_expr (error_name p x) = x ∷ []
names_of_expr (negation p a) = names_of_expr a
names_of_expr (inversion p a) = names_of_expr a
names_of_expr (opposite p a) = names_of_expr a
names_of_expr (binary p op a b) = names_of_expr a ++ names_of_expr b
names_of_expr (conditional p t a b) = names_of_expr t ++ (names_of_expr a ++ names_of_expr b)
names_of_expr (slice p a h l) = names_of_expr a
names_of_expr (cast p t a) = names_of_type t ++ names_of_expr a

abbrev pub names_of_exprs : List Expr → Names
names_of_exprs [] = []
names_of_exprs (e ∷ es) = names_of_expr e ++ names_of_exprs es

abbrev pub names_of_start : Option Expr → Names
names_of_start None = []
names_of_start (Some e) = names_of_expr e

-- ---- statements

-- the receiver of reports, in decimal digits
abbrev pub report_digits : List ℕ
report_digits = codes "1213809746"

-- what stands for the receiver of a call's digest
abbrev pub receiver_names : (callee : List (List ℕ)) → List Arg → Names
receiver_names (x ∷ []) (one p (num q n) ∷ rest) =
    if same_text x (codes "digest")
    then (if nat_eq (receiver_of n) report_receiver then report_digits ∷ [] else [])
    else []
receiver_names _ _ = []

abbrev pub names_of_arg : Arg → Names
names_of_arg (one p e) = names_of_expr e
names_of_arg (many p es) = names_of_exprs es

abbrev pub names_of_args : List Arg → Names
names_of_args [] = []
names_of_args (a ∷ args) = names_of_arg a ++ names_of_args args

abbrev mutual
  pub names_of_stmt : Stmt → Names
  names_of_stmt (nothing p) = []
  names_of_stmt (block p ss) = names_of_stmts ss
  names_of_stmt (var p t x e) = names_of_type t ++ x ∷ names_of_start e
  names_of_stmt (assign p xs e) = xs ++ names_of_expr e
  names_of_stmt (choice p e a b) = names_of_expr e ++ (names_of_stmt a ++ names_of_else b)
  names_of_stmt (return_ p) = []
  names_of_stmt (exit_ p) = []
  names_of_stmt (call p xs args) = xs ++ (receiver_names xs args ++ names_of_args args)

  pub names_of_else : MaybeStmt → Names
  names_of_else without = []
  names_of_else (otherwise s) = names_of_stmt s

  pub names_of_stmts : Stmts → Names
  names_of_stmts done = []
  names_of_stmts (next s ss) = names_of_stmt s ++ names_of_stmts ss

-- ---- parameters and fields

abbrev pub names_of_fields : List (PTy × List ℕ) → Names
names_of_fields [] = []
names_of_fields (f ∷ fs) = names_of_type f.0 ++ f.1 ∷ names_of_fields fs

abbrev pub names_of_params : List Param → Names
names_of_params [] = []
names_of_params (q ∷ qs) = names_of_type q.ty ++ q.name ∷ names_of_params qs

-- ---- parsers

abbrev pub names_of_keyset : Keyset → Names
names_of_keyset (any p) = []
names_of_keyset (only p e) = names_of_expr e
names_of_keyset (masked p e m) = names_of_expr e ++ names_of_expr m

abbrev pub names_of_keysets : List Keyset → Names
names_of_keysets [] = []
names_of_keysets (k ∷ ks) = names_of_keyset k ++ names_of_keysets ks

abbrev pub names_of_cases : List Case → Names
names_of_cases [] = []
names_of_cases (c ∷ cs) = names_of_keysets c.keys ++ c.next ∷ names_of_cases cs

abbrev pub names_of_transition : Transition → Names
names_of_transition (nowhere p) = []
names_of_transition (to p x) = x ∷ []
names_of_transition (select p es cs) = names_of_exprs es ++ names_of_cases cs

abbrev pub names_of_states : List ParserState → Names
names_of_states [] = []
names_of_states (s ∷ ss) =
    s.name ∷ (names_of_stmts (stmts_from s.body) ++ (names_of_transition s.next ++ names_of_states ss))

-- ---- controls

-- each with the name of its kind
abbrev pub names_of_keys : List (Expr × List ℕ) → Names
names_of_keys [] = []
names_of_keys (k ∷ ks) = names_of_expr k.0 ++ k.1 ∷ names_of_keys ks

abbrev pub names_of_default : Option (List ℕ × List Expr) → Names
names_of_default None = []
names_of_default (Some d) = d.0 ∷ names_of_exprs d.1

-- a table's parts may stand in any order, which the tree does not have. It makes no difference: in a well-typed program
-- each name that stands in them was written before
abbrev pub names_of_local : Local → Names
names_of_local (local_action p a) = a.name ∷ (names_of_fields a.params ++ names_of_stmts a.body)
names_of_local (local_table p t) = t.name ∷ (names_of_keys t.keys ++ (t.actions ++ names_of_default t.default))
names_of_local (local_register p r) = names_of_type r.ty ++ r.name ∷ []
names_of_local (local_const p t x e) = names_of_type t ++ x ∷ names_of_expr e
names_of_local (local_var p t x e) = names_of_type t ++ x ∷ names_of_start e

abbrev pub names_of_locals : List Local → Names
names_of_locals [] = []
names_of_locals (l ∷ ls) = names_of_local l ++ names_of_locals ls

-- ---- programs

abbrev pub names_of_top : Top → Names
names_of_top (constant p t x e) = names_of_type t ++ x ∷ names_of_expr e
names_of_top (typedef p t x) = names_of_type t ++ x ∷ []
names_of_top (header_type p x fs) = x ∷ names_of_fields fs
names_of_top (struct_type p x fs) = x ∷ names_of_fields fs
names_of_top (register p r) = names_of_type r.ty ++ r.name ∷ []
names_of_top (parser p d) = d.name ∷ (names_of_params d.params ++ names_of_states d.states)
names_of_top (control p c) =
    c.name ∷ (names_of_params c.params ++ (names_of_locals c.locals ++ names_of_stmts c.apply))

abbrev pub names_of_tops : List Top → Names
names_of_tops [] = []
names_of_tops (t ∷ ts) = names_of_top t ++ names_of_tops ts

abbrev pub names_of_program : Program → Names
names_of_program p = names_of_tops p.tops ++ p.main

-- ---- which are taken

-- kept for monitors, or a receiver's digits, which no name is
abbrev pub is_taken : List ℕ → Bool
is_taken x = begins (codes "hydra_") x || same_text report_digits x

abbrev pub first_taken : Names → Option (List ℕ)
first_taken [] = None
first_taken (x ∷ xs) = if is_taken x then Some x else first_taken xs
