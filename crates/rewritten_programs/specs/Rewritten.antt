-- Programs with other expressions in the place of those that are values. No scope is named, so code that changes
-- expressions says it of its result; and the form says what is left alone. Read `Values` before it, and `Tree` of `p4_tree`.
use Rattle.std.specs.Prelude.{◌≡◌, ℕ, suc, List, [], ◌∷◌, Bool, true, false, Option, Some, None}
use Rattle.std.specs.List.{AllZip}
use Rattle.p4_tree.specs.Tree.{Expr, Arg, one, many, Stmt, Stmts, MaybeStmt, nothing, block, var, assign, choice, return_, exit_, call, done, next, without, otherwise, Action, Table, Local, local_action, local_table, local_register, local_const, local_var, Control, Top, constant, typedef, header_type, struct_type, register, parser, control, Parser, Program}
use Rattle.p4_tree.specs.declared.statement.PTy.{PTy}
use Rattle.p4_tree.specs.declared.program.Register.{Register}
use Rattle.p4_rule_laws.specs.Replaced.{is_outcome}
use Rattle.rewritten_programs.specs.Values.{is_value}

-- E: what may become of an expression
module _ (E : Expr → Expr → Type 0) where
  -- ---- arguments

  pub data ArgRewritten : (value : Bool) → Arg → Arg → Type 0 where
    in_one : {e f : Expr} (p : ℕ) → E e f → ArgRewritten true (one p e) (one p f)
    in_many : {es fs : List Expr} (p : ℕ) → AllZip E es fs → ArgRewritten true (many p es) (many p fs)
    no_value : (a : Arg) → ArgRewritten false a a

  -- arguments from this number on, where a test tells which are values
  pub data ArgsRewritten (values : ℕ → Bool) : (number : ℕ) → List Arg → List Arg → Type 0 where
    no_args : (n : ℕ) → ArgsRewritten values n [] []
    arg_then : {a b : Arg} {xs ys : List Arg} (n : ℕ) → ArgRewritten (values n) a b → ArgsRewritten values (suc n) xs ys → ArgsRewritten values n (a ∷ xs) (b ∷ ys)

  -- ---- statements

  -- a first value, where there is one
  pub data StartRewritten : Option Expr → Option Expr → Type 0 where
    no_start : StartRewritten None None
    in_start : {e f : Expr} → E e f → StartRewritten (Some e) (Some f)

  -- a test that is no table's outcome
  pub data TestRewritten : Expr → Expr → Type 0 where
    outcome : {e : Expr} → is_outcome e ≡ true → TestRewritten e e
    in_test : {e f : Expr} → is_outcome e ≡ false → E e f → TestRewritten e f

  mutual
    pub data StmtRewritten : Stmt → Stmt → Type 0 where
      lone : (p : ℕ) → StmtRewritten (nothing p) (nothing p)
      returns : (p : ℕ) → StmtRewritten (return_ p) (return_ p)
      exits : (p : ℕ) → StmtRewritten (exit_ p) (exit_ p)
      in_block : {a b : Stmts} (p : ℕ) → BlockRewritten a b → StmtRewritten (block p a) (block p b)
      in_var : {d e : Option Expr} (p : ℕ) (t : PTy) (x : List ℕ) → StartRewritten d e → StmtRewritten (var p t x d) (var p t x e)
      in_assign : {e f : Expr} (p : ℕ) (x : List (List ℕ)) → E e f → StmtRewritten (assign p x e) (assign p x f)
      in_choice : {e f : Expr} {a b : Stmt} {c d : MaybeStmt} (p : ℕ) → TestRewritten e f → StmtRewritten a b → ElseRewritten c d → StmtRewritten (choice p e a c) (choice p f b d)
      in_call : {xs ys : List Arg} (p : ℕ) (x : List (List ℕ)) → ArgsRewritten (is_value x) 0 xs ys → StmtRewritten (call p x xs) (call p x ys)

    pub data ElseRewritten : MaybeStmt → MaybeStmt → Type 0 where
      no_else : ElseRewritten without without
      in_else : {a b : Stmt} → StmtRewritten a b → ElseRewritten (otherwise a) (otherwise b)

    pub data BlockRewritten : Stmts → Stmts → Type 0 where
      none_left : BlockRewritten done done
      first_then : {c d : Stmt} {a b : Stmts} → StmtRewritten c d → BlockRewritten a b → BlockRewritten (next c a) (next d b)

  -- ---- declarations of a control

  pub record ActionRewritten (a b : Action) : Type 0 where
    pub body : BlockRewritten a.body b.body
    -- nothing else is another
    pub rest : b ≡ record a { body = b.body }

  -- a key of a table, which is matched in the same way
  abbrev pub KeyRewritten : Expr × List ℕ → Expr × List ℕ → Type 0
  KeyRewritten k l = E k.0 l.0 × (l.1 ≡ k.1)

  -- actions and the default stay
  pub record TableRewritten (t u : Table) : Type 0 where
    pub keys : AllZip KeyRewritten t.keys u.keys
    pub rest : u ≡ record t { keys = u.keys }

  pub data LocalRewritten : Local → Local → Type 0 where
    in_action : {a b : Action} (p : ℕ) → ActionRewritten a b → LocalRewritten (local_action p a) (local_action p b)
    in_table : {t u : Table} (p : ℕ) → TableRewritten t u → LocalRewritten (local_table p t) (local_table p u)
    local_register_stays : (p : ℕ) (r : Register) → LocalRewritten (local_register p r) (local_register p r)
    local_const_stays : (p : ℕ) (t : PTy) (x : List ℕ) (e : Expr) → LocalRewritten (local_const p t x e) (local_const p t x e)
    in_local_var : {d e : Option Expr} (p : ℕ) (t : PTy) (x : List ℕ) → StartRewritten d e → LocalRewritten (local_var p t x d) (local_var p t x e)

  -- ---- programs

  pub record ControlRewritten (c d : Control) : Type 0 where
    pub locals : AllZip LocalRewritten c.locals d.locals
    pub apply : BlockRewritten c.apply d.apply
    pub rest : d ≡ record c { locals = d.locals; apply = d.apply }

  pub data TopRewritten : Top → Top → Type 0 where
    constant_stays : (p : ℕ) (t : PTy) (x : List ℕ) (e : Expr) → TopRewritten (constant p t x e) (constant p t x e)
    typedef_stays : (p : ℕ) (t : PTy) (x : List ℕ) → TopRewritten (typedef p t x) (typedef p t x)
    header_stays : (p : ℕ) (x : List ℕ) (fs : List (PTy × List ℕ)) → TopRewritten (header_type p x fs) (header_type p x fs)
    struct_stays : (p : ℕ) (x : List ℕ) (fs : List (PTy × List ℕ)) → TopRewritten (struct_type p x fs) (struct_type p x fs)
    register_stays : (p : ℕ) (r : Register) → TopRewritten (register p r) (register p r)
    parser_stays : (p : ℕ) (d : Parser) → TopRewritten (parser p d) (parser p d)
    in_control : {c d : Control} (p : ℕ) → ControlRewritten c d → TopRewritten (control p c) (control p d)

  -- what is declared, and `main`, stay where they are
  pub record ProgramRewritten (p q : Program) : Type 0 where
    pub tops : AllZip TopRewritten p.tops q.tops
    pub rest : q ≡ record p { tops = q.tops }
