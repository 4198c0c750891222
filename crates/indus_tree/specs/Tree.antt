-- Trees of properties without pointers. The first part of each node is the number of its first token. Read `State`
-- after it.
use Rattle.std.specs.Prelude.{ℕ, ◌+◌, List, [], ◌∷◌, Bool, Option}
use Rattle.lex_text.specs.declared.literal.Literal.{Literal}
use Rattle.indus_tree.specs.declared.tree.DeclKind.{DeclKind}
use Rattle.indus_tree.specs.declared.tree.Op.{Op}
use Rattle.indus_tree.specs.declared.tree.Ty.{Ty}

-- what a variable holds: one value, a list or an array of so many, a set of keys, a dict from keys to values. The
-- key of a set or a dict has one part or more
pub data Shape : Type 0 where
  one : (type : Ty) → Shape
  list : (type : Ty) (size : ℕ) → Shape
  set : (key : List Ty) → Shape
  dict : (key : List Ty) (value : Ty) → Shape

mutual
  -- an expression
  pub data Expr : Type 0 where
    num : (at : ℕ) (literal : Literal) → Expr
    flag : (at : ℕ) (value : Bool) → Expr
    read : (at : ℕ) (name : List ℕ) → Expr
    count : (at : ℕ) (name : List ℕ) → Expr
    index : (at : ℕ) (name : List ℕ) (key : Exprs) → Expr
    member : (at : ℕ) (key : Exprs) (name : List ℕ) → Expr
    negation : (at : ℕ) (operand : Expr) → Expr
    inversion : (at : ℕ) (operand : Expr) → Expr
    binary : (at : ℕ) (op : Op) (left right : Expr) → Expr
    cast : (at : ℕ) (width : ℕ) (operand : Expr) → Expr

  -- a list of expressions
  pub data Exprs : Type 0 where
    none : Exprs
    more : (first : Expr) (rest : Exprs) → Exprs

-- a list of expressions, in the form of the tree
abbrev pub exprs_from : List Expr → Exprs
exprs_from [] = none
exprs_from (e ∷ es) = more e (exprs_from es)

-- how many expressions a list has
abbrev pub exprs_count : Exprs → ℕ
exprs_count none = 0
exprs_count (more e es) = exprs_count es + 1

mutual
  -- a statement
  pub data Stmt : Type 0 where
    assign : (at : ℕ) (name : List ℕ) (value : Expr) → Stmt
    cell : (at : ℕ) (name : List ℕ) (index value : Expr) → Stmt
    push : (at : ℕ) (name : List ℕ) (value : Expr) → Stmt
    choice : (at : ℕ) (test : Expr) (where_it_holds elsewhere : Stmts) → Stmt
    loop : (at : ℕ) (names lists : List (List ℕ)) (body : Stmts) → Stmt
    reject : (at : ℕ) → Stmt
    report : (at : ℕ) (number : ℕ) (values : Exprs) → Stmt

  -- a block
  pub data Stmts : Type 0 where
    done : Stmts
    next : (first : Stmt) (rest : Stmts) → Stmts

-- a list of statements as a block
abbrev pub block_from : List Stmt → Stmts
block_from [] = done
block_from (s ∷ ss) = next s (block_from ss)

-- a declaration
pub record Decl : Type 0 where
  pub at : ℕ
  pub kind : DeclKind
  pub name : List ℕ
  pub shape : Shape
  pub start : Option Expr
  pub path : List (List ℕ)
  pub valid : Bool

-- a property, with the edition of the language in which it is written, 1 or 2
pub record Property : Type 0 where
  pub at : ℕ
  pub edition : ℕ
  pub decls : List Decl
  pub init : Stmts
  pub tele : Stmts
  pub check : Stmts
