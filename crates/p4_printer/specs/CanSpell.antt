-- Trees that some lexemes spell, but for places: names are names and no reserved words, numbers are in range, what has to
-- stand is there, and no `else` would go to a nearer `if`.
use Rattle.std.specs.Prelude.{◌≡◌, ℕ, ◌≤◌, ◌<◌, ◌^◌, ◌⊎◌, Bool, true, false, List, [], ◌∷◌, Option, Some, None}
use Rattle.lex_text.specs.declared.token.Words.TheVariants.{P4}
use Rattle.lex_words.specs.Seen.{name, number}
use Rattle.lex_words.specs.Written.{IsLexeme}
use Rattle.p4_tree.specs.Tree.{Expr, num, flag, path, valid, applied, error_name, negation, inversion, opposite, binary, conditional, slice, cast, Arg, one, many, Stmt, Stmts, nothing, block, var, assign, choice, return_, exit_, call, done, next, without, otherwise, Keyset, any, only, masked, Case, Transition, nowhere, to, select, ParserState, Action, Table, Local, local_action, local_table, local_register, local_const, local_var, Control, Parser, Top, constant, typedef, header_type, struct_type, register, parser, control, Program}
use Rattle.p4_tree.specs.declared.statement.PTy.{PTy}
use Rattle.p4_tree.specs.declared.statement.PTy.TheVariants as type
use Rattle.p4_tree.specs.declared.program.Param.{Param}
use Rattle.p4_tree.specs.declared.program.Register.{Register}
use Rattle.p4_spelling.specs.Controls.{is_apply}

-- ---- names, numbers and lists

-- a name that is no reserved word
abbrev pub IsName : List ℕ → Type 0
IsName x = IsLexeme P4 (name x)

-- each item can be spelled; C: which items can
abbrev pub EachCan : {A : Type 0} → (A → Type 0) → List A → Type 0
EachCan C [] = Unit {0}
EachCan C (a ∷ rest) = C a × EachCan C rest

-- the same, and there is one
abbrev pub SomeCan : {A : Type 0} → (A → Type 0) → List A → Type 0
SomeCan C [] = ⊥
SomeCan C (a ∷ rest) = C a × EachCan C rest

-- the same, where there is one
abbrev pub MayCan : {A : Type 0} → (A → Type 0) → Option A → Type 0
MayCan C None = Unit {0}
MayCan C (Some a) = C a

-- a number without a written width
abbrev pub IsCount : ℕ → Type 0
IsCount n = n < 2 ^ 128

-- ---- types and expressions

-- a type of numbers or of truth values
abbrev pub CanSpellScalar : PTy → Type 0
CanSpellScalar (type.Bit w) = w ≤ 255
CanSpellScalar type.Bool = Unit {0}
CanSpellScalar (type.Named x) = ⊥

-- a type
abbrev pub CanSpellType : PTy → Type 0
CanSpellType (type.Bit w) = w ≤ 255
CanSpellType type.Bool = Unit {0}
CanSpellType (type.Named x) = IsName x

-- a path has a name at least
abbrev pub CanSpellPath : List (List ℕ) → Type 0
CanSpellPath xs = SomeCan IsName xs

-- an expression
abbrev pub CanSpellExpr : Expr → Type 0
CanSpellExpr (num p n) = IsLexeme P4 (number n)
CanSpellExpr (flag p b) = Unit {0}
CanSpellExpr (path p xs) = CanSpellPath xs
CanSpellExpr (valid p xs) = CanSpellPath xs
CanSpellExpr (applied p x hit) = IsName x
CanSpellExpr (error_name p x) = IsName x
CanSpellExpr (negation p a) = CanSpellExpr a
CanSpellExpr (inversion p a) = CanSpellExpr a
CanSpellExpr (opposite p a) = CanSpellExpr a
CanSpellExpr (binary p op a b) = CanSpellExpr a × CanSpellExpr b
CanSpellExpr (conditional p t a b) = CanSpellExpr t × CanSpellExpr a × CanSpellExpr b
CanSpellExpr (slice p a high low) = CanSpellExpr a × (high ≤ 255) × (low ≤ 255)
CanSpellExpr (cast p t a) = CanSpellScalar t × CanSpellExpr a

-- ---- statements

-- an argument
abbrev pub CanSpellArg : Arg → Type 0
CanSpellArg (one p e) = CanSpellExpr e
CanSpellArg (many p es) = SomeCan CanSpellExpr es

-- a variable, and a constant
abbrev pub CanSpellVar : PTy → List ℕ → Option Expr → Type 0
CanSpellVar t x e = CanSpellType t × IsName x × MayCan CanSpellExpr e

abbrev pub CanSpellConst : PTy → List ℕ → Expr → Type 0
CanSpellConst t x e = CanSpellType t × IsName x × CanSpellExpr e

-- a variable, where the statement declares one
abbrev pub IsVar : Stmt → Type 0
IsVar (var p t x e) = CanSpellVar t x e
IsVar _ = ⊥

abbrev mutual
  -- A statement. Where closed holds, an `else` behind it would not belong to it: no `if` without `else` ends it.
  pub CanSpellStmt : (closed : Bool) → Stmt → Type 0
  CanSpellStmt closed (nothing p) = Unit {0}
  CanSpellStmt closed (block p ss) = CanSpellStmts ss
  CanSpellStmt closed (var p t x e) = ⊥
  CanSpellStmt closed (assign p xs e) = CanSpellPath xs × CanSpellExpr e
  CanSpellStmt closed (choice p e a without) = CanSpellExpr e × CanSpellStmt false a × (closed ≡ false)
  CanSpellStmt closed (choice p e a (otherwise b)) = CanSpellExpr e × CanSpellStmt true a × CanSpellStmt closed b
  CanSpellStmt closed (return_ p) = Unit {0}
  CanSpellStmt closed (exit_ p) = Unit {0}
  CanSpellStmt closed (call p xs args) = CanSpellPath xs × EachCan CanSpellArg args

  -- the items of a block: variables, and statements behind which no `else` stands
  pub CanSpellStmts : Stmts → Type 0
  CanSpellStmts done = Unit {0}
  CanSpellStmts (next s ss) = (CanSpellStmt false s ⊎ IsVar s) × CanSpellStmts ss

-- ---- parsers

-- an argument of a state's call: one path
abbrev pub IsPathAlone : List Arg → Type 0
IsPathAlone (one p (path q xs) ∷ []) = CanSpellPath xs
IsPathAlone _ = ⊥

-- a statement of a state: an assignment, or a call with one path
abbrev pub CanSpellParserStmt : Stmt → Type 0
CanSpellParserStmt (assign p xs e) = CanSpellPath xs × CanSpellExpr e
CanSpellParserStmt (call p xs args) = CanSpellPath xs × IsPathAlone args
CanSpellParserStmt _ = ⊥

-- a number, a name or a truth value
abbrev pub CanSpellSimple : Expr → Type 0
CanSpellSimple (num p n) = IsLexeme P4 (number n)
CanSpellSimple (path p (x ∷ [])) = IsName x
CanSpellSimple (flag p b) = Unit {0}
CanSpellSimple _ = ⊥

-- a key of a `select`
abbrev pub CanSpellKeyset : Keyset → Type 0
CanSpellKeyset (any p) = Unit {0}
CanSpellKeyset (only p e) = CanSpellSimple e
CanSpellKeyset (masked p e m) = CanSpellSimple e × CanSpellSimple m

-- a case
abbrev pub CanSpellCase : Case → Type 0
CanSpellCase c = SomeCan CanSpellKeyset c.keys × IsName c.next

-- how a state goes on
abbrev pub CanSpellNext : Transition → Type 0
CanSpellNext (nowhere p) = Unit {0}
CanSpellNext (to p x) = IsName x
CanSpellNext (select p es cs) = SomeCan CanSpellExpr es × EachCan CanSpellCase cs

-- a state
abbrev pub CanSpellState : ParserState → Type 0
CanSpellState s = IsName s.name × EachCan CanSpellParserStmt s.body × CanSpellNext s.next

-- a parameter of a parser or a control
abbrev pub CanSpellParam : Param → Type 0
CanSpellParam d = CanSpellType d.ty × IsName d.name

-- a parser
abbrev pub CanSpellParser : Parser → Type 0
CanSpellParser d = IsName d.name × SomeCan CanSpellParam d.params × EachCan CanSpellState d.states

-- ---- controls

-- a name with a type: a field, or a parameter of an action
abbrev pub CanSpellField : PTy × List ℕ → Type 0
CanSpellField f = CanSpellType f.0 × IsName f.1

-- an action
abbrev pub CanSpellAction : Action → Type 0
CanSpellAction d = IsName d.name × EachCan CanSpellField d.params × CanSpellStmts d.body

-- a key of a table, with the name of its kind
abbrev pub CanSpellKey : Expr × List ℕ → Type 0
CanSpellKey e = CanSpellExpr e.0 × IsName e.1

-- a default action; `const` stands before one alone
abbrev pub CanSpellDefault : (fixed : Bool) → Option (List ℕ × List Expr) → Type 0
CanSpellDefault fixed None = fixed ≡ false
CanSpellDefault fixed (Some d) = IsName d.0 × EachCan CanSpellExpr d.1

-- a table
abbrev pub CanSpellTable : Table → Type 0
CanSpellTable d = IsName d.name × EachCan CanSpellKey d.keys × EachCan IsName d.actions × MayCan IsCount d.size × CanSpellDefault d.fixed d.default

-- a register
abbrev pub CanSpellRegister : Register → Type 0
CanSpellRegister d = CanSpellType d.ty × IsCount d.count × IsName d.name

-- a declaration inside a control; none begins with `apply`
abbrev pub CanSpellLocal : Local → Type 0
CanSpellLocal (local_action p d) = CanSpellAction d
CanSpellLocal (local_table p d) = CanSpellTable d
CanSpellLocal (local_register p d) = CanSpellRegister d
CanSpellLocal (local_const p t x e) = CanSpellConst t x e
CanSpellLocal (local_var p t x e) = (is_apply t ≡ false) × CanSpellVar t x e

-- a control
abbrev pub CanSpellControl : Control → Type 0
CanSpellControl d = IsName d.name × SomeCan CanSpellParam d.params × EachCan CanSpellLocal d.locals × CanSpellStmts d.apply

-- ---- programs

-- a declaration at top level
abbrev pub CanSpellTop : Top → Type 0
CanSpellTop (constant p t x e) = CanSpellConst t x e
CanSpellTop (typedef p t x) = CanSpellType t × IsName x
CanSpellTop (header_type p x fs) = IsName x × EachCan CanSpellField fs
CanSpellTop (struct_type p x fs) = IsName x × EachCan CanSpellField fs
CanSpellTop (register p d) = CanSpellRegister d
CanSpellTop (parser p d) = CanSpellParser d
CanSpellTop (control p d) = CanSpellControl d

-- a program; `main` names one parser or control at least
pub record CanSpell (t : Program) : Type 0 where
  pub tops : EachCan CanSpellTop t.tops
  pub main : SomeCan IsName t.main
