-- The places of a tree rise in the order of the text, and lie among the lexemes that spell it. R: an item's places rise from p on, and are below q.
use Rattle.std.specs.Prelude.{◌≡◌, ℕ, ◌+◌, ◌≤◌, ◌<◌, List, [], ◌∷◌, length, Option, Some, None}
use Rattle.lex_words.specs.Seen.{Lexeme}
use Rattle.p4_tree.specs.Tree.{Expr, num, flag, path, valid, applied, error_name, negation, inversion, opposite, binary, conditional, slice, cast, Arg, one, many, Stmt, Stmts, MaybeStmt, nothing, block, var, assign, choice, return_, exit_, call, done, next, without, otherwise, Keyset, any, only, masked, Case, Transition, nowhere, to, select, ParserState, Parser, Action, Table, Local, local_action, local_table, local_register, local_const, local_var, Control, Top, constant, typedef, header_type, struct_type, register, parser, control, Program}
use Rattle.p4_tree.specs.declared.program.Param.{Param}
use Rattle.p4_spelling.specs.Programs.{SpellsProgram}

-- a node with no place inside it
abbrev pub IsBetween : (p q at : ℕ) → Type 0
IsBetween p q at = (p ≤ at) × (at < q)

-- one item behind the other
abbrev pub EachRises : {A : Type 0} → (R : (p q : ℕ) → A → Type 0) → (p q : ℕ) → List A → Type 0
EachRises R p q [] = p ≤ q
EachRises R p q (a ∷ rest) = (m : ℕ) × R p m a × EachRises R m q rest

-- what may be there
abbrev pub MayRise : {A : Type 0} → (R : (p q : ℕ) → A → Type 0) → (p q : ℕ) → Option A → Type 0
MayRise R p q None = p ≤ q
MayRise R p q (Some a) = R p q a

-- ---- expressions

-- the expression's places rise from p on, and are below q
abbrev pub Rises : (p q : ℕ) → Expr → Type 0
Rises p q (num r n) = IsBetween p q r
Rises p q (flag r b) = IsBetween p q r
Rises p q (path r xs) = IsBetween p q r
Rises p q (valid r xs) = IsBetween p q r
Rises p q (applied r x hit) = IsBetween p q r
Rises p q (error_name r x) = IsBetween p q r
Rises p q (negation r a) = (p ≤ r) × Rises (r + 1) q a
Rises p q (inversion r a) = (p ≤ r) × Rises (r + 1) q a
Rises p q (opposite r a) = (p ≤ r) × Rises (r + 1) q a
-- the place of an operator, a condition or a slice is that of its first part's first lexeme
Rises p q (binary r op a b) = (p ≤ r) × ((m : ℕ) × Rises r m a × Rises (m + 1) q b)
Rises p q (conditional r a b c) = (p ≤ r) × ((m : ℕ) × (k : ℕ) × Rises r m a × Rises (m + 1) k b × Rises (k + 1) q c)
Rises p q (slice r a high low) = (p ≤ r) × Rises r q a
Rises p q (cast r t a) = (p ≤ r) × Rises (r + 1) q a

-- ---- statements

-- an argument in no braces stands where its expression stands
abbrev pub ArgRises : (p q : ℕ) → Arg → Type 0
ArgRises p q (one r e) = (p ≤ r) × Rises r q e
ArgRises p q (many r es) = (p ≤ r) × EachRises Rises (r + 1) q es

abbrev mutual
  pub StmtRises : (p q : ℕ) → Stmt → Type 0
  StmtRises p q (nothing r) = IsBetween p q r
  StmtRises p q (block r ss) = (p ≤ r) × StmtsRise (r + 1) q ss
  StmtRises p q (var r t x e) = (p ≤ r) × MayRise Rises (r + 1) q e
  StmtRises p q (assign r xs e) = (p ≤ r) × Rises (r + 1) q e
  StmtRises p q (choice r e a b) = (p ≤ r) × ((m : ℕ) × (k : ℕ) × Rises (r + 1) m e × StmtRises m k a × ElseRises k q b)
  StmtRises p q (return_ r) = IsBetween p q r
  StmtRises p q (exit_ r) = IsBetween p q r
  StmtRises p q (call r xs args) = (p ≤ r) × EachRises ArgRises (r + 1) q args

  pub StmtsRise : (p q : ℕ) → Stmts → Type 0
  StmtsRise p q done = p ≤ q
  StmtsRise p q (next s ss) = (m : ℕ) × StmtRises p m s × StmtsRise m q ss

  pub ElseRises : (p q : ℕ) → MaybeStmt → Type 0
  ElseRises p q without = p ≤ q
  ElseRises p q (otherwise s) = StmtRises p q s

-- ---- parsers

-- a value stands where its key stands
abbrev pub KeysetRises : (p q : ℕ) → Keyset → Type 0
KeysetRises p q (any r) = IsBetween p q r
KeysetRises p q (only r e) = (p ≤ r) × Rises r q e
KeysetRises p q (masked r e m) = (p ≤ r) × ((k : ℕ) × Rises r k e × Rises (k + 1) q m)

abbrev pub CaseRises : (p q : ℕ) → Case → Type 0
CaseRises p q c = EachRises KeysetRises p q c.keys

-- where nothing says how a state goes on there is no lexeme
abbrev pub NextRises : (p q : ℕ) → Transition → Type 0
NextRises p q (nowhere r) = (p ≤ r) × (r ≤ q)
NextRises p q (to r x) = IsBetween p q r
NextRises p q (select r es cs) = (p ≤ r) × ((m : ℕ) × EachRises Rises (r + 1) m es × EachRises CaseRises m q cs)

abbrev pub ParamRises : (p q : ℕ) → Param → Type 0
ParamRises p q d = IsBetween p q d.at

abbrev pub StateRises : (p q : ℕ) → ParserState → Type 0
StateRises p q s = (p ≤ s.at) × ((m : ℕ) × EachRises StmtRises (s.at + 1) m s.body × NextRises m q s.next)

abbrev pub ParserRises : (p q : ℕ) → Parser → Type 0
ParserRises p q d = (p ≤ d.at) × ((m : ℕ) × EachRises ParamRises (d.at + 1) m d.params × EachRises StateRises m q d.states)

-- ---- controls

abbrev pub ActionRises : (p q : ℕ) → Action → Type 0
ActionRises p q d = (p ≤ d.at) × StmtsRise (d.at + 1) q d.body

abbrev pub KeyRises : (p q : ℕ) → Expr × List ℕ → Type 0
KeyRises p q x = Rises p q x.0

abbrev pub DefaultRises : (p q : ℕ) → List ℕ × List Expr → Type 0
DefaultRises p q x = EachRises Rises p q x.1

-- keys may stand before the default or behind it; nothing is said of which
abbrev pub TableRises : (p q : ℕ) → Table → Type 0
TableRises p q d = (p ≤ d.at) × (d.at < q) × EachRises KeyRises (d.at + 1) q d.keys × MayRise DefaultRises (d.at + 1) q d.default

-- a declaration that is a node of its own stands where the local stands
abbrev pub LocalRises : (p q : ℕ) → Local → Type 0
LocalRises p q (local_action r d) = (p ≤ r) × (d.at ≡ r) × ActionRises r q d
LocalRises p q (local_table r d) = (p ≤ r) × (d.at ≡ r) × TableRises r q d
LocalRises p q (local_register r d) = IsBetween p q r × (d.at ≡ r)
LocalRises p q (local_const r t x e) = (p ≤ r) × Rises (r + 1) q e
LocalRises p q (local_var r t x e) = (p ≤ r) × MayRise Rises (r + 1) q e

abbrev pub ControlRises : (p q : ℕ) → Control → Type 0
ControlRises p q d = (p ≤ d.at) × ((m : ℕ) × (k : ℕ) × EachRises ParamRises (d.at + 1) m d.params × EachRises LocalRises m k d.locals × StmtsRise k q d.apply)

-- ---- programs

abbrev pub TopRises : (p q : ℕ) → Top → Type 0
TopRises p q (constant r t x e) = (p ≤ r) × Rises (r + 1) q e
TopRises p q (typedef r t x) = IsBetween p q r
TopRises p q (header_type r x fs) = IsBetween p q r
TopRises p q (struct_type r x fs) = IsBetween p q r
TopRises p q (register r d) = IsBetween p q r × (d.at ≡ r)
TopRises p q (parser r d) = (p ≤ r) × (d.at ≡ r) × ParserRises r q d
TopRises p q (control r d) = (p ≤ r) × (d.at ≡ r) × ControlRises r q d

-- a program's places rise from 0 on, and are below q
pub record ProgramRises (q : ℕ) (t : Program) : Type 0 where
  pub at : t.at ≡ 0
  pub tops : EachRises TopRises 0 q t.tops

-- a spelled tree's places rise, and lie among its lexemes
abbrev pub PlacesRise : Type 0
PlacesRise = (t : Program) (ws : List Lexeme) → SpellsProgram t ws → ProgramRises (length ws) t
