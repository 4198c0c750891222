-- Where a program uses names and values, each use with what is in sight there: expressions with the kind that is wanted
-- of them, and paths with the test that what they stand for has to pass. A call has the arguments that its form asks
-- for. Read `Statements` of `p4_statement_rules` and `Controls` of `p4_rules` before it.
use Rattle.std.specs.Prelude.{◌≡◌, ℕ, List, [], ◌∷◌, Bool, true, false, not, ◌&&◌, codes, Option, Some, None}
use Rattle.lex_text.specs.Names.{parent}
use Rattle.p4_tree.specs.Tree.{Expr, num, applied, negation, Arg, one, many, Stmt, Stmts, MaybeStmt, nothing, block, var, assign, choice, return_, exit_, call, done, next, without, otherwise, stmts_from, Keyset, any, only, masked, Case, Transition, nowhere, to, select, ParserState, Action, Table, Local, local_action, local_table, local_register, local_const, local_var, Control, Parser, Top, constant, typedef, header_type, struct_type, register, parser, control, Program}
use Rattle.p4_tree.specs.declared.statement.PTy.{PTy}
use Rattle.p4_tree.specs.declared.statement.PTy.TheVariants as type
use Rattle.p4_tree.specs.declared.program.Param.{Param}
use Rattle.p4_parser_states.specs.Cycles.{state_names}
use Rattle.p4_scopes.specs.Kinds.{as_number, as_value, index_want}
use Rattle.p4_scopes.specs.Scopes.{Stands, held, cells, act, rows, function, value_kind, Scope, value, declare, kind_in, own, core}
use Rattle.p4_scopes.specs.Uses.{reads, holds_header, holds_standard, is_table, is_action, is_algorithm, is_type, is_writable}
use Rattle.p4_scopes.specs.declared.kind.Kind.{Kind}
use Rattle.p4_scopes.specs.declared.kind.Kind.TheVariants.{Truth}
use Rattle.p4_scopes.specs.declared.thing.Thing.{Thing}
use Rattle.p4_scopes.specs.declared.thing.Thing.TheVariants.{Header, PacketIn, PacketOut}
use Rattle.p4_scopes.specs.declared.thing.Access.TheVariants.{Fixed}
use Rattle.p4_statement_rules.specs.Forms.{Form, unknown, ill, drops, digests, sums, extracts, emits, applies, reads_cell, writes_cell, makes_valid, acts, form_of, path_in}
use Rattle.p4_statement_rules.specs.Calls.{is_known}
use Rattle.p4_statement_rules.specs.Statements.{after}
use Rattle.p4_declaration_rules.specs.Declarations.{with_params}
use Rattle.p4_declaration_rules.specs.Parsers.{is_state_name, way_access, with_ways, in_states}
use Rattle.p4_declaration_rules.specs.Controls.{after_local, in_control, after_top}

-- a use of a name or a value
pub data Use : Type 0 where
  -- an expression of which a kind is wanted
  valued : (want : Kind) → Expr → Use
  -- a path to what passes a test
  named : (fits : Stands → Bool) → List (List ℕ) → Use

-- ---- what is called

-- a function or an action
abbrev pub is_called : Stands → Bool
is_called (function f) = true
is_called (act ks m) = true
is_called _ = false

-- a table, a register, a header or a packet
abbrev pub thing_has_calls : Thing → Bool
thing_has_calls (Header n) = true
thing_has_calls PacketIn = true
thing_has_calls PacketOut = true
thing_has_calls _ = false

abbrev pub has_calls : Stands → Bool
has_calls (rows m) = true
has_calls (cells k) = true
has_calls (held a t) = thing_has_calls t
has_calls _ = false

-- a field that is compared with a checksum, and no constant
abbrev pub is_compared : Stands → Bool
is_compared st = reads st && not (is_known st)

-- P holds of each use
module _ (P : Scope → Use → Type 0) where
  -- ---- expressions

  -- expressions whose places give no width
  abbrev pub AllFree : Scope → List Expr → Type 0
  AllFree s [] = Unit {0}
  AllFree s (e ∷ es) = P s (valued (as_value (own s e)) e) × AllFree s es

  -- expressions of which these kinds are wanted, one by one
  abbrev pub AllWanted : Scope → List Kind → List Expr → Type 0
  AllWanted s [] [] = Unit {0}
  AllWanted s [] (e ∷ es) = ⊥
  AllWanted s (k ∷ ks) [] = ⊥
  AllWanted s (k ∷ ks) (e ∷ es) = P s (valued k e) × AllWanted s ks es

  abbrev pub TypeUse : Scope → PTy → Type 0
  TypeUse s (type.Bit w) = Unit {0}
  TypeUse s type.Bool = Unit {0}
  TypeUse s (type.Named t) = P s (named is_type (t ∷ []))

  -- ---- arguments

  abbrev pub ValueArg : Scope → Kind → Arg → Type 0
  ValueArg s k (one p e) = P s (valued k e)
  ValueArg s k (many p es) = ⊥

  abbrev pub ValueArgs : Scope → List Kind → List Arg → Type 0
  ValueArgs s [] [] = Unit {0}
  ValueArgs s [] (a ∷ args) = ⊥
  ValueArgs s (k ∷ ks) [] = ⊥
  ValueArgs s (k ∷ ks) (a ∷ args) = ValueArg s k a × ValueArgs s ks args

  abbrev pub IndexArg : Scope → Arg → Type 0
  IndexArg s (one p e) = P s (valued (index_want (own s e)) e)
  IndexArg s (many p es) = ⊥

  abbrev pub ListArg : Scope → Arg → Type 0
  ListArg s (one p e) = ⊥
  ListArg s (many p es) = AllFree s es

  abbrev pub PathUse : (fits : Stands → Bool) → Scope → Option (ℕ × List (List ℕ)) → Type 0
  PathUse fits s None = ⊥
  PathUse fits s (Some x) = P s (named fits x.1)

  abbrev pub PathArg : (fits : Stands → Bool) → Scope → Arg → Type 0
  PathArg fits s (one p e) = PathUse fits s (path_in e)
  PathArg fits s (many p es) = ⊥

  -- a path that is written
  abbrev pub TargetArg : Scope → Arg → Type 0
  TargetArg s a = PathArg reads s a × PathArg is_writable s a

  abbrev pub OnePath : (fits : Stands → Bool) → Scope → List Arg → Type 0
  OnePath fits s [] = ⊥
  OnePath fits s (a ∷ []) = PathArg fits s a
  OnePath fits s (a ∷ b ∷ rest) = ⊥

  abbrev pub NoArgs : List Arg → Type 0
  NoArgs [] = Unit {0}
  NoArgs (a ∷ args) = ⊥

  -- the receiver of a digest is a number
  abbrev pub IsNumber : Expr → Type 0
  IsNumber (num p n) = Unit {0}
  IsNumber _ = ⊥

  abbrev pub ReceiverArg : Arg → Type 0
  ReceiverArg (one p e) = IsNumber e
  ReceiverArg (many p es) = ⊥

  -- the field of a checksum, which is compared or written
  abbrev pub FieldArg : (verifies : Bool) → Scope → Arg → Type 0
  FieldArg true s a = PathArg is_compared s a
  FieldArg false s a = TargetArg s a

  -- ---- calls

  abbrev pub DigestArgs : Scope → List Arg → Type 0
  DigestArgs s (a ∷ b ∷ []) = ReceiverArg a × ListArg s b
  DigestArgs s _ = ⊥

  abbrev pub SumArgs : (verifies : Bool) → Scope → List Arg → Type 0
  SumArgs v s (c ∷ list ∷ field ∷ h ∷ []) = ValueArg s Truth c × ListArg s list × FieldArg v s field × PathArg is_algorithm s h
  SumArgs v s _ = ⊥

  abbrev pub ReadArgs : Scope → List Arg → Type 0
  ReadArgs s (t ∷ i ∷ []) = TargetArg s t × IndexArg s i
  ReadArgs s _ = ⊥

  abbrev pub WriteArgs : Scope → Kind → List Arg → Type 0
  WriteArgs s k (i ∷ v ∷ []) = IndexArg s i × ValueArg s k v
  WriteArgs s k _ = ⊥

  -- the arguments of a call of this form
  abbrev pub FormArgs : Scope → Form → List Arg → Type 0
  FormArgs s unknown args = ⊥
  FormArgs s ill args = ⊥
  FormArgs s drops args = OnePath holds_standard s args
  FormArgs s digests args = DigestArgs s args
  FormArgs s (sums v) args = SumArgs v s args
  FormArgs s extracts args = OnePath holds_header s args
  FormArgs s emits args = OnePath holds_header s args
  FormArgs s applies args = NoArgs args
  FormArgs s (reads_cell k) args = ReadArgs s args
  FormArgs s (writes_cell k) args = WriteArgs s k args
  FormArgs s makes_valid args = NoArgs args
  FormArgs s (acts ks) args = ValueArgs s ks args

  -- what is called stands at one name, or at the names before the last one
  abbrev pub Callee : Scope → List (List ℕ) → Type 0
  Callee s [] = ⊥
  Callee s (x ∷ []) = P s (named is_called (x ∷ []))
  Callee s (x ∷ y ∷ rest) = P s (named has_calls (parent (x ∷ y ∷ rest)))

  -- ---- statements

  -- the test of an `if`, which may be the outcome of a table, perhaps behind `!`
  abbrev pub NegatedUse : Scope → (at : ℕ) → Expr → Type 0
  NegatedUse s q (applied p t h) = P s (named is_table (t ∷ []))
  NegatedUse s q e = P s (valued Truth (negation q e))

  abbrev pub TestUse : Scope → Expr → Type 0
  TestUse s (applied p t h) = P s (named is_table (t ∷ []))
  TestUse s (negation p a) = NegatedUse s p a
  TestUse s e = P s (valued Truth e)

  abbrev pub StartUse : Scope → Kind → Option Expr → Type 0
  StartUse s k None = Unit {0}
  StartUse s k (Some e) = P s (valued k e)

  abbrev mutual
    pub StmtUses : Scope → Stmt → Type 0
    StmtUses s (nothing p) = Unit {0}
    StmtUses s (block p b) = BlockUses s b
    StmtUses s (var p t x e) = TypeUse s t × StartUse s (kind_in s t) e
    StmtUses s (assign p x e) = P s (named reads x) × P s (named is_writable x) × P s (valued (value_kind (s x)) e)
    StmtUses s (choice p e a b) = TestUse s e × StmtUses s a × ElseUses s b
    StmtUses s (return_ p) = Unit {0}
    StmtUses s (exit_ p) = Unit {0}
    StmtUses s (call p x args) = Callee s x × FormArgs s (form_of s x) args

    -- the statements of a block, each behind the declarations before it
    pub BlockUses : Scope → Stmts → Type 0
    BlockUses s done = Unit {0}
    BlockUses s (next c rest) = StmtUses s c × BlockUses (after s c) rest

    pub ElseUses : Scope → MaybeStmt → Type 0
    ElseUses s without = Unit {0}
    ElseUses s (otherwise c) = StmtUses s c

  -- ---- declarations

  -- the parameters of an action
  abbrev pub ParamUses : Scope → List (PTy × List ℕ) → Type 0
  ParamUses s [] = Unit {0}
  ParamUses s (q ∷ qs) = TypeUse s q.0 × ParamUses (declare s q.1 (value Fixed q.0)) qs

  abbrev pub ActionUses : Scope → Action → Type 0
  ActionUses s a = ParamUses s a.params × BlockUses (with_params s a.params) a.body

  abbrev pub FieldUses : Scope → List (PTy × List ℕ) → Type 0
  FieldUses s [] = Unit {0}
  FieldUses s (f ∷ fs) = TypeUse s f.0 × FieldUses s fs

  abbrev pub KeyUses : Scope → List (Expr × List ℕ) → Type 0
  KeyUses s [] = Unit {0}
  KeyUses s (k ∷ ks) = P s (valued (as_value (own s k.0)) k.0) × KeyUses s ks

  -- the actions of a table
  abbrev pub ListedUses : Scope → List (List ℕ) → Type 0
  ListedUses s [] = Unit {0}
  ListedUses s (x ∷ xs) = P s (named is_action (x ∷ [])) × ListedUses s xs

  abbrev pub DefaultArgs : Scope → Stands → List Expr → Type 0
  DefaultArgs s (act ks m) es = AllWanted s ks es
  DefaultArgs s _ es = ⊥

  abbrev pub DefaultUse : Scope → Option (List ℕ × List Expr) → Type 0
  DefaultUse s None = Unit {0}
  DefaultUse s (Some d) = DefaultArgs s (s (d.0 ∷ [])) d.1

  abbrev pub TableUses : Scope → Table → Type 0
  TableUses s t = KeyUses s t.keys × ListedUses s t.actions × DefaultUse s t.default

  abbrev pub LocalUses : Scope → Local → Type 0
  LocalUses s (local_action p a) = ActionUses s a
  LocalUses s (local_table p t) = TableUses s t
  LocalUses s (local_register p r) = TypeUse s r.ty
  LocalUses s (local_const p t x e) = TypeUse s t × P s (valued (kind_in s t) e)
  LocalUses s (local_var p t x e) = TypeUse s t × StartUse s (kind_in s t) e

  abbrev pub LocalsUses : Scope → List Local → Type 0
  LocalsUses s [] = Unit {0}
  LocalsUses s (l ∷ ls) = LocalUses s l × LocalsUses (after_local s l) ls

  -- ---- parsers and controls

  -- the parameters of a parser or a control
  abbrev pub WayUses : Scope → List Param → Type 0
  WayUses s [] = Unit {0}
  WayUses s (q ∷ qs) = TypeUse s q.ty × WayUses (declare s q.name (value (way_access q.way) q.ty)) qs

  abbrev pub ControlUses : Scope → Control → Type 0
  ControlUses s c = WayUses s c.params × LocalsUses (with_ways s c.params) c.locals × BlockUses (in_control s c) c.apply

  -- a key for a value of kind k
  abbrev pub KeysetUse : Scope → Kind → Keyset → Type 0
  KeysetUse s k (any p) = Unit {0}
  KeysetUse s k (only p e) = P s (valued k e)
  KeysetUse s k (masked p e m) = P s (valued (as_number k) e) × P s (valued (as_number k) m)

  abbrev pub EachKeyset : Scope → List Expr → List Keyset → Type 0
  EachKeyset s [] [] = Unit {0}
  EachKeyset s [] (k ∷ ks) = ⊥
  EachKeyset s (e ∷ es) [] = ⊥
  EachKeyset s (e ∷ es) (k ∷ ks) = KeysetUse s (as_value (own s e)) k × EachKeyset s es ks

  -- one `default` alone fits all values
  abbrev pub KeysetUses : Scope → List Expr → List Keyset → Type 0
  KeysetUses s es (any q ∷ []) = Unit {0}
  KeysetUses s es ks = EachKeyset s es ks

  -- cases go on to names of states, which are those that pass a test
  abbrev pub CaseUses : (names : List ℕ → Bool) → Scope → List Expr → List Case → Type 0
  CaseUses k s es [] = Unit {0}
  CaseUses k s es (c ∷ cs) = KeysetUses s es c.keys × (k c.next ≡ true) × CaseUses k s es cs

  abbrev pub TransitionUses : (names : List ℕ → Bool) → Scope → Transition → Type 0
  TransitionUses k s (nowhere p) = Unit {0}
  TransitionUses k s (to p x) = k x ≡ true
  TransitionUses k s (select p es cs) = AllFree s es × CaseUses k s es cs

  abbrev pub StateUses : (names : List ℕ → Bool) → Scope → List ParserState → Type 0
  StateUses k s [] = Unit {0}
  StateUses k s (st ∷ sts) = BlockUses s (stmts_from st.body) × TransitionUses k s st.next × StateUses k s sts

  -- each state goes on to a state of the parser, `accept` or `reject`, and the parser begins in one
  abbrev pub ParserUses : Scope → Parser → Type 0
  ParserUses s d =
      WayUses s d.params
      × (is_state_name (state_names d.states) (codes "start") ≡ true)
      × StateUses (is_state_name (state_names d.states)) (in_states s d) d.states

  -- ---- programs

  abbrev pub TopUses : Scope → Top → Type 0
  TopUses s (constant p t x e) = TypeUse s t × P s (valued (kind_in s t) e)
  TopUses s (typedef p t x) = TypeUse s t
  TopUses s (header_type p x fs) = FieldUses s fs
  TopUses s (struct_type p x fs) = FieldUses s fs
  TopUses s (register p r) = TypeUse s r.ty
  TopUses s (parser p d) = ParserUses s d
  TopUses s (control p c) = ControlUses s c

  abbrev pub TopsUses : Scope → List Top → Type 0
  TopsUses s [] = Unit {0}
  TopsUses s (t ∷ ts) = TopUses s t × TopsUses (after_top s t) ts

  -- each use of a program
  abbrev pub EachUse : Program → Type 0
  EachUse program = TopsUses core program.tops
