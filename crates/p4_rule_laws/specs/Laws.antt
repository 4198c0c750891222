-- How what is tested of a program follows from its parts: names, scopes, statements and expressions. Read `Old`, `Kept`,
-- `Guards` and `Replaced` before it and `Growth` after it.
use Rattle.std.specs.Prelude.{◌≡◌, ◌↔◌, ℕ, List, [], ◌∷◌, ◌++◌, Bool, true, false}
use Rattle.lex_text.specs.Names.{same_text}
use Rattle.rule_tests.specs.Tests.{IsFine}
use Rattle.p4_tree.specs.Places.{plain_stmts, IsSameProgram}
use Rattle.p4_tree.specs.Tree.{Expr, flag, path, Stmt, Stmts, assign, and_then, ParserState, Local, Control, Parser, Top, Program}
use Rattle.p4_tree.specs.declared.statement.PTy.{PTy}
use Rattle.p4_tree.specs.declared.statement.PTy.TheVariants as type
use Rattle.p4_tree.specs.declared.program.Param.{Param}
use Rattle.p4_scopes.specs.Scopes.{Scope, is_missing, What, fields, value, behind, declare, core, own, add_up}
use Rattle.p4_scopes.specs.declared.kind.Kind.{Kind}
use Rattle.p4_scopes.specs.declared.kind.Kind.TheVariants.{Truth}
use Rattle.p4_scopes.specs.declared.thing.Thing.{Thing}
use Rattle.p4_scopes.specs.declared.thing.Access.TheVariants.{Writable}
use Rattle.p4_statement_rules.specs.Expressions.{scalar_tests, expr_tests}
use Rattle.p4_statement_rules.specs.Forms.{takes_any, takes_assignments}
use Rattle.p4_statement_rules.specs.Statements.{if_tests, after_all, stmt_tests, block_tests}
use Rattle.p4_statement_rules.specs.declared.rule.Part.{Part}
use Rattle.p4_declaration_rules.specs.Digests.{most_of_stmt, most_of}
use Rattle.p4_declaration_rules.specs.Declarations.{params_tests, with_params}
use Rattle.p4_declaration_rules.specs.Parsers.{with_ways, ways_tests, with_states, states_names, states_tests, parser_tests}
use Rattle.p4_declaration_rules.specs.Controls.{locals_tests, after_locals, control_tests, tops_tests, after_tops}
use Rattle.p4_declaration_rules.specs.Firsts.{first_tops}
use Rattle.p4_rules.specs.ProgramRules.{program_tests, IsWellTyped}
use Rattle.p4_rule_laws.specs.Old.{Names, Alike, OldType, OldFields, OldWhat, OldExpr, OldStmt, OldStmts}
use Rattle.p4_rule_laws.specs.OldPrograms.{OldWays, OldStates, OldParser, OldLocals, OldControl, OldTops}
use Rattle.p4_rule_laws.specs.Kept.{Keeps, IsRooted, FreeStmt, FreeStmts, NewTops, NewLocals, NewStates, NewFields, NewVars}
use Rattle.p4_rule_laws.specs.Guards.{guarded, IsFlag, flagged}
use Rattle.p4_rule_laws.specs.Replaced.{Replaces, PartsReplaced, is_outcome, BlockReplaced}

-- a program is well typed exactly where all that is tested of it is fine; `IsFine` of a list of tests is that of each
abbrev pub WellTypedIsFine : Type 0
WellTypedIsFine = (program : Program) → IsWellTyped program ↔ IsFine (program_tests program)

-- places don't count: a program that is printed and read back is well typed where the given one is
pub record PlacesDontCount : Type 0 where
  pub blocks : (h : Part) (s : Scope) (b c : Stmts) → plain_stmts b ≡ plain_stmts c → IsFine (block_tests h s b) → IsFine (block_tests h s c)
  pub programs : (p q : Program) → IsSameProgram p q → IsWellTyped p → IsWellTyped q

-- ---- what is tested of a tree rests on what its names stand for, names of the architecture's own among them: two
-- scopes that agree on the names that are looked up have the same tests, and as many digests
pub record TestsRestOnNames : Type 0 where
  pub kinds : (old : Names) (s t : Scope) → Alike old s t → (e : Expr) → OldExpr old e → own s e ≡ own t e
  pub expressions : (old : Names) (s t : Scope) → Alike old s t → (w : Kind) (e : Expr) → OldExpr old e → expr_tests s w e ≡ expr_tests t w e
  pub types : (old : Names) (s t : Scope) → Alike old s t → (p : ℕ) (y : PTy) → OldType old y → scalar_tests p s y ≡ scalar_tests p t y
  pub statements : (old : Names) (s t : Scope) → Alike old s t → (h : Part) (c : Stmt) → OldStmt old c → stmt_tests h s c ≡ stmt_tests h t c
  pub blocks : (old : Names) (s t : Scope) → Alike old s t → (h : Part) (b : Stmts) → OldStmts old b → block_tests h s b ≡ block_tests h t b
  pub digests : (old : Names) (s t : Scope) → Alike old s t → (b : Stmts) → OldStmts old b → most_of s b ≡ most_of t b
  pub locals : (old : Names) (s t : Scope) → Alike old s t → (h : Part) (ls : List Local) → OldLocals old ls → locals_tests h s ls ≡ locals_tests h t ls
  pub params : (old : Names) (s t : Scope) → Alike old s t → (qs : List Param) → OldWays old qs → ways_tests s qs ≡ ways_tests t qs
  pub states : (old : Names) (s t : Scope) → Alike old s t → (all sts : List ParserState) → OldStates old sts → states_tests all s sts ≡ states_tests all t sts
  pub parsers : (old : Names) (s t : Scope) → Alike old s t → (d : Parser) → OldParser old d → parser_tests s d ≡ parser_tests t d
  pub controls : (old : Names) (s t : Scope) → Alike old s t → (h : Part) (c : Control) → OldControl old c → control_tests h s c ≡ control_tests h t c
  pub programs : (old : Names) (s t : Scope) → Alike old s t → (main : List (List ℕ)) (ys : List Top) → OldTops old ys → tops_tests main s ys ≡ tops_tests main t ys

-- scopes that agree on old names do so behind the same declarations
pub record ScopesStayAlike : Type 0 where
  pub self : (old : Names) (s : Scope) → Alike old s s
  pub through : (old : Names) (s t u : Scope) → Alike old s t → Alike old t u → Alike old s u
  pub declared : (old : Names) (s t : Scope) → Alike old s t → (n : List ℕ) (w : What) → OldWhat old w → Alike old (declare s n w) (declare t n w)
  pub blocks : (old : Names) (s t : Scope) → Alike old s t → (b : Stmts) → OldStmts old b → Alike old (after_all s b) (after_all t b)
  pub params : (old : Names) (s t : Scope) → Alike old s t → (qs : List Param) → OldWays old qs → Alike old (with_ways s qs) (with_ways t qs)
  pub action_params : (old : Names) (s t : Scope) → Alike old s t → (qs : List (PTy × List ℕ)) → OldFields old qs → Alike old (with_params s qs) (with_params t qs)
  pub states : (old : Names) (s t : Scope) → Alike old s t → (sts : List ParserState) → OldStates old sts → Alike old (with_states s sts) (with_states t sts)
  pub locals : (old : Names) (s t : Scope) → Alike old s t → (ls : List Local) → OldLocals old ls → Alike old (after_locals s ls) (after_locals t ls)
  pub programs : (old : Names) (s t : Scope) → Alike old s t → (ys : List Top) → OldTops old ys → Alike old (after_tops s ys) (after_tops t ys)

-- a declaration of a name that is not old is not seen by old names, and neither are fields of such names, in front of
-- the fields of a type and behind them
pub record NewNamesAreNotSeen : Type 0 where
  pub declared : (old : Names) (s t : Scope) → Alike old s t → (n : List ℕ) (w : What) → old n ≡ false → Alike old s (declare t n w)
  pub blocks : (old : Names) (s t : Scope) → Alike old s t → (b : Stmts) → NewVars old b → Alike old s (after_all t b)
  pub states : (old : Names) (s t : Scope) → Alike old s t → (sts : List ParserState) → NewStates old sts → Alike old s (with_states t sts)
  pub locals : (old : Names) (s t : Scope) → Alike old s t → (ls : List Local) → NewLocals old ls → Alike old s (after_locals t ls)
  pub programs : (old : Names) (s t : Scope) → Alike old s t → (ys : List Top) → NewTops old ys → Alike old s (after_tops t ys)
  pub fields :
      (old : Names) (s t : Scope) → Alike old s t → (n : List ℕ) (h : Thing) (front fs back : List (PTy × List ℕ)) → NewFields old front → OldFields old fs → NewFields old back
      → Alike old (declare s n (fields h fs)) (declare t n (fields h (front ++ (fs ++ back))))

-- ---- a name that stands for something goes on to stand for it, since a fine declaration takes a name that stands for
-- nothing; so each declaration at top level is the first of its name
pub record FineTreesKeep : Type 0 where
  pub blocks : (h : Part) (s : Scope) (b : Stmts) → IsFine (block_tests h s b) → Keeps s (after_all s b)
  pub params : (s : Scope) (qs : List Param) → IsFine (ways_tests s qs) → Keeps s (with_ways s qs)
  pub action_params : (p : ℕ) (s : Scope) (qs : List (PTy × List ℕ)) → IsFine (params_tests p s qs) → Keeps s (with_params s qs)
  pub states : (s : Scope) (sts : List ParserState) → IsFine (states_names s sts) → Keeps s (with_states s sts)
  pub locals : (h : Part) (s : Scope) (ls : List Local) → IsFine (locals_tests h s ls) → Keeps s (after_locals s ls)
  pub programs : (main : List (List ℕ)) (s : Scope) (ys : List Top) → IsFine (tops_tests main s ys) → Keeps s (after_tops s ys)
  pub firsts : (main : List (List ℕ)) (s : Scope) (ys : List Top) → IsFine (tops_tests main s ys) → first_tops s ys ≡ after_tops s ys
  pub through : (s t u : Scope) → Keeps s t → Keeps t u → Keeps s u
  -- what a declared name stands for, with the paths behind it, and any other name
  pub declared : (s : Scope) (n : List ℕ) (w : What) (xs : List (List ℕ)) → declare s n w (n ∷ xs) ≡ behind s w xs
  pub others : (s : Scope) (n : List ℕ) (w : What) (x : List ℕ) (xs : List (List ℕ)) → same_text n x ≡ false → declare s n w (x ∷ xs) ≡ s (x ∷ xs)

-- the scopes of a program are rooted
pub record ScopesAreRooted : Type 0 where
  pub first : IsRooted core
  pub declared : (s : Scope) → IsRooted s → (n : List ℕ) (w : What) → IsRooted (declare s n w)
  pub blocks : (s : Scope) → IsRooted s → (b : Stmts) → IsRooted (after_all s b)
  pub params : (s : Scope) → IsRooted s → (qs : List Param) → IsRooted (with_ways s qs)
  pub action_params : (s : Scope) → IsRooted s → (qs : List (PTy × List ℕ)) → IsRooted (with_params s qs)
  pub states : (s : Scope) → IsRooted s → (sts : List ParserState) → IsRooted (with_states s sts)
  pub locals : (s : Scope) → IsRooted s → (ls : List Local) → IsRooted (after_locals s ls)
  pub programs : (s : Scope) → IsRooted s → (ys : List Top) → IsRooted (after_tops s ys)

-- what is fine has the same tests in each scope in which what is in sight still is, where the names that it declares are
-- free; so what is fine stays fine further in
pub record FineStaysFine : Type 0 where
  pub paths : (s t : Scope) → IsRooted s → Keeps s t → (x : List (List ℕ)) → is_missing (s x) ≡ false → s x ≡ t x
  pub kinds : (s t : Scope) → IsRooted s → Keeps s t → (w : Kind) (e : Expr) → IsFine (expr_tests s w e) → own s e ≡ own t e
  pub expressions : (s t : Scope) → IsRooted s → Keeps s t → (w : Kind) (e : Expr) → IsFine (expr_tests s w e) → expr_tests s w e ≡ expr_tests t w e
  pub statements : (h : Part) (s t : Scope) → IsRooted s → Keeps s t → (c : Stmt) → FreeStmt t c → IsFine (stmt_tests h s c) → stmt_tests h s c ≡ stmt_tests h t c
  pub blocks : (h : Part) (s t : Scope) → IsRooted s → Keeps s t → (b : Stmts) → FreeStmts t b → IsFine (block_tests h s b) → block_tests h s b ≡ block_tests h t b

-- ---- statements behind others are fine where both are, the second in the scope behind the first, and digests add up
pub record StatementsJoin : Type 0 where
  pub fine : (h : Part) (s : Scope) (a b : Stmts) → IsFine (block_tests h s (and_then a b)) ↔ (IsFine (block_tests h s a) × IsFine (block_tests h (after_all s a) b))
  pub scope : (s : Scope) (a b : Stmts) → after_all s (and_then a b) ≡ after_all (after_all s a) b
  pub digests : (s : Scope) (a b : Stmts) → most_of s (and_then a b) ≡ add_up (most_of s a) (most_of s b)

-- the same of declarations of a control, of a parser's states and of declarations at top level
pub record DeclarationsJoin : Type 0 where
  pub locals : (h : Part) (s : Scope) (a b : List Local) → IsFine (locals_tests h s (a ++ b)) ↔ (IsFine (locals_tests h s a) × IsFine (locals_tests h (after_locals s a) b))
  pub local_scope : (s : Scope) (a b : List Local) → after_locals s (a ++ b) ≡ after_locals (after_locals s a) b
  pub names : (s : Scope) (a b : List ParserState) → IsFine (states_names s (a ++ b)) ↔ (IsFine (states_names s a) × IsFine (states_names (with_states s a) b))
  pub states : (all : List ParserState) (s : Scope) (a b : List ParserState) → IsFine (states_tests all s (a ++ b)) ↔ (IsFine (states_tests all s a) × IsFine (states_tests all s b))
  pub state_scope : (s : Scope) (a b : List ParserState) → with_states s (a ++ b) ≡ with_states (with_states s a) b
  pub tops : (main : List (List ℕ)) (s : Scope) (a b : List Top) → IsFine (tops_tests main s (a ++ b)) ↔ (IsFine (tops_tests main s a) × IsFine (tops_tests main (after_tops s a) b))
  pub top_scope : (s : Scope) (a b : List Top) → after_tops s (a ++ b) ≡ after_tops (after_tops s a) b

-- ---- statements behind the test of an `if`, where blocks may stand at all, and behind a flag of a new name
pub record GuardsAreFine : Type 0 where
  -- a truth value stands as a test
  pub tests : (h : Part) (s : Scope) (e : Expr) → IsFine (expr_tests s Truth e) → IsFine (if_tests h s e)
  pub guards : (h : Part) (s : Scope) (p : ℕ) (e : Expr) (b : Stmts) → takes_any h ≡ true → IsFine (expr_tests s Truth e) → IsFine (block_tests h s b) → IsFine (stmt_tests h s (guarded p e b))
  pub parts : (h : Part) (s : Scope) (p : ℕ) (e : Expr) (b : Stmts) → IsFine (stmt_tests h s (guarded p e b)) → IsFine (if_tests h s e) × IsFine (block_tests h s b)
  pub digests : (s : Scope) (p : ℕ) (e : Expr) (b : Stmts) → IsFine (expr_tests s Truth e) → most_of_stmt s (guarded p e b) ≡ most_of s b

pub record FlagsAreFine : Type 0 where
  pub declared : (s : Scope) (x : List ℕ) → IsFlag (declare s x (value Writable type.Bool)) x
  pub read : (s : Scope) (x : List ℕ) (p : ℕ) → IsFlag s x → IsFine (expr_tests s Truth (path p (x ∷ [])))
  pub set : (h : Part) (s : Scope) (x : List ℕ) (p q : ℕ) (v : Bool) → takes_assignments h ≡ true → IsFlag s x → IsFine (stmt_tests h s (assign p (x ∷ []) (flag q v)))
  -- bool x; if (!x) { b }
  pub block :
      (old : Names) (h : Part) (s : Scope) (x : List ℕ) (p : ℕ) (b : Stmts) → takes_any h ≡ true → OldStmts old b → old x ≡ false → is_missing (s (x ∷ [])) ≡ true
      → IsFine (block_tests h s b) → IsFine (block_tests h s (flagged p x b))
  pub digests : (s : Scope) (x : List ℕ) (p : ℕ) (b : Stmts) → most_of s (flagged p x b) ≡ most_of s b

-- ---- an expression in the place of another, at any depth of an expression and in the statements of a block
pub record ReplacedStaysFine : Type 0 where
  pub parts : (s : Scope) (e f : Expr) → PartsReplaced s e f → Replaces s e f
  pub through : (s : Scope) (a b c : Expr) → Replaces s a b → Replaces s b c → Replaces s a c
  pub tests : (h : Part) (s : Scope) (e f : Expr) → is_outcome e ≡ false → Replaces s e f → IsFine (if_tests h s e) → IsFine (if_tests h s f)
  pub blocks : (h : Part) (s : Scope) (a b : Stmts) → BlockReplaced s a b → IsFine (block_tests h s a) → IsFine (block_tests h s b)
  pub scope : (s : Scope) (a b : Stmts) → BlockReplaced s a b → after_all s b ≡ after_all s a
  -- t: where the digests are counted
  pub digests : (h : Part) (s t : Scope) (a b : Stmts) → BlockReplaced s a b → IsFine (block_tests h s a) → most_of t b ≡ most_of t a
