-- What is made of a fine program by growth is fine. Read `Growth` and `Entered` before it.
use Rattle.std.specs.Prelude.{◌≡◌, ◌↔◌, ℕ, List, [], ◌∷◌, ◌++◌, ◌||◌, Bool, true, false, codes, Some}
use Rattle.rule_tests.specs.Tests.{IsFine}
use Rattle.p4_tree.specs.Tree.{Arg, Stmts, call, next, and_then, ParserState, Local, Control, Parser, Top, Program, Expr, Action, Table, local_action, local_table, local_var}
use Rattle.p4_tree.specs.declared.statement.PTy.{PTy}
use Rattle.p4_tree.specs.declared.program.Param.{Param}
use Rattle.p4_parser_states.specs.Cycles.{is_among, state_names}
use Rattle.p4_scopes.specs.Scopes.{Stands, state, Scope, core}
use Rattle.p4_scopes.specs.Uses.{is_scalar, is_header}
use Rattle.p4_statement_rules.specs.Statements.{after_all, stmt_tests, block_tests}
use Rattle.p4_statement_rules.specs.declared.rule.Part.{Part}
use Rattle.p4_statement_rules.specs.declared.rule.Part.TheVariants as place
use Rattle.p4_declaration_rules.specs.Declarations.{with_params, action_tests}
use Rattle.p4_declaration_rules.specs.Digests.{most_of}
use Rattle.p4_declaration_rules.specs.Parsers.{is_state_name, before_states, with_ways, ways_tests, onto_tests, start_tests, with_states, states_names, parser_tests}
use Rattle.p4_declaration_rules.specs.Controls.{locals_tests, after_locals, stmt_emits, in_control, control_tests, tops_tests, after_tops, action_part}
use Rattle.p4_rules.specs.Mains.{structs_of}
use Rattle.p4_rules.specs.Limits.{limit_tests}
use Rattle.p4_rules.specs.ProgramRules.{program_scope, IsWellTyped}
use Rattle.p4_rule_laws.specs.Old.{Names, OldPath, Alike, OldStmts, OldType, OldFields, OldExpr}
use Rattle.p4_rule_laws.specs.OldPrograms.{OldTable, OldWays, OldStates}
use Rattle.p4_rule_laws.specs.Kept.{Keeps, NewVars}
use Rattle.p4_rule_laws.specs.Replaced.{BlockReplaced, Replaces}
use Rattle.p4_rule_laws.specs.ReplacedPrograms.{KeysReplaced, StatesReplaced}
use Rattle.p4_rule_laws.specs.Growth.{More, Sees, ParamsGrow, is_deparser, BodyGrows, LocalsGrow, StatesGrow, parser_with, control_with, NewInFront, TopsGrow, InRole, grown, ActionGrows, with_body, with_keys, LocalGrows}
use Rattle.p4_rule_laws.specs.Entered.{entered, Enters, renamed_to, Begins, HasNoStates}

-- what may stand in the place of a control's statements
pub record BodiesGrow : Type 0 where
  pub same : (old : Names) (h : Part) (s t : Scope) (b : Stmts) → OldStmts old b → BodyGrows old h s t b b
  -- statements in front and behind; those behind see what is in sight in front
  pub around :
      (old : Names) (h : Part) (s t : Scope) (entry b c exit : Stmts) → is_deparser h ≡ false → IsFine (block_tests h t entry) → NewVars old entry → BodyGrows old h s (after_all t entry) b c
      → (Keeps t (after_all (after_all t entry) c) → IsFine (block_tests h (after_all (after_all t entry) c) exit)) → BodyGrows old h s t b (and_then entry (and_then c exit))
  -- other expressions
  pub replaced : (old : Names) (h : Part) (s t : Scope) (b c d : Stmts) → is_deparser h ≡ false → BodyGrows old h s t b c → BlockReplaced t c d → BodyGrows old h s t b d
  -- a new header that is emitted before all others
  pub emitted :
      (old : Names) (s t : Scope) (p : ℕ) (n : List (List ℕ)) (args : List Arg) (x : List (List ℕ)) (b : Stmts) → OldStmts old b → IsFine (stmt_tests place.Deparser t (call p n args)) → stmt_emits t (call p n args) ≡ x ∷ []
      → (OldPath old x → ⊥) → BodyGrows old place.Deparser s t b (next (call p n args) b)

-- what may stand in the place of a local declaration, where what is in sight in v still is: an action with another body
-- that gives as many digests, which is so where other expressions stand in it, a variable with another first value, and a
-- table with other keys
pub record LocalsInPlace : Type 0 where
  pub actions :
      (old : Names) (h : Part) (v s t : Scope) (p : ℕ) (a : Action) (c : Stmts) → old a.name ≡ true → OldFields old a.params → (Keeps v t → ActionGrows old (action_part h) s t a c)
      → (Keeps v t → Alike old s t → IsFine (action_tests (action_part h) s a) → most_of t c ≡ most_of s a.body) → LocalGrows old h v s t (local_action p a) (local_action p (with_body a c))
  pub expressions :
      (old : Names) (h : Part) (v s t : Scope) (p : ℕ) (a : Action) (c : Stmts) → old a.name ≡ true → OldFields old a.params → OldStmts old a.body → (Keeps v (with_params t a.params) → BlockReplaced (with_params t a.params) a.body c)
      → LocalGrows old h v s t (local_action p a) (local_action p (with_body a c))
  pub values :
      (old : Names) (h : Part) (v s t : Scope) (p : ℕ) (y : PTy) (x : List ℕ) (e f : Expr) → OldType old y → old x ≡ true → OldExpr old e → (Keeps v t → Replaces t e f)
      → LocalGrows old h v s t (local_var p y x (Some e)) (local_var p y x (Some f))
  pub keys :
      (old : Names) (h : Part) (v s t : Scope) (p : ℕ) (b : Table) (ks : List (Expr × List ℕ)) → OldTable old b → (Keeps v t → KeysReplaced t b.keys ks)
      → LocalGrows old h v s t (local_table p b) (local_table p (with_keys b ks))

-- what may stand in the place of a parser's states: these themselves, and new ones in front of them, each with other
-- expressions
pub record StatesAreEntered : Type 0 where
  pub same : (old : Names) (s t : Scope) (sts : List ParserState) → OldStates old sts → old (codes "start") ≡ true → StatesGrow old s t sts sts
  pub entered : (old : Names) (r : List ℕ → List ℕ) (s t : Scope) (added sts : List ParserState) → Enters old r t added sts → StatesGrow old s t sts (entered r added sts)
  pub begins : (old : Names) (from onto : List ℕ) (t : Scope) (added sts : List ParserState) → Begins old from onto t added sts → Enters old (renamed_to from onto) t added sts
  pub replaced :
      (old : Names) (s t : Scope) (sts xs ys : List ParserState) → StatesGrow old s t sts xs → state_names xs ≡ state_names ys → (Keeps t (with_states t xs) → StatesReplaced (with_states t xs) xs ys)
      → StatesGrow old s t sts ys
  -- what stands for a state in a parser's statements, where the names of its states are new
  pub own : (s : Scope) (sts : List ParserState) (x : List ℕ) → IsFine (states_names s sts) → is_among (state_names sts) x ≡ true → with_states s sts (x ∷ []) ≡ state
  -- how a state may go on: to the names of states alone, whatever they stand for elsewhere
  pub onto : (names : List (List ℕ)) (p : ℕ) (x : List ℕ) (st : Stands) → IsFine (onto_tests p (is_state_name names x) st) ↔ (is_state_name names x ≡ true)
  pub others : (s : Scope) (sts : List ParserState) (x : List ℕ) (xs : List (List ℕ)) → is_among (state_names sts) x ≡ false → with_states s sts (x ∷ xs) ≡ s (x ∷ xs)
  pub among : (a b : List ParserState) (x : List ℕ) → is_among (state_names (a ++ b)) x ≡ (is_among (state_names a) x || is_among (state_names b) x)

-- behind declarations at top level, one or many, and parameters nothing is a state, and the `start` of a fine parser is
-- among its own
pub record StartIsOwn : Type 0 where
  pub first : HasNoStates core
  pub tops : (s : Scope) → HasNoStates s → (ys : List Top) → HasNoStates (after_tops s ys)
  pub params : (s : Scope) → HasNoStates s → (qs : List Param) → HasNoStates (with_ways s qs)
  pub start : (p : ℕ) (s : Scope) (sts : List ParserState) → IsFine (start_tests p s sts) → is_among (state_names sts) (codes "start") ≡ true

-- declarations that grow stay fine, and old names stand for the same behind them
pub record DeclarationsGrow : Type 0 where
  pub locals :
      (old : Names) (h : Part) (v s t : Scope) (ls ms : List Local) → LocalsGrow old h v s t ls ms → Keeps v t → Alike old s t
      → IsFine (locals_tests h s ls) → IsFine (locals_tests h t ms) × Alike old (after_locals s ls) (after_locals t ms)
  pub params : (old : Names) (s t : Scope) (qs rs : List Param) → ParamsGrow old s t qs rs → Alike old s t → IsFine (ways_tests s qs) → IsFine (ways_tests t rs) × Alike old (with_ways s qs) (with_ways t rs)
  pub same_params : (old : Names) (s t : Scope) (qs : List Param) → OldWays old qs → ParamsGrow old s t qs qs
  pub parsers :
      (old : Names) (s t : Scope) (d : Parser) (rs : List Param) (tts : List ParserState) → old d.name ≡ true → ParamsGrow old s t d.params rs
      → (IsFine (ways_tests t rs) → StatesGrow old (before_states s d) (before_states t (parser_with d rs tts)) d.states tts) → Alike old s t → IsFine (parser_tests s d) → IsFine (parser_tests t (parser_with d rs tts))
  -- what is in sight behind the parameters still is in the local declarations and in the statements
  pub controls :
      (old : Names) (h : Part) (s t : Scope) (c : Control) (rs : List Param) (ms : List Local) (b : Stmts) → old c.name ≡ true → ParamsGrow old s t c.params rs
      → LocalsGrow old h (with_ways t rs) (with_ways s c.params) (with_ways t rs) c.locals ms
      → (Keeps (with_ways t rs) (in_control t (control_with c rs ms b)) → BodyGrows old h (in_control s c) (in_control t (control_with c rs ms b)) c.apply b)
      → Alike old s t → IsFine (control_tests h s c) → IsFine (control_tests h t (control_with c rs ms b))
  pub tops :
      (old : Names) (more : List ℕ → More) (change : Bool) (main : List (List ℕ)) (u s t : Scope) (ys zs : List Top) → TopsGrow old more change main u s t ys zs → Sees old more u s t
      → IsFine (tops_tests main s ys) → IsFine (tops_tests main t zs) × Sees old more u (after_tops s ys) (after_tops t zs)

-- what is made by growth of a program whose declarations are fine: all declarations are fine, and old names stand behind
-- them for what they stood for
abbrev pub GrownIsFine : Type 0
GrownIsFine =
    (old : Names) (more : List ℕ → More) (change : Bool) (p : Program) (q : ℕ) (front zs : List Top) → NewInFront old front → IsFine (tops_tests p.main core front)
    → TopsGrow old more change p.main (after_tops core front) core (after_tops core front) p.tops zs → IsFine (tops_tests p.main core p.tops)
    → IsFine (tops_tests p.main core (front ++ zs)) × Sees old more (after_tops core front) (program_scope p) (program_scope (grown p q front zs))

-- a program that grows by the same parameters stays well typed, where the declarations in front are fine, the fields that the structs of headers
-- and of metadata get fit these roles, and the whole is within the limits of a switch
abbrev pub GrownIsWellTyped : Type 0
GrownIsWellTyped =
    (old : Names) (more : List ℕ → More) (p : Program) (q : ℕ) (front zs : List Top) → NewInFront old front → IsFine (tops_tests p.main core front)
    → TopsGrow old more false p.main (after_tops core front) core (after_tops core front) p.tops zs
    → InRole is_header (program_scope (grown p q front zs)) (more (structs_of (program_scope p) p).headers_type) → InRole is_scalar (program_scope (grown p q front zs)) (more (structs_of (program_scope p) p).metadata_type)
    → IsFine (limit_tests (program_scope (grown p q front zs)) (grown p q front zs)) → IsWellTyped p → IsWellTyped (grown p q front zs)
