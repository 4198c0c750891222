-- The scopes of the rules and of the meaning tied: what stands at a name there is what the name has here. Read `Counted`
-- before it, and `Scope` and `Under` of `p4_meaning`.
use Rattle.std.specs.Prelude.{◌≡◌, ◌⊎◌, ℕ, List, [], ◌∷◌, codes, Option, Some, None, true, is_some, if◌then◌else◌}
use Rattle.bit_values.specs.Bits.{Word}
use Rattle.lex_text.specs.Names.{same_text}
use Rattle.rule_tests.specs.Tests.{IsFine}
use Rattle.p4_tree.specs.Tree.{Stmt, Local, local_action, local_table, local_register, local_const, local_var, Control, Parser, Top, constant, typedef, header_type, struct_type, register, parser, control, Program}
use Rattle.p4_tree.specs.declared.statement.PTy.{PTy}
use Rattle.p4_tree.specs.declared.statement.PTy.TheVariants as type
use Rattle.p4_meaning.specs.Value.{width_of}
use Rattle.p4_meaning.specs.Scope as meaning
use Rattle.p4_meaning.specs.Scope.{constant_at, full_name, type_under}
use Rattle.p4_meaning.specs.Under as under
use Rattle.p4_meaning.specs.Under.{no_scope, in_parser, behind_top, behind_local, behind_locals}
use Rattle.p4_meaning.specs.Actions as meant
use Rattle.p4_meaning.specs.Actions.{in_action, action_named}
use Rattle.p4_meaning.specs.Tables.{table_named}
use Rattle.p4_meaning.specs.Parts.{Cells, Parts, parts_of}
use Rattle.p4_meaning.specs.Laws.{IsOf}
use Rattle.p4_scopes.specs.Scopes.{Stands, missing, typed, held, cells, act, rows, state, function, algorithm, other, thing_kind, kind_in, Scope, core}
use Rattle.p4_scopes.specs.declared.kind.Kind.{Kind}
use Rattle.p4_scopes.specs.declared.thing.Thing.{Thing}
use Rattle.p4_scopes.specs.declared.thing.Thing.TheVariants.{Scalar, Header, Struct, Standard, PacketIn, PacketOut}
use Rattle.p4_scopes.specs.declared.thing.Access.{Access}
use Rattle.p4_scopes.specs.declared.thing.Access.TheVariants.{Writable, Fixed, Constant}
use Rattle.p4_statement_rules.specs.Expressions.{scalar_tests}
use Rattle.p4_statement_rules.specs.Statements.{after, stmt_tests}
use Rattle.p4_statement_rules.specs.declared.rule.Part.{Part}
use Rattle.p4_declaration_rules.specs.Declarations.{with_params}
use Rattle.p4_declaration_rules.specs.Parsers.{with_ways, in_states}
use Rattle.p4_declaration_rules.specs.Controls.{after_local, after_top}
use Rattle.p4_rules.specs.ProgramRules.{IsWellTyped}
use Rattle.p4_typing_laws.specs.Soundness.{kind_width}
use Rattle.p4_typing_laws.specs.Plain.{HavePlainNames}

-- ---- what a name has in the meaning

-- the register of a full name
abbrev pub register_named : List Cells → List ℕ → Option Cells
register_named [] x = None
register_named (c ∷ cs) x = if same_text c.name x then Some c else register_named cs x

-- a constant has a word of its kind
abbrev pub ConstantIs : Kind → Option Word → Type 0
ConstantIs k None = ⊥
ConstantIs k (Some w) = IsOf (kind_width k) w

-- a type of single values has the width of its kind
abbrev pub TypeIs : meaning.Scope → List ℕ → Thing → Type 0
TypeIs sc x (Scalar k) = width_of (type_under sc.types (type.Named x)) ≡ kind_width k
TypeIs sc x (Header n) = Unit {0}
TypeIs sc x Struct = Unit {0}
TypeIs sc x Standard = Unit {0}
TypeIs sc x PacketIn = Unit {0}
TypeIs sc x PacketOut = Unit {0}

-- a variable is no constant
abbrev pub ValueIs : meaning.Scope → List ℕ → Access → Thing → Type 0
ValueIs sc x Writable t = constant_at sc (x ∷ []) ≡ None
ValueIs sc x Fixed t = constant_at sc (x ∷ []) ≡ None
ValueIs sc x Constant t = ConstantIs (thing_kind t) (constant_at sc (x ∷ []))

-- the cells of a register have the width of their kind
abbrev pub RegisterIs : Kind → Option Cells → Type 0
RegisterIs k None = ⊥
RegisterIs k (Some c) = c.width ≡ kind_width k

-- the parameters of an action have the widths of their kinds, one by one
abbrev pub ParamsAre : List Kind → List meant.Param → Type 0
ParamsAre [] [] = Unit {0}
ParamsAre [] (p ∷ ps) = ⊥
ParamsAre (k ∷ ks) [] = ⊥
ParamsAre (k ∷ ks) (p ∷ ps) = (p.width ≡ kind_width k) × ParamsAre ks ps

abbrev pub ActionIs : List Kind → Option meant.Action → Type 0
ActionIs ks None = ⊥
ActionIs ks (Some a) = ParamsAre ks a.params

-- what stands at a name is what the name has in a program with these parts. `NoAction` is an action that does nothing
abbrev pub HasIt : Parts → meaning.Scope → List ℕ → Stands → Type 0
HasIt p sc x missing = constant_at sc (x ∷ []) ≡ None
HasIt p sc x (typed f t) = TypeIs sc x t
HasIt p sc x (held a t) = ValueIs sc x a t
HasIt p sc x (cells k) = RegisterIs k (register_named p.registers (full_name sc x))
HasIt p sc x (act ks m) = ((x ≡ codes "NoAction") × (ks ≡ [])) ⊎ ActionIs ks (action_named p.actions (full_name sc x))
HasIt p sc x (rows m) = is_some (table_named p.tables (full_name sc x)) ≡ true
HasIt p sc x state = Unit {0}
HasIt p sc x (function f) = Unit {0}
HasIt p sc x algorithm = Unit {0}
HasIt p sc x other = Unit {0}

-- so it is of each name
pub record IsTied (p : Parts) (s : Scope) (sc : meaning.Scope) : Type 0 where
  pub names : (x : List ℕ) → HasIt p sc x (s (x ∷ []))

-- ---- the places of a program

-- P holds of both scopes at each place: in front of each declaration, in each action, parser and control
module _ (P : Scope → meaning.Scope → Type 0) where
  -- in front of a declaration of a control, and in an action
  abbrev pub LocalPlaces : Scope → meaning.Scope → Local → Type 0
  LocalPlaces s sc (local_action p a) = P s sc × P (with_params s a.params) (in_action sc a)
  LocalPlaces s sc (local_table p t) = P s sc
  LocalPlaces s sc (local_register p r) = P s sc
  LocalPlaces s sc (local_const p t x e) = P s sc
  LocalPlaces s sc (local_var p t x e) = P s sc

  abbrev pub LocalsPlaces : Scope → meaning.Scope → List Local → Type 0
  LocalsPlaces s sc [] = P s sc
  LocalsPlaces s sc (l ∷ ls) = LocalPlaces s sc l × LocalsPlaces (after_local s l) (behind_local sc l) ls

  -- headers, metadata, standard: where the three parameters stand
  abbrev pub ControlPlaces : (headers metadata standard : ℕ) → Scope → meaning.Scope → Control → Type 0
  ControlPlaces h m n s sc c = LocalsPlaces (with_ways s c.params) (under.in_control h m n sc c) c.locals

  abbrev pub ParserPlaces : Scope → meaning.Scope → Parser → Type 0
  ParserPlaces s sc d = P (in_states s d) (in_parser sc d)

  abbrev pub TopPlaces : Scope → meaning.Scope → Top → Type 0
  TopPlaces s sc (constant p t x e) = P s sc
  TopPlaces s sc (typedef p t x) = P s sc
  TopPlaces s sc (header_type p x fs) = P s sc
  TopPlaces s sc (struct_type p x fs) = P s sc
  TopPlaces s sc (register p r) = P s sc
  TopPlaces s sc (parser p d) = P s sc × ParserPlaces s sc d
  TopPlaces s sc (control p c) = P s sc × ((h m n : ℕ) → ControlPlaces h m n s sc c)

  abbrev pub TopsPlaces : Scope → meaning.Scope → List Top → Type 0
  TopsPlaces s sc [] = P s sc
  TopsPlaces s sc (t ∷ ts) = TopPlaces s sc t × TopsPlaces (after_top s t) (behind_top sc t) ts

  abbrev pub EachPlace : Program → Type 0
  EachPlace program = TopsPlaces core no_scope program.tops

-- ---- the law

-- both scopes are tied at each place of a well-typed program with plain names; a variable of a block keeps them tied; and
-- where they are tied a type of single values has the width of its kind
pub record ScopesAreTied : Type 0 where
  pub programs : (p : Program) → IsWellTyped p → HavePlainNames p.tops → EachPlace (IsTied (parts_of p)) p
  pub variables : (p : Parts) (h : Part) (s : Scope) (sc : meaning.Scope) → IsTied p s sc → (c : Stmt) → IsFine (stmt_tests h s c) → IsTied p (after s c) sc
  pub types : (p : Parts) (s : Scope) (sc : meaning.Scope) → IsTied p s sc → (at : ℕ) (t : PTy) → IsFine (scalar_tests at s t) → width_of (type_under sc.types t) ≡ kind_width (kind_in s t)
