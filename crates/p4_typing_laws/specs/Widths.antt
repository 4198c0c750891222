-- The static width of an expression at its place, and that the value of the expression has it. Read `Soundness` before it,
-- and `Value` of `p4_meaning`.
use Rattle.std.specs.Prelude.{◌≡◌, ℕ, ◌≤◌, List, true, false}
use Rattle.rule_tests.specs.Tests.{IsFine}
use Rattle.bit_values.specs.Widths.{either_width}
use Rattle.bit_values.specs.Operators.{left_place, right_place}
use Rattle.p4_tree.specs.Tree.{Expr, inversion, opposite, binary, conditional, slice, cast, Program}
use Rattle.p4_tree.specs.Operators.{class_of}
use Rattle.p4_tree.specs.declared.statement.Op.{Op}
use Rattle.p4_tree.specs.declared.statement.PTy.{PTy}
use Rattle.p4_meaning.specs.Store.{Store, read}
use Rattle.p4_meaning.specs.Value.{own_width, value_of}
use Rattle.p4_meaning.specs.Laws.{IsOf}
use Rattle.p4_scopes.specs.Kinds.{join, as_number, as_value, left_want, right_want, choice_want, index_want}
use Rattle.p4_scopes.specs.Scopes.{is_missing, value_kind, Scope, own}
use Rattle.p4_scopes.specs.Uses.{reads}
use Rattle.p4_scopes.specs.declared.kind.Kind.{Kind}
use Rattle.p4_statement_rules.specs.Expressions.{expr_tests}
use Rattle.p4_rules.specs.ProgramRules.{IsWellTyped}
use Rattle.p4_typing_laws.specs.Places.{Use, valued, named, EachUse}
use Rattle.p4_typing_laws.specs.Soundness.{kind_width}

-- the static width of an expression: its own where the rules give it one, and that of its place where they give none
abbrev pub static_width : Scope → (want : Kind) → Expr → ℕ
static_width s want e = either_width (kind_width (own s e)) (kind_width want)

-- what is in sight shows what a scope says: each path that stands for a value reads a word of that width, in range
pub record Shows (s : Scope) (st : Store) : Type 0 where
  pub values : (x : List (List ℕ)) → is_missing (s x) ≡ false → reads (s x) ≡ true → IsOf (kind_width (value_kind (s x))) (read st x)

-- the width w that the meaning hands to an expression gives it the width that the wanted kind gives it. The width of the
-- wanted kind does; and where an expression has a width of its own each does
abbrev pub Serves : Scope → (want : Kind) → Expr → (w : ℕ) → Type 0
Serves s want e w = either_width (kind_width (own s e)) w ≡ static_width s want e

-- the value of an expression is a word of its static width, in range, and the width that the meaning finds of its own is
-- the one that the rules give
pub record HasStaticWidth (s : Scope) (want : Kind) (e : Expr) : Type 0 where
  pub wanted : (st : Store) → Shows s st → IsOf (static_width s want e) (value_of e (kind_width want) st)
  pub served : (st : Store) → Shows s st → (w : ℕ) → Serves s want e w → IsOf (static_width s want e) (value_of e w st)
  pub found : (st : Store) → Shows s st → own_width e st ≡ kind_width (own s e)

-- a use of a value
abbrev pub UseHasWidth : Scope → Use → Type 0
UseHasWidth s (valued want e) = HasStaticWidth s want e
UseHasWidth s (named fits x) = Unit {0}

-- so it is of each expression that breaks no rule where a width of at most 128 bits is wanted, or none, and of each
-- expression of a well-typed program at its place
pub record ValuesHaveStaticWidths : Type 0 where
  pub expressions : (s : Scope) (want : Kind) → kind_width want ≤ 128 → (e : Expr) → IsFine (expr_tests s want e) → HasStaticWidth s want e
  pub programs : (p : Program) → IsWellTyped p → EachUse UseHasWidth p

-- ---- the widths that the meaning hands on

-- the width that the meaning hands to each part of an expression that breaks no rule serves what is wanted of the part.
-- The place of a test, and of the operand of `!`, has 1, as is wanted there, by definition
pub record PartsAreServed (s : Scope) (st : Store) : Type 0 where
  pub left : (want : Kind) → kind_width want ≤ 128 → (p : ℕ) (op : Op) (a b : Expr) → IsFine (expr_tests s want (binary p op a b)) → (w : ℕ) → Serves s want (binary p op a b) w → Serves s (left_want op (own s a) (own s b) want) a (left_place (class_of op) (own_width a st) (own_width b st) w)
  pub right : (want : Kind) → kind_width want ≤ 128 → (p : ℕ) (op : Op) (a b : Expr) → IsFine (expr_tests s want (binary p op a b)) → (w : ℕ) → Serves s want (binary p op a b) w → Serves s (right_want op (own s a) (own s b) want) b (right_place (class_of op) (own_width a st) (own_width b st) w)
  pub inverted : (want : Kind) → kind_width want ≤ 128 → (p : ℕ) (a : Expr) → IsFine (expr_tests s want (inversion p a)) → (w : ℕ) → Serves s want (inversion p a) w → Serves s (as_number (join (own s a) want)) a (either_width (own_width a st) w)
  pub negated : (want : Kind) → kind_width want ≤ 128 → (p : ℕ) (a : Expr) → IsFine (expr_tests s want (opposite p a)) → (w : ℕ) → Serves s want (opposite p a) w → Serves s (as_number (join (own s a) want)) a (either_width (own_width a st) w)
  pub chosen : (want : Kind) → kind_width want ≤ 128 → (p : ℕ) (c a b : Expr) → IsFine (expr_tests s want (conditional p c a b)) → (w : ℕ) → Serves s want (conditional p c a b) w → Serves s (choice_want (own s a) (own s b) want) a (either_width (either_width (own_width a st) (own_width b st)) w)
  pub otherwise : (want : Kind) → kind_width want ≤ 128 → (p : ℕ) (c a b : Expr) → IsFine (expr_tests s want (conditional p c a b)) → (w : ℕ) → Serves s want (conditional p c a b) w → Serves s (choice_want (own s a) (own s b) want) b (either_width (either_width (own_width a st) (own_width b st)) w)
  pub sliced : (want : Kind) → kind_width want ≤ 128 → (p h l : ℕ) (a : Expr) → IsFine (expr_tests s want (slice p a h l)) → Serves s (as_number (own s a)) a 0
  pub cast_from : (want : Kind) → kind_width want ≤ 128 → (p : ℕ) (t : PTy) (a : Expr) → IsFine (expr_tests s want (cast p t a)) → Serves s (as_value (own s a)) a 0
  -- a place that gives no width, and that of an index
  pub free : (e : Expr) → IsFine (expr_tests s (as_value (own s e)) e) → Serves s (as_value (own s e)) e 0
  pub index : (e : Expr) → IsFine (expr_tests s (index_want (own s e)) e) → Serves s (index_want (own s e)) e 128
  -- the width of what is assigned
  pub assigned : (x : List (List ℕ)) → is_missing (s x) ≡ false → reads (s x) ≡ true → (st.values x).width ≡ kind_width (value_kind (s x))

abbrev pub EachPartIsServed : Type 0
EachPartIsServed = (s : Scope) (st : Store) → Shows s st → PartsAreServed s st
