-- What holds of expressions that may stand for others, and of those with a width of their own.
use Rattle.std.specs.Prelude.{◌≡◌, ℕ, ◌≤◌, true, not}
use Rattle.rule_tests.specs.Tests.{IsFine}
use Rattle.p4_tree.specs.Tree.{Expr, negation, inversion, opposite, binary, conditional, slice, cast}
use Rattle.p4_tree.specs.declared.statement.Op.{Op}
use Rattle.p4_tree.specs.declared.statement.PTy.{PTy}
use Rattle.p4_meaning.specs.Store.{Store}
use Rattle.p4_meaning.specs.Value.{value_of}
use Rattle.p4_scopes.specs.Kinds.{is_open}
use Rattle.p4_scopes.specs.Scopes.{Scope, own}
use Rattle.p4_scopes.specs.declared.kind.Kind.{Kind}
use Rattle.p4_statement_rules.specs.Expressions.{expr_tests}
use Rattle.p4_typing_laws.specs.Soundness.{kind_width, IsSound}
use Rattle.p4_typing_laws.specs.Widths.{Shows}
use Rattle.rewriting_laws.specs.OwnWidths.{has_own}
use Rattle.rewriting_laws.specs.Standing.{MayStandFor}

-- ---- what may stand for another

-- each expression may stand for itself, and what may stand for another may do so for all that the other may stand for
pub record StandingComposes : Type 0 where
  pub itself : (e : Expr) → MayStandFor e e
  pub through : (e f g : Expr) → MayStandFor e f → MayStandFor f g → MayStandFor e g

-- an expression with other parts, each of which may stand for the one before, may stand for the expression
pub record FormsKeepStanding : Type 0 where
  pub negation : (p : ℕ) (a b : Expr) → MayStandFor a b → MayStandFor (negation p a) (negation p b)
  pub inversion : (p : ℕ) (a b : Expr) → MayStandFor a b → MayStandFor (inversion p a) (inversion p b)
  pub opposite : (p : ℕ) (a b : Expr) → MayStandFor a b → MayStandFor (opposite p a) (opposite p b)
  pub binary : (p : ℕ) (op : Op) (a b c d : Expr) → MayStandFor a c → MayStandFor b d → MayStandFor (binary p op a b) (binary p op c d)
  pub conditional : (p : ℕ) (t a b u c d : Expr) → MayStandFor t u → MayStandFor a c → MayStandFor b d → MayStandFor (conditional p t a b) (conditional p u c d)
  pub slice : (p h l : ℕ) (a b : Expr) → MayStandFor a b → MayStandFor (slice p a h l) (slice p b h l)
  pub cast : (p : ℕ) (t : PTy) (a b : Expr) → MayStandFor a b → MayStandFor (cast p t a) (cast p t b)

-- ---- a width of its own

-- an expression that breaks no rule has a width or a kind of its own exactly where its form says so, and then it has one
-- value at all places
pub record OwnWidthsAreKnown : Type 0 where
  pub exact : (s : Scope) → IsSound s → (want : Kind) (e : Expr) → IsFine (expr_tests s want e) → is_open (own s e) ≡ not (has_own e)
  pub free : (s : Scope) → IsSound s → (want : Kind) → kind_width want ≤ 128 → (e : Expr) → IsFine (expr_tests s want e) → has_own e ≡ true → (st : Store) → Shows s st → (v w : ℕ) → value_of e v st ≡ value_of e w st
