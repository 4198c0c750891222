-- An expression that may stand in the place of another. Read `OwnWidths` before it, and `Replaced` of `p4_rule_laws`
-- and `Widths` of `p4_typing_laws`; `Laws` after it.
use Rattle.std.specs.Prelude.{◌≡◌, ℕ, ◌≤◌, true, Option, Some, None}
use Rattle.rule_tests.specs.Tests.{IsFine}
use Rattle.p4_tree.specs.Tree.{Expr}
use Rattle.p4_tree.specs.View.{expr_of}
use Rattle.p4_tree.specs.declared.statement.Expr as code
use Rattle.p4_meaning.specs.Store.{Store}
use Rattle.p4_meaning.specs.Value.{value_of}
use Rattle.p4_printer.specs.CanSpell.{CanSpellExpr}
use Rattle.p4_scopes.specs.Scopes.{Scope}
use Rattle.p4_scopes.specs.declared.kind.Kind.{Kind}
use Rattle.p4_statement_rules.specs.Expressions.{expr_tests}
use Rattle.p4_rule_laws.specs.Replaced.{Replaces}
use Rattle.p4_typing_laws.specs.Soundness.{kind_width, IsSound}
use Rattle.p4_typing_laws.specs.Widths.{Shows}
use Rattle.rewriting_laws.specs.OwnWidths.{has_own}

-- Where the first expression breaks no rule, both have one value for each width that their place gives, in each store in
-- which what is in sight are words of the declared widths: in another one `x + 0` is not `x`. What has a width of its own
-- has one value at all places, so of no width less could be asked.
abbrev pub HaveSameValue : (e f : Expr) → Type 0
HaveSameValue e f =
    (s : Scope) → IsSound s → (want : Kind) → kind_width want ≤ 128 → IsFine (expr_tests s want e) → (st : Store) → Shows s st → (w : ℕ) → value_of f w st ≡ value_of e w st

-- the second expression may stand in the place of the first
pub record MayStandFor (e f : Expr) : Type 0 where
  -- some tokens spell it where some spell the first
  pub spelled : CanSpellExpr e → CanSpellExpr f
  -- it has a width or a kind of its own where the first has one
  pub own : has_own e ≡ true → has_own f ≡ true
  -- wherever the first breaks no rule, it breaks none, and is of the same kind, with the same width
  pub typed : (s : Scope) → IsSound s → Replaces s e f
  pub valued : HaveSameValue e f

-- a tree that is answered, where there is one
abbrev pub StandsIfAny : Expr → Option Expr → Type 0
StandsIfAny e None = Unit {0}
StandsIfAny e (Some f) = MayStandFor e f

-- an expression that is answered, where there is one
abbrev pub MayStandIfAny : Expr → Option code.Expr → Type 0
MayStandIfAny e None = Unit {0}
MayStandIfAny e (Some f) = MayStandFor e (expr_of f)
