-- Each name of a well-typed program stands for something, of a kind that fits its use. Read `Places` before it.
use Rattle.std.specs.Prelude.{◌≡◌, ℕ, List, Bool, true, false}
use Rattle.p4_tree.specs.Tree.{Expr, num, flag, path, valid, applied, error_name, negation, inversion, opposite, binary, conditional, slice, cast, Program}
use Rattle.p4_scopes.specs.Kinds.{kinds_differ, widths_differ}
use Rattle.p4_scopes.specs.Scopes.{Stands, is_missing, Scope, own}
use Rattle.p4_scopes.specs.Uses.{reads, holds_header}
use Rattle.p4_scopes.specs.declared.kind.Kind.{Kind}
use Rattle.p4_statement_rules.specs.Expressions.{expr_tests, is_error}
use Rattle.rule_tests.specs.Tests.{IsFine}
use Rattle.p4_rules.specs.ProgramRules.{IsWellTyped}
use Rattle.p4_rules.specs.Mains.{names_parts}
use Rattle.p4_typing_laws.specs.Places.{Use, valued, named, EachUse}

-- a path stands for something that passes the test
pub record StandsFor (s : Scope) (fits : Stands → Bool) (x : List (List ℕ)) : Type 0 where
  pub known : is_missing (s x) ≡ false
  pub fitting : fits (s x) ≡ true

-- each path that an expression reads stands for a value, each header for a header, each error for an error; and no
-- table is applied inside an expression
abbrev pub Resolves : Scope → Expr → Type 0
Resolves s (num p n) = Unit {0}
Resolves s (flag p b) = Unit {0}
Resolves s (path p x) = StandsFor s reads x
Resolves s (valid p x) = StandsFor s holds_header x
Resolves s (applied p t h) = ⊥
Resolves s (error_name p x) = is_error x ≡ true
Resolves s (negation p a) = Resolves s a
Resolves s (inversion p a) = Resolves s a
Resolves s (opposite p a) = Resolves s a
Resolves s (binary p op a b) = Resolves s a × Resolves s b
Resolves s (conditional p c a b) = Resolves s c × Resolves s a × Resolves s b
Resolves s (slice p a h l) = Resolves s a
Resolves s (cast p t a) = Resolves s a

-- the names of an expression resolve, and its kind is not another than its place wants
pub record Agrees (s : Scope) (want : Kind) (e : Expr) : Type 0 where
  pub names : Resolves s e
  pub kind : kinds_differ (own s e) want ≡ false
  pub width : widths_differ (own s e) want ≡ false

-- a use that agrees with its place
abbrev pub UseAgrees : Scope → Use → Type 0
UseAgrees s (valued want e) = Agrees s want e
UseAgrees s (named fits x) = StandsFor s fits x

-- so it is of each expression that breaks no rule, and of each use of a well-typed program, whose `main` names a parser
-- and five controls
pub record NamesResolve : Type 0 where
  pub expressions : (s : Scope) (want : Kind) (e : Expr) → IsFine (expr_tests s want e) → Agrees s want e
  pub programs : (p : Program) → IsWellTyped p → EachUse UseAgrees p
  pub parts : (p : Program) → IsWellTyped p → names_parts p.tops p.main ≡ true
