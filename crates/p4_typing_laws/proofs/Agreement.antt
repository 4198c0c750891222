-- The names of an expression that breaks no rule resolve, and its kind is not another than its place wants.
use Rattle.std.proofs.Common.{◌≡◌, true, false}
use Rattle.rule_tests.specs.Tests.{IsFine}
use Rattle.p4_tree.specs.Tree.{Expr, num, flag, path, valid, applied, error_name, negation, inversion, opposite, binary, conditional, slice, cast}
use Rattle.p4_scopes.specs.Scopes.{Scope}
use Rattle.p4_scopes.specs.Uses.{reads, holds_header}
use Rattle.p4_scopes.specs.declared.kind.Kind.{Kind}
use Rattle.p4_statement_rules.specs.Expressions.{is_error, expr_tests}
use Rattle.p4_typing_laws.specs.Names.{Resolves, Agrees}
use Rattle.p4_typing_laws.proofs.Fine.{twice_not}

module _ (s : Scope) where
  resolves : (e : Expr) (w : Kind) → IsFine (expr_tests s w e) → Resolves s e
  resolves (num p n) w f = tt
  resolves (flag p b) w f = tt
  resolves (path p x) w f = record { known = f.0; fitting = twice_not (reads (s x)) f.1.0 }
  resolves (valid p x) w f = record { known = f.0; fitting = twice_not (holds_header (s x)) f.1.0 }
  resolves (applied p t h) w f = let c : true ≡ false = f.1.1 in absurd (cc)
  resolves (error_name p x) w f = twice_not (is_error x) f.0
  resolves (negation p a) w f = resolves a _ f.1
  resolves (inversion p a) w f = resolves a _ f.1
  resolves (opposite p a) w f = resolves a _ f.1
  resolves (binary p op a b) w f = (resolves a _ f.1.1.0, resolves b _ f.1.1.1)
  resolves (conditional p c a b) w f = (resolves c _ f.1.0, resolves a _ f.1.1.0, resolves b _ f.1.1.1)
  resolves (slice p a h l) w f = resolves a _ f.1.1
  resolves (cast p t a) w f = resolves a _ f.1.1.1

  pub agrees : (w : Kind) (e : Expr) → IsFine (expr_tests s w e) → Agrees s w e
  agrees w (num p n) f = record { names = tt; kind = f.0.1; width = f.0.0 }
  agrees w (flag p b) f = record { names = tt; kind = f.1; width = f.0 }
  agrees w (path p x) f = record { names = resolves (path p x) w f; kind = f.1.1.1; width = f.1.1.0 }
  agrees w (valid p x) f = record { names = resolves (valid p x) w f; kind = f.1.1.1; width = f.1.1.0 }
  agrees w (applied p t h) f = let c : true ≡ false = f.1.1 in absurd (cc)
  agrees w (error_name p x) f = record { names = resolves (error_name p x) w f; kind = f.1.1; width = f.1.0 }
  agrees w (negation p a) f = record { names = resolves (negation p a) w f; kind = f.0.1; width = f.0.0 }
  agrees w (inversion p a) f = record { names = resolves (inversion p a) w f; kind = f.0.1; width = f.0.0 }
  agrees w (opposite p a) f = record { names = resolves (opposite p a) w f; kind = f.0.1; width = f.0.0 }
  agrees w (binary p op a b) f = record { names = resolves (binary p op a b) w f; kind = f.0.1; width = f.0.0 }
  agrees w (conditional p c a b) f = record { names = resolves (conditional p c a b) w f; kind = f.0.1; width = f.0.0 }
  agrees w (slice p a h l) f = record { names = resolves (slice p a h l) w f; kind = f.0.1; width = f.0.0 }
  agrees w (cast p t a) f = record { names = resolves (cast p t a) w f; kind = f.0.1; width = f.0.0 }
