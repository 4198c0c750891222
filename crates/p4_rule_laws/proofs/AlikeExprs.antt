-- The tests of an expression rest on the scope at the expression's names alone.
use Rattle.std.proofs.Common.{◌≡◌, ℕ, List, [], ◌∷◌, true, false, not, refl, ap}
use Rattle.rule_tests.specs.Tests.{test, both}
use Rattle.p4_tree.specs.Tree.{Expr, num, flag, path, valid, applied, error_name, negation, inversion, opposite, binary, conditional, slice, cast}
use Rattle.p4_tree.specs.declared.statement.PTy.{PTy}
use Rattle.p4_tree.specs.declared.statement.PTy.TheVariants as type
use Rattle.p4_scopes.specs.Kinds.{as_number, as_value, join, left_want, right_want, choice_want, index_want}
use Rattle.p4_scopes.specs.Scopes.{value_kind, is_missing, Scope, own}
use Rattle.p4_scopes.specs.Uses.{is_type, is_constant}
use Rattle.p4_scopes.specs.declared.kind.Kind.{Kind}
use Rattle.p4_scopes.specs.declared.kind.Kind.TheVariants.{Truth}
use Rattle.p4_statement_rules.specs.Expressions.{new_tests, type_tests, scalar_tests, read_tests, valid_tests, applied_tests, expr_tests, free_tests, all_free, index_tests, known_tests, constant_tests}
use Rattle.p4_statement_rules.specs.declared.rule.ProgramRule.TheVariants.{NameTwice, NoSuchName, KindDiffers}
use Rattle.p4_rule_laws.specs.Old.{Names, Alike, OldType, OldExpr, OldExprs}
use Rattle.p4_rule_laws.proofs.AlikeScopes.{thing_alike}

module _ (old : Names) (s t : Scope) (a : Alike old s t) where
  pub own_alike : (e : Expr) → OldExpr old e → own s e ≡ own t e
  own_alike (num p n) o = refl
  own_alike (flag p b) o = refl
  own_alike (path p x) o = ap value_kind (a.same x o)
  own_alike (valid p x) o = refl
  own_alike (applied p y h) o = refl
  own_alike (error_name p x) o = refl
  own_alike (negation p b) o = refl
  own_alike (inversion p b) o = ap as_number (own_alike b o)
  own_alike (opposite p b) o = ap as_number (own_alike b o)
  own_alike (binary p op b c) o = let f = own_alike b o.0 in let g = own_alike c o.1 in cc
  own_alike (conditional p b c d) o = let f = own_alike c o.1 in let g = own_alike d o.2 in cc
  own_alike (slice p b h l) o = refl
  own_alike (cast p y b) o = refl

  pub new_alike : (p : ℕ) (x : List ℕ) → old x ≡ true → new_tests p s x ≡ new_tests p t x
  new_alike p x o = ap (λ st. test p NameTwice (not (is_missing st))) (a.same (x ∷ []) (o, tt))

  pub type_tests_alike : (p : ℕ) (y : PTy) → OldType old y → type_tests p s y ≡ type_tests p t y
  type_tests_alike p (type.Bit w) o = refl
  type_tests_alike p type.Bool o = refl
  type_tests_alike p (type.Named y) o = ap (λ st. both (test p NoSuchName (is_missing st)) (test p KindDiffers (not (is_type st)))) (a.same (y ∷ []) (o, tt))

  pub scalar_alike : (p : ℕ) (y : PTy) → OldType old y → scalar_tests p s y ≡ scalar_tests p t y
  scalar_alike p y o = let e = type_tests_alike p y o in let f = thing_alike old s t a y o in cc

  pub expr_alike : (w : Kind) (e : Expr) → OldExpr old e → expr_tests s w e ≡ expr_tests t w e
  expr_alike w (num p n) o = refl
  expr_alike w (flag p b) o = refl
  expr_alike w (path p x) o = ap (λ st. read_tests p st w) (a.same x o)
  expr_alike w (valid p x) o = ap (λ st. valid_tests p st w) (a.same x o)
  expr_alike w (applied p y h) o = ap (λ st. applied_tests p false st) (a.same (y ∷ []) (o, tt))
  expr_alike w (error_name p x) o = refl
  expr_alike w (negation p b) o = let e = expr_alike Truth b o in cc
  expr_alike w (inversion p b) o = let e = own_alike b o in let f = expr_alike (as_number (join (own s b) w)) b o in cc
  expr_alike w (opposite p b) o = let e = own_alike b o in let f = expr_alike (as_number (join (own s b) w)) b o in cc
  expr_alike w (binary p op b c) o =
      let e = own_alike b o.0 in
      let f = own_alike c o.1 in
      let g = expr_alike (left_want op (own s b) (own s c) w) b o.0 in
      let h = expr_alike (right_want op (own s b) (own s c) w) c o.1 in
      cc
  expr_alike w (conditional p b c d) o =
      let e = own_alike c o.1 in
      let f = own_alike d o.2 in
      let g = expr_alike Truth b o.0 in
      let h = expr_alike (choice_want (own s c) (own s d) w) c o.1 in
      let i = expr_alike (choice_want (own s c) (own s d) w) d o.2 in
      cc
  expr_alike w (slice p b h l) o =
      let e = own_alike b o in
      let f = expr_alike (as_number (own s b)) b o in
      cc
  expr_alike w (cast p y b) o =
      let e = own_alike b o in
      let f = expr_alike (as_value (own s b)) b o in
      cc

  pub free_alike : (e : Expr) → OldExpr old e → free_tests s e ≡ free_tests t e
  free_alike e o = let f = own_alike e o in let g = expr_alike (as_value (own s e)) e o in cc

  pub all_free_alike : (es : List Expr) → OldExprs old es → all_free s es ≡ all_free t es
  all_free_alike [] o = refl
  all_free_alike (e ∷ es) o = let f = free_alike e o.0 in let g = all_free_alike es o.1 in cc

  pub index_alike : (e : Expr) → OldExpr old e → index_tests s e ≡ index_tests t e
  index_alike e o = let f = own_alike e o in let g = expr_alike (index_want (own s e)) e o in cc

  pub known_alike : (e : Expr) → OldExpr old e → known_tests s e ≡ known_tests t e
  known_alike (num p n) o = refl
  known_alike (flag p b) o = refl
  known_alike (path p x) o = ap (λ st. test p KindDiffers (not (is_constant st))) (a.same x o)
  known_alike (valid p x) o = refl
  known_alike (applied p y h) o = refl
  known_alike (error_name p x) o = refl
  known_alike (negation p b) o = known_alike b o
  known_alike (inversion p b) o = known_alike b o
  known_alike (opposite p b) o = known_alike b o
  known_alike (binary p op b c) o = let f = known_alike b o.0 in let g = known_alike c o.1 in cc
  known_alike (conditional p b c d) o = let f = known_alike b o.0 in let g = known_alike c o.1 in let h = known_alike d o.2 in cc
  known_alike (slice p b h l) o = known_alike b o
  known_alike (cast p y b) o = known_alike b o

  pub constant_alike : (k : Kind) (e : Expr) → OldExpr old e → constant_tests s k e ≡ constant_tests t k e
  constant_alike k e o = let f = expr_alike k e o in let g = known_alike e o in cc
