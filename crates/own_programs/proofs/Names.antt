-- Names under a scope are own where they are written so, and so are expressions.
use Rattle.std.proofs.Common.{◌≡◌, ℕ, List, [], ◌∷◌, map, Bool, true, false, cond, not, ◌&&◌, ◌||◌, nat_eq, codes, Option, Some, None, refl, sym, ap, ap₂, ◌∙◌}
use Rattle.std.specs.List.{AllByRecursion}
use Rattle.std.specs.Option.{option_map}
use Rattle.bit_values.specs.Bits.{Word}
use Rattle.lex_text.specs.Names.{same_text}
use Rattle.lex_text.specs.Comments.{begins}
use Rattle.p4_tree.specs.Tree.{Expr, num, flag, path, valid, applied, error_name, negation, inversion, opposite, binary, conditional, slice, cast, Arg, one, many}
use Rattle.p4_meaning.specs.Statements.{application, values_in}
use Rattle.p4_meaning.specs.Standard.{headers_root, metadata_root, standard_root}
use Rattle.p4_meaning.specs.Scope.{Roots, root_of, Inner, Scope, is_among, full, full_name, is_inner, inner_name, first_name, path_under, constant_at}
use Rattle.p4_meaning.specs.Under.{constant_or_path, expr_under, arg_under}
use Rattle.p4_rule_laws.specs.Old.{OldPath, OldExpr, OldExprs, OldStart, OldArgs}
use Rattle.p4_typing_laws.specs.Plain.{has_point}
use Rattle.own_code.specs.Regions.{is_mine, is_free}
use Rattle.own_code.specs.Forwarding.{IsOwnExpr, IsOwnStart, IsOwnApplication, IsOwnTest}
use Rattle.own_programs.specs.OwnPrograms.{is_own}

pub broken : {A : Type 0} → true ≡ false → A
broken h = absurd (cc)

pub own_not : (x : List ℕ) → is_own x ≡ true → is_mine x ≡ false
own_not x h = go (is_mine x) h
  where
    go : (b : Bool) → not b ≡ true → b ≡ false
    go true k = broken (sym k)
    go false k = refl

-- ---- full names

-- what follows a point tells nothing of how a name begins
begins_full : (w x c : List ℕ) → has_point w ≡ false → begins w (full c x) ≡ begins w x
begins_full [] x c h = refl
begins_full (b ∷ w) [] c h = go (nat_eq b 46) h
  where
    go : (e : Bool) → (e || has_point w) ≡ false → (e && begins w c) ≡ false
    go true k = broken k
    go false k = refl
begins_full (b ∷ w) (a ∷ x) c h = ap (λ (e : Bool). nat_eq b a && e) (begins_full w x c (go (nat_eq b 46) h))
  where
    go : (e : Bool) → (e || has_point w) ≡ false → has_point w ≡ false
    go true k = broken k
    go false k = k

pub full_mine : (c x : List ℕ) → is_mine (full c x) ≡ is_mine x
full_mine c x = ap₂ (λ (a b : Bool). a && not b) (begins_full (codes "hydra_") x c refl) (begins_full (codes "hydra_x_") x c refl)

pub full_own : (c x : List ℕ) → is_own x ≡ true → is_own (full c x) ≡ true
full_own c x h = ap not (full_mine c x) ∙ h

pub name_own : (sc : Scope) (x : List ℕ) → is_own x ≡ true → is_own (full_name sc x) ≡ true
name_own sc x h = go (is_among sc.own x)
  where
    go : (b : Bool) → is_own (cond b (full sc.control x) x) ≡ true
    go true = full_own sc.control x h
    go false = h

pub root_own : (r : Roots) (x : List ℕ) → is_own x ≡ true → is_own (root_of r x) ≡ true
root_own r x h = go (same_text r.headers x) (same_text r.metadata x) (same_text r.standard x)
  where
    go : (a b c : Bool) → is_own (cond a headers_root (cond b metadata_root (cond c standard_root x))) ≡ true
    go true b c = refl
    go false true c = refl
    go false false true = refl
    go false false false = h

inner_own : (i : Option Inner) (c x : List ℕ) → is_own x ≡ true → is_own (inner_name i c x) ≡ true
inner_own None c x h = h
inner_own (Some i) c x h = full_own c (full i.action x) (full_own i.action x h)

pub first_own : (sc : Scope) (x : List ℕ) → is_own x ≡ true → is_own (first_name sc x) ≡ true
first_own sc x h = go (is_inner sc.inner x)
  where
    go : (b : Bool) → is_own (cond b (inner_name sc.inner sc.control x) (root_of sc.roots x)) ≡ true
    go true = inner_own sc.inner sc.control x h
    go false = root_own sc.roots x h

-- ---- paths

pub both_own : (a b : Bool) → a ≡ true → b ≡ true → (a && b) ≡ true
both_own true b h k = k
both_own false b h k = broken (sym h)

pub path_own : (sc : Scope) (x : List (List ℕ)) → OldPath is_own x → is_free (path_under sc x) ≡ true
path_own sc [] o = refl
path_own sc (x ∷ []) o = first_own sc x o.0
path_own sc (x ∷ y ∷ rest) o = both_own (is_own (first_name sc x)) (is_own y) (first_own sc x o.0) o.1.0

-- ---- expressions

module _ (sc : Scope) where
  value_own : (p : ℕ) (w : Option Word) (x : List (List ℕ)) → OldPath is_own x → IsOwnExpr (constant_or_path p w (path_under sc x))
  value_own p None x o = path_own sc x o
  value_own p (Some w) x o = tt

  pub expr_own : (e : Expr) → OldExpr is_own e → IsOwnExpr (expr_under sc e)
  expr_own (num p n) o = tt
  expr_own (flag p b) o = tt
  expr_own (path p x) o = value_own p (constant_at sc x) x o
  expr_own (valid p x) o = path_own sc x o
  expr_own (applied p t h) o = tt
  expr_own (error_name p x) o = tt
  expr_own (negation p a) o = expr_own a o
  expr_own (inversion p a) o = expr_own a o
  expr_own (opposite p a) o = expr_own a o
  expr_own (binary p op a b) o = (expr_own a o.0, expr_own b o.1)
  expr_own (conditional p c a b) o = (expr_own c o.0, expr_own a o.1, expr_own b o.2)
  expr_own (slice p a h l) o = expr_own a o
  expr_own (cast p t a) o = expr_own a o

  pub exprs_own : (es : List Expr) → OldExprs is_own es → AllByRecursion IsOwnExpr (map (expr_under sc) es)
  exprs_own [] o = tt
  exprs_own (e ∷ es) o = (expr_own e o.0, exprs_own es o.1)

  pub start_own : (e : Option Expr) → OldStart is_own e → IsOwnStart (option_map (expr_under sc) e)
  start_own None o = tt
  start_own (Some e) o = expr_own e o

  pub values_own : (args : List Arg) → OldArgs is_own args → AllByRecursion IsOwnExpr (values_in (map (arg_under sc) args))
  values_own [] o = tt
  values_own (one p e ∷ args) o = (expr_own e o.0, values_own args o.1)
  values_own (many p es ∷ args) o = values_own args o.1

  -- ---- tests

  turned : (t : Option (List ℕ × Bool)) → IsOwnApplication t → IsOwnApplication (option_map (λ t. (t.0, not t.1)) t)
  turned None h = tt
  turned (Some t) h = h

  constant_tests : (p : ℕ) (w : Option Word) (x : List (List ℕ)) → IsOwnApplication (application (constant_or_path p w x))
  constant_tests p None x = tt
  constant_tests p (Some w) x = tt

  application_own : (e : Expr) → OldExpr is_own e → IsOwnApplication (application (expr_under sc e))
  application_own (num p n) o = tt
  application_own (flag p b) o = tt
  application_own (path p x) o = constant_tests p (constant_at sc x) (path_under sc x)
  application_own (valid p x) o = tt
  application_own (applied p t h) o = own_not (full_name sc t) (name_own sc t o)
  application_own (error_name p x) o = tt
  application_own (negation p a) o = turned (application (expr_under sc a)) (application_own a o)
  application_own (inversion p a) o = tt
  application_own (opposite p a) o = tt
  application_own (binary p op a b) o = tt
  application_own (conditional p c a b) o = tt
  application_own (slice p a h l) o = tt
  application_own (cast p t a) o = tt

  pub test_own : (e : Expr) → OldExpr is_own e → IsOwnTest (expr_under sc e)
  test_own e o = (application_own e o, expr_own e o)
