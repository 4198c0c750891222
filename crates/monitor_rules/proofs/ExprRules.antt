-- Lowered expressions break no rule of P4, where what stands for a name is of its kind.
use Rattle.std.proofs.Common.{◌≡◌, ℕ, ◌^◌, List, Bool, true, false, not, ◌&&◌, ◌||◌, refl, sym, ap, ap₂, ◌∙◌, subst, arith}
use Rattle.std.proofs.lemmas.Bool.Decides.{nat_tests}
use Rattle.std.specs.Prelude.{nat_eq, nat_lt, if◌then◌else◌}
use Rattle.lex_text.specs.declared.literal.Literal.{Literal}
use Rattle.rule_tests.specs.Tests.{IsFine}
use Rattle.indus_tree.specs.Tree.{Expr, num, flag, read as reads, count, index, member, negation, inversion, binary, cast, Decl}
use Rattle.indus_tree.specs.declared.tree.Op.{Op}
use Rattle.indus_tree.specs.declared.tree.Op.TheVariants as op
use Rattle.indus_scopes.specs.Kinds as from
use Rattle.indus_scopes.specs.Scopes.{Sight, own}
use Rattle.indus_scopes.specs.declared.kind.Kind.{Kind}
use Rattle.indus_scopes.specs.declared.kind.Kind.TheVariants.{Number, Truth, Unknown}
use Rattle.indus_rules.specs.Sites.{expr_sites}
use Rattle.indus_rules.specs.Rules.{Fine, number_width, too_wide}
use Rattle.indus_rules.specs.declared.rule.Rule.TheVariants.{WidthDiffers, KindDiffers, BadSize}
use Rattle.indus_types.proofs.Widths.{neither, kind_fine}
use Rattle.p4_tree.specs.Tree as p4
use Rattle.p4_tree.specs.Operators.{class_of}
use Rattle.p4_tree.specs.declared.statement.PTy.TheVariants as type
use Rattle.p4_scopes.specs.Kinds as to
use Rattle.p4_scopes.specs.Scopes.{Scope}
use Rattle.p4_scopes.specs.Scopes as scope
use Rattle.p4_scopes.specs.declared.kind.Kind as target
use Rattle.p4_scopes.specs.declared.kind.Kind.TheVariants as t
use Rattle.p4_statement_rules.specs.Expressions as rules
use Rattle.lowered_code.specs.Environment.{Environment}
use Rattle.lowered_code.specs.Expressions.{as_bit, lowered_op, lowered}
use Rattle.monitor_rules.proofs.KindMaps.{K, join_same, number_same, width_same, widths_same, kinds_same, binary_same, left_same, right_same}

-- a truth value as one bit is of one, and breaks no rule there
pub record IsBit (sc : Scope) (e : p4.Expr) : Type 0 where
  pub own : scope.own sc (as_bit e) ≡ t.Number 1
  pub fine : scope.own sc e ≡ t.Truth → IsFine (rules.expr_tests sc t.Truth e) → IsFine (rules.expr_tests sc (t.Number 1) (as_bit e))

module _ (sc : Scope) where
  -- where it is cast
  cast_fits : (e : p4.Expr) → scope.own sc e ≡ t.Truth → IsFine (rules.expr_tests sc t.Truth e) → IsFine (rules.expr_tests sc (t.Number 1) (p4.cast 0 (type.Bit 1) e))
  cast_fits e k h = ((refl, refl), (refl, (ap (rules.cast_differs (t.Number 1)) k, subst (λ q. IsFine (rules.expr_tests sc q e)) (sym (ap to.as_value k)) h)))

  pub cast_bit : (e : p4.Expr) → as_bit e ≡ p4.cast 0 (type.Bit 1) e → IsBit sc e
  cast_bit e is =
      record {
        own = ap (scope.own sc) is;
        fine = λ k h. subst (λ f. IsFine (rules.expr_tests sc (t.Number 1) f)) (sym is) (cast_fits e k h);
      }

  written_bit : (p : ℕ) (b : Bool) → IsBit sc (p4.flag p b)
  written_bit p b = record { own = refl; fine = λ k h. ((refl, refl), (refl, refl)) }

module _ (env : Environment) (ds : List Decl) (base : ℕ) (before : List Expr) (sc : Scope) (st : Sight) where
  abbrev low : Expr → p4.Expr
  low e = lowered env ds base before e

  -- what stands for a name, with its key, is of its kind, and breaks no rule where the kind fits
  pub record IsRight (e : Expr) : Type 0 where
    pub same : scope.own sc (low e) ≡ K (own st e)
    pub known : own st e ≡ Unknown → ⊥
    pub fine : (w : Kind) → from.widths_differ (own st e) w ≡ false → from.kinds_differ (own st e) w ≡ false → IsFine (rules.expr_tests sc (K w) (low e))
    pub bit : IsBit sc (low e)

  abbrev pub Rights : Expr → Type 0
  Rights (num p n) = Unit {0}
  Rights (flag p b) = Unit {0}
  Rights (reads p x) = IsRight (reads p x)
  Rights (count p x) = ⊥
  Rights (index p x ks) = IsRight (index p x ks)
  Rights (member p ks x) = IsRight (member p ks x)
  Rights (negation p a) = Rights a
  Rights (inversion p a) = Rights a
  Rights (binary p o a b) = Rights a × Rights b
  Rights (cast p v a) = Rights a

  pub own_same : (e : Expr) → Rights e → scope.own sc (low e) ≡ K (own st e)
  own_same (num p n) r = refl
  own_same (flag p b) r = refl
  own_same (reads p x) r = r.same
  own_same (count p x) r = absurd r
  own_same (index p x ks) r = r.same
  own_same (member p ks x) r = r.same
  own_same (negation p a) r = refl
  own_same (inversion p a) r = ap to.as_number (own_same a r) ∙ number_same (own st a)
  own_same (binary p o a b) r = ap₂ (to.binary_kind (lowered_op o)) (own_same a r.0) (own_same b r.1) ∙ binary_same o (own st a) (own st b)
  own_same (cast p v a) r = refl

  pub bit_right : (e : Expr) → Rights e → IsBit sc (low e)
  bit_right (num p n) r = cast_bit sc (low (num p n)) refl
  bit_right (flag p b) r = written_bit sc 0 b
  bit_right (reads p x) r = r.bit
  bit_right (count p x) r = absurd r
  bit_right (index p x ks) r = r.bit
  bit_right (member p ks x) r = r.bit
  bit_right (negation p a) r = cast_bit sc (low (negation p a)) refl
  bit_right (inversion p a) r = cast_bit sc (low (inversion p a)) refl
  bit_right (binary p o a b) r = cast_bit sc (low (binary p o a b)) refl
  bit_right (cast p v a) r = cast_bit sc (low (cast p v a)) refl

  -- ---- no expression is of an unknown kind

  number_known : (k : Kind) → from.as_number k ≡ Unknown → ⊥
  number_known (Number w) e = cc
  number_known Truth e = cc
  number_known Unknown e = cc

  truth_known : (let a : Kind = Truth in a ≡ Unknown) → ⊥
  truth_known e = cc

  pub own_known : (e : Expr) → Rights e → own st e ≡ Unknown → ⊥
  own_known (num p n) r e = cc
  own_known (flag p b) r e = cc
  own_known (reads p x) r e = r.known e
  own_known (count p x) r e = absurd r
  own_known (index p x ks) r e = r.known e
  own_known (member p ks x) r e = r.known e
  own_known (negation p a) r e = cc
  own_known (inversion p a) r e = number_known (own st a) e
  own_known (binary p o a b) r e = go o e
    where
      go : (o : Op) → from.binary_kind o (own st a) (own st b) ≡ Unknown → ⊥
      go op.Mul e = number_known (from.join (own st a) (own st b)) e
      go op.Add e = number_known (from.join (own st a) (own st b)) e
      go op.Sub e = number_known (from.join (own st a) (own st b)) e
      go op.BitAnd e = number_known (from.join (own st a) (own st b)) e
      go op.BitXor e = number_known (from.join (own st a) (own st b)) e
      go op.BitOr e = number_known (from.join (own st a) (own st b)) e
      go op.Shl e = number_known (own st a) e
      go op.Shr e = number_known (own st a) e
      go op.Less e = truth_known e
      go op.LessEq e = truth_known e
      go op.More e = truth_known e
      go op.MoreEq e = truth_known e
      go op.Equal e = truth_known e
      go op.Differ e = truth_known e
      go op.Both e = truth_known e
      go op.Either e = truth_known e
  own_known (cast p v a) r e = cc

  -- ---- single tests

  fits : (at : ℕ) (k : target.Kind) (a w : Kind) → k ≡ K a → from.widths_differ a w ≡ false → from.kinds_differ a w ≡ false → IsFine (rules.fit_tests at k (K w))
  fits at k a w e x y = (ap (λ q. to.widths_differ q (K w)) e ∙ widths_same a w ∙ x, ap (λ q. to.kinds_differ q (K w)) e ∙ kinds_same a w ∙ y)

  zero_low : (v : ℕ) → nat_eq v 0 ≡ true → nat_lt 128 v ≡ false
  zero_low v e = grind (arith, nat_tests, e)

  -- a number that is not too wide has no great width
  not_wide : (n : Literal) (w : Kind) → too_wide (number_width n w) n.value ≡ false → nat_lt 128 n.width ≡ false
  not_wide n w h = go (nat_eq n.width 0) refl h
    where
      go : (b : Bool) → nat_eq n.width 0 ≡ b → too_wide (if b then from.width_in w else n.width) n.value ≡ false → nat_lt 128 n.width ≡ false
      go true e h = zero_low n.width e
      go false e h = (neither (nat_lt 128 n.width) (not (nat_lt n.value (2 ^ n.width))) (ap (λ b. not b && (nat_lt 128 n.width || not (nat_lt n.value (2 ^ n.width)))) (sym e) ∙ h)).0

  no_error : (k : target.Kind) (a : Kind) (e : p4.Expr) → k ≡ K a → rules.is_held_error k e ≡ false
  no_error k a e is = ap (λ q. rules.is_held_error q e) is ∙ go a
    where
      go : (a : Kind) → rules.is_held_error (K a) e ≡ false
      go (Number w) = refl
      go Truth = refl
      go Unknown = refl

  compares : (k l : target.Kind) (a b : Kind) (d e : p4.Expr) → k ≡ K a → l ≡ K b → (rules.ill_compared k d e || rules.ill_compared l e d) ≡ false
  compares k l a b d e i j =
      ap₂ (λ (x y : Bool). (x && not (rules.is_error_name e)) || (y && not (rules.is_error_name d))) (no_error k a d i) (no_error l b e j)

  class_fine : (o : Op) (p : ℕ) (k l : target.Kind) (a b : Kind) (d e : p4.Expr) → k ≡ K a → l ≡ K b → IsFine (rules.class_tests p (class_of (lowered_op o)) k l d e)
  class_fine op.Mul p k l a b d e i j = tt
  class_fine op.Add p k l a b d e i j = tt
  class_fine op.Sub p k l a b d e i j = tt
  class_fine op.BitAnd p k l a b d e i j = tt
  class_fine op.BitXor p k l a b d e i j = tt
  class_fine op.BitOr p k l a b d e i j = tt
  class_fine op.Shl p k l a b d e i j = tt
  class_fine op.Shr p k l a b d e i j = tt
  class_fine op.Less p k l a b d e i j = compares k l a b d e i j
  class_fine op.LessEq p k l a b d e i j = compares k l a b d e i j
  class_fine op.More p k l a b d e i j = compares k l a b d e i j
  class_fine op.MoreEq p k l a b d e i j = compares k l a b d e i j
  class_fine op.Equal p k l a b d e i j = compares k l a b d e i j
  class_fine op.Differ p k l a b d e i j = compares k l a b d e i j
  class_fine op.Both p k l a b d e i j = tt
  class_fine op.Either p k l a b d e i j = tt

  -- what is cast is a number
  cast_fine : (v : ℕ) (k : target.Kind) (a : Kind) → k ≡ K a → (a ≡ Unknown → ⊥) → from.kinds_differ a (from.as_number a) ≡ false → (rules.cast_differs (t.Number v) k ≡ false) × (K (from.as_number a) ≡ to.as_value k)
  cast_fine v k (Number w) e n h = (ap (rules.cast_differs (t.Number v)) e, sym (ap to.as_value e))
  cast_fine v k Truth e n h = absurd (let c : true ≡ false = h in cc)
  cast_fine v k Unknown e n h = absurd (n refl)

  -- ---- expressions

  pub fine_same : (e : Expr) (w : Kind) → Rights e → Fine (expr_sites st w e) → IsFine (rules.expr_tests sc (K w) (low e))
  fine_same (num p n) w r f =
      let k = neither (from.kinds_differ (Number n.width) w) _ (f KindDiffers) in (
        fits p (t.Number n.width) (Number n.width) w refl (f WidthDiffers) k.0,
        (ap (λ v. nat_eq (if nat_eq n.width 0 then v else n.width) 0) (width_same w) ∙ k.1, not_wide n w (f BadSize)),
      )
  fine_same (flag p b) w r f = fits p t.Truth Truth w refl (f WidthDiffers) (neither (from.kinds_differ Truth w) _ (f KindDiffers)).0
  fine_same (reads p x) w r f = r.fine w (f WidthDiffers) (neither (from.kinds_differ (own st (reads p x)) w) _ (f KindDiffers)).0
  fine_same (count p x) w r f = absurd r
  fine_same (index p x ks) w r f = r.fine w (f.0 WidthDiffers) (neither (from.kinds_differ (own st (index p x ks)) w) _ (f.0 KindDiffers)).0
  fine_same (member p ks x) w r f = r.fine w (f.0 WidthDiffers) (neither (from.kinds_differ (own st (member p ks x)) w) _ (f.0 KindDiffers)).0
  fine_same (negation p a) w r f = (fits p t.Truth Truth w refl (f.0 WidthDiffers) (neither (from.kinds_differ Truth w) _ (f.0 KindDiffers)).0, fine_same a Truth r f.1)
  fine_same (inversion p a) w r f =
      let o = own_same a r in (
        fits p (to.as_number (scope.own sc (low a))) (from.as_number (own st a)) w (ap to.as_number o ∙ number_same (own st a)) (f.0 WidthDiffers) (neither (from.kinds_differ (from.as_number (own st a)) w) _ (f.0 KindDiffers)).0,
        subst (λ k. IsFine (rules.expr_tests sc k (low a))) (sym (ap (λ k. to.as_number (to.join k (K w))) o ∙ ap to.as_number (join_same (own st a) w) ∙ number_same (from.join (own st a) w)))
            (fine_same a (from.as_number (from.join (own st a) w)) r f.1),
      )
  fine_same (binary p o a b) w r f =
      let x = own_same a r.0 in
      let y = own_same b r.1 in (
        fits p (to.binary_kind (lowered_op o) (scope.own sc (low a)) (scope.own sc (low b))) (from.binary_kind o (own st a) (own st b)) w
            (own_same (binary p o a b) r) (f.0 WidthDiffers) (neither (from.kinds_differ (from.binary_kind o (own st a) (own st b)) w) _ (f.0 KindDiffers)).0,
        (
          class_fine o 0 (scope.own sc (low a)) (scope.own sc (low b)) (own st a) (own st b) (low a) (low b) x y,
          (
            subst (λ k. IsFine (rules.expr_tests sc k (low a))) (sym (ap₂ (λ k l. to.left_want (lowered_op o) k l (K w)) x y ∙ left_same o (own st a) (own st b) w)) (fine_same a (from.left_want o (own st a) (own st b) w) r.0 f.1.0),
            subst (λ k. IsFine (rules.expr_tests sc k (low b))) (sym (ap₂ (λ k l. to.right_want (lowered_op o) k l (K w)) x y ∙ right_same o (own st a) (own st b) w)) (fine_same b (from.right_want o (own st a) (own st b) w) r.1 f.1.1),
          ),
        ),
      )
  fine_same (cast p v a) w r f =
      let c = cast_fine v (scope.own sc (low a)) (own st a) (own_same a r) (own_known a r) (kind_fine st (from.as_number (own st a)) a f.1) in (
        fits p (t.Number v) (Number v) w refl (f.0 WidthDiffers) (neither (from.kinds_differ (Number v) w) _ (f.0 KindDiffers)).0,
        (
          f.0 BadSize,
          (
            c.0,
            subst (λ k. IsFine (rules.expr_tests sc k (low a))) c.1 (fine_same a (from.as_number (own st a)) r f.1),
          ),
        ),
      )
