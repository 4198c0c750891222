-- Lowered expressions where no place gives a width, as in reports, and lowered indexes.
use Rattle.std.proofs.Common.{◌≡◌, ℕ, List, Bool, true, false, ◌||◌, refl, sym, ap, ap₂, ◌∙◌, subst, arith}
use Rattle.std.specs.Prelude.{nat_eq, if◌then◌else◌}
use Rattle.std.proofs.lemmas.Bool.Decides.{nat_tests}
use Rattle.rule_tests.specs.Tests.{IsFine}
use Rattle.indus_tree.specs.Tree.{Expr, Exprs, num, flag, read as reads, count, index, member, negation, inversion, binary, cast, none, more, Decl}
use Rattle.indus_tree.specs.declared.tree.Op.{Op}
use Rattle.indus_tree.specs.declared.tree.Op.TheVariants as op
use Rattle.indus_scopes.specs.Kinds as from
use Rattle.indus_scopes.specs.Scopes.{Sight, own}
use Rattle.indus_scopes.specs.declared.kind.Kind.{Kind}
use Rattle.indus_scopes.specs.declared.kind.Kind.TheVariants.{Number, Truth, Unknown}
use Rattle.indus_rules.specs.Sites.{at_expr, expr_sites, all_sites, free}
use Rattle.indus_rules.specs.Rules.{Fine, broken, too_wide, ill_used}
use Rattle.indus_rules.specs.declared.rule.Rule.{Rule}
use Rattle.indus_rules.specs.declared.rule.Rule.TheVariants.{NameTwice, NoSuchName, WidthDiffers, KindDiffers, NotWritable, WrongBlock, LoopListChanged, BadSize}
use Rattle.indus_types.proofs.Widths.{neither}
use Rattle.p4_scopes.specs.Kinds as to
use Rattle.p4_scopes.specs.Scopes.{Scope}
use Rattle.p4_statement_rules.specs.Expressions as rules
use Rattle.lowered_code.specs.Environment.{Environment}
use Rattle.lowered_code.specs.Expressions.{lowered, lowered_all}
use Rattle.monitor_rules.proofs.KindMaps.{K, like_same}
use Rattle.monitor_rules.proofs.ExprRules.{Rights, own_same, fine_same}

-- ---- a place that wants nothing, and one that wants what the expression is

self_widths : (k : Kind) → from.widths_differ k k ≡ false
self_widths (Number v) = grind (arith, nat_tests)
self_widths Truth = refl
self_widths Unknown = refl

self_kinds : (k : Kind) → from.kinds_differ k k ≡ false
self_kinds (Number v) = refl
self_kinds Truth = refl
self_kinds Unknown = refl

zero_of : (v : ℕ) → nat_eq v 0 ≡ true → v ≡ 0
zero_of v e = grind (arith, nat_tests, e)

open_number : (k : Kind) → from.as_number (from.join k Unknown) ≡ from.as_number (from.join k (from.as_number k))
open_number (Number v) = go (nat_eq v 0) refl
  where
    go : (b : Bool) → nat_eq v 0 ≡ b → from.as_number (if b then Unknown else Number v) ≡ from.as_number (if b then Number v else Number v)
    go true e = ap Number (sym (zero_of v e))
    go false e = refl
open_number Truth = refl
open_number Unknown = refl

number_twice : (k : Kind) → from.as_number (from.as_number k) ≡ from.as_number k
number_twice (Number v) = refl
number_twice Truth = refl
number_twice Unknown = refl

open_like : (a b : Kind) → from.like_want a b Unknown ≡ from.like_want a b (from.as_number (from.join a b))
open_like (Number v) b = go (nat_eq v 0) refl
  where
    go : (c : Bool) → nat_eq v 0 ≡ c → from.as_number (from.join (if c then from.as_number b else Number v) Unknown) ≡ from.as_number (from.join (if c then from.as_number b else Number v) (from.as_number (if c then b else Number v)))
    go true e = open_number (from.as_number b) ∙ ap (λ k. from.as_number (from.join (from.as_number b) k)) (number_twice b)
    go false e = open_number (Number v)
open_like Truth b = go (from.as_number b)
  where
    go : (k : Kind) → from.as_number (from.join k Unknown) ≡ from.as_number (from.join k (Number 0))
    go (Number w) = more (nat_eq w 0) refl
      where
        more : (c : Bool) → nat_eq w 0 ≡ c → from.as_number (if c then Unknown else Number w) ≡ from.as_number (if c then Number 0 else Number w)
        more true e = refl
        more false e = refl
    go Truth = refl
    go Unknown = refl
open_like Unknown b = open_number (from.as_number b) ∙ ap (λ k. from.as_number (from.join (from.as_number b) k)) (number_twice b)

module _ (st : Sight) where
  -- what is no number breaks the same rules
  same_rules : (e : Expr) (a b : Kind) → ((r : Rule) → broken r (at_expr st a e) ≡ false) → from.widths_differ (own st e) b ≡ false → from.kinds_differ (own st e) b ≡ false → ill_used st b e ≡ ill_used st a e → broken BadSize (at_expr st b e) ≡ broken BadSize (at_expr st a e) →
      (r : Rule) → broken r (at_expr st b e) ≡ false
  same_rules e a b f w k u z NameTwice = refl
  same_rules e a b f w k u z NoSuchName = f NoSuchName
  same_rules e a b f w k u z WidthDiffers = w
  same_rules e a b f w k u z KindDiffers = ap₂ (λ x y. x || y) k u ∙ (neither (from.kinds_differ (own st e) a) (ill_used st a e) (f KindDiffers)).1
  same_rules e a b f w k u z NotWritable = refl
  same_rules e a b f w k u z WrongBlock = f WrongBlock
  same_rules e a b f w k u z LoopListChanged = refl
  same_rules e a b f w k u z BadSize = z ∙ f BadSize

  own_rules : (e : Expr) → ((r : Rule) → broken r (at_expr st Unknown e) ≡ false) → ill_used st (own st e) e ≡ ill_used st Unknown e → broken BadSize (at_expr st (own st e) e) ≡ broken BadSize (at_expr st Unknown e) → (r : Rule) → broken r (at_expr st (own st e) e) ≡ false
  own_rules e f u z r = same_rules e Unknown (own st e) f (self_widths (own st e)) (self_kinds (own st e)) u z r

  width_kept : (v : ℕ) → (if nat_eq v 0 then v else v) ≡ (if nat_eq v 0 then 0 else v)
  width_kept v = go (nat_eq v 0) refl
    where
      go : (b : Bool) → nat_eq v 0 ≡ b → (if b then v else v) ≡ (if b then 0 else v)
      go true e = zero_of v e
      go false e = refl

  left_fits : (o : Op) (a b : Kind) → from.left_want o a b Unknown ≡ from.left_want o a b (from.binary_kind o a b)
  left_fits op.Mul a b = open_like a b
  left_fits op.Add a b = open_like a b
  left_fits op.Sub a b = open_like a b
  left_fits op.BitAnd a b = open_like a b
  left_fits op.BitXor a b = open_like a b
  left_fits op.BitOr a b = open_like a b
  left_fits op.Shl a b = open_number a
  left_fits op.Shr a b = open_number a
  left_fits op.Less a b = refl
  left_fits op.LessEq a b = refl
  left_fits op.More a b = refl
  left_fits op.MoreEq a b = refl
  left_fits op.Equal a b = refl
  left_fits op.Differ a b = refl
  left_fits op.Both a b = refl
  left_fits op.Either a b = refl

  right_fits : (o : Op) (a b : Kind) → from.right_want o a b Unknown ≡ from.right_want o a b (from.binary_kind o a b)
  right_fits op.Mul a b = open_like a b
  right_fits op.Add a b = open_like a b
  right_fits op.Sub a b = open_like a b
  right_fits op.BitAnd a b = open_like a b
  right_fits op.BitXor a b = open_like a b
  right_fits op.BitOr a b = open_like a b
  right_fits op.Shl a b = refl
  right_fits op.Shr a b = refl
  right_fits op.Less a b = refl
  right_fits op.LessEq a b = refl
  right_fits op.More a b = refl
  right_fits op.MoreEq a b = refl
  right_fits op.Equal a b = refl
  right_fits op.Differ a b = refl
  right_fits op.Both a b = refl
  right_fits op.Either a b = refl

  -- an expression that is fine where nothing is wanted is fine where what it is is wanted
  own_fine : (e : Expr) → Fine (expr_sites st Unknown e) → Fine (expr_sites st (own st e) e)
  own_fine (num p n) f = own_rules (num p n) f (ap (λ w. nat_eq w 0) (width_kept n.width)) (ap (λ w. too_wide w n.value) (width_kept n.width))
  own_fine (flag p b) f = own_rules (flag p b) f refl refl
  own_fine (reads p x) f = own_rules (reads p x) f refl refl
  own_fine (count p x) f = own_rules (count p x) f refl refl
  own_fine (index p x ks) f = (own_rules (index p x ks) f.0 refl refl, f.1)
  own_fine (member p ks x) f = (own_rules (member p ks x) f.0 refl refl, f.1)
  own_fine (negation p a) f = (own_rules (negation p a) f.0 refl refl, f.1)
  own_fine (inversion p a) f = (own_rules (inversion p a) f.0 refl refl, subst (λ k. Fine (expr_sites st k a)) (open_number (own st a)) f.1)
  own_fine (binary p o a b) f = (
    own_rules (binary p o a b) f.0 refl refl,
    (subst (λ k. Fine (expr_sites st k a)) (left_fits o (own st a) (own st b)) f.1.0, subst (λ k. Fine (expr_sites st k b)) (right_fits o (own st a) (own st b)) f.1.1),
  )
  own_fine (cast p w a) f = (own_rules (cast p w a) f.0 refl refl, f.1)

module _ (env : Environment) (ds : List Decl) (base : ℕ) (before : List Expr) (sc : Scope) (st : Sight) where
  value_same : (k : Kind) → to.as_value (K k) ≡ K k
  value_same (Number w) = refl
  value_same Truth = refl
  value_same Unknown = refl

  -- what is reported
  pub free_fine : (e : Expr) → Rights env ds base before sc st e → Fine (expr_sites st Unknown e) → IsFine (rules.free_tests sc (lowered env ds base before e))
  free_fine e r f =
      subst (λ k. IsFine (rules.expr_tests sc k (lowered env ds base before e))) (sym (ap to.as_value (own_same env ds base before sc st e r) ∙ value_same (own st e)))
      (fine_same env ds base before sc st e (own st e) r (own_fine st e f))

  abbrev pub AllRight : Exprs → Type 0
  AllRight none = Unit {0}
  AllRight (more e es) = Rights env ds base before sc st e × AllRight es

  pub all_free_fine : (es : Exprs) → AllRight es → Fine (all_sites st free es) → IsFine (rules.all_free sc (lowered_all env ds base before es))
  all_free_fine none r f = tt
  all_free_fine (more e es) r f = (free_fine e r.0 f.0, all_free_fine es r.1 f.1)

  -- an index
  pub index_fine : (e : Expr) → Rights env ds base before sc st e → Fine (expr_sites st (from.as_number (from.join (own st e) (Number 128))) e) → IsFine (rules.index_tests sc (lowered env ds base before e))
  index_fine e r f =
      subst (λ k. IsFine (rules.expr_tests sc k (lowered env ds base before e))) (sym (ap to.index_want (own_same env ds base before sc st e r) ∙ like_same (own st e) (Number 128)))
      (fine_same env ds base before sc st e (from.as_number (from.join (own st e) (Number 128))) r f)
