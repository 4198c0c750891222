-- The read of an array's cell breaks no rule of P4.
use Rattle.std.proofs.Common.{◌≡◌, ℕ, List, Bool, true, false, ◌&&◌, refl, sym, ap, ◌∙◌, subst, arith}
use Rattle.std.specs.Prelude.{nat_eq, nat_lt, if◌then◌else◌}
use Rattle.std.proofs.lemmas.Bool.Decides.{nat_tests}
use Rattle.rule_tests.specs.Tests.{IsFine}
use Rattle.indus_tree.specs.Tree.{Expr, num, flag, read as reads, count, index, member, negation, inversion, binary, cast, Decl}
use Rattle.indus_tree.specs.declared.tree.Op.TheVariants as op
use Rattle.indus_scopes.specs.Kinds as from
use Rattle.indus_scopes.specs.Scopes.{Sight, own}
use Rattle.indus_scopes.specs.declared.kind.Kind.{Kind}
use Rattle.indus_scopes.specs.declared.kind.Kind.TheVariants.{Number, Truth, Unknown}
use Rattle.indus_rules.specs.Sites.{expr_sites}
use Rattle.indus_rules.specs.Rules.{Fine}
use Rattle.indus_rules.specs.declared.rule.Rule.TheVariants.{BadSize}
use Rattle.indus_types.proofs.Widths.{neither, kind_fine}
use Rattle.p4_tree.specs.Tree as p4
use Rattle.p4_tree.specs.declared.statement.PTy.TheVariants as type
use Rattle.p4_scopes.specs.Kinds as to
use Rattle.p4_scopes.specs.Scopes.{Scope}
use Rattle.p4_scopes.specs.declared.kind.Kind.TheVariants as t
use Rattle.p4_statement_rules.specs.Expressions as rules
use Rattle.lowered_code.specs.Environment.{Environment}
use Rattle.lowered_code.specs.Expressions.{lowered, is_bare, as_index}
use Rattle.monitor_rules.proofs.KindMaps.{K}
use Rattle.monitor_rules.proofs.ExprRules.{Rights, own_same, fine_same}
use Rattle.monitor_rules.proofs.FormRules.{Typed}

module _ (st : Sight) where
  -- what is read has a width
  abbrev pub Wides : Expr → Type 0
  Wides (num p n) = Unit {0}
  Wides (flag p b) = Unit {0}
  Wides (reads p x) = from.is_open (own st (reads p x)) ≡ false
  Wides (count p x) = ⊥
  Wides (index p x ks) = from.is_open (own st (index p x ks)) ≡ false
  Wides (member p ks x) = Unit {0}
  Wides (negation p a) = Unit {0}
  Wides (inversion p a) = Wides a
  Wides (binary p o a b) = Wides a × Wides b
  Wides (cast p v a) = Unit {0}

  -- it is bare and has no width, or neither
  abbrev Bare : Bool → Kind → Type 0
  Bare true k = k ≡ Number 0
  Bare false k = from.is_open k ≡ false

  -- a number where one is wanted
  number_of : (b : Bool) (k w : Kind) → Bare b k → from.kinds_differ k (from.as_number w) ≡ false → from.as_number k ≡ k
  number_of b (Number v) w h f = refl
  number_of b Truth (Number v) h f = absurd (let c : true ≡ false = f in cc)
  number_of b Truth Truth h f = absurd (let c : true ≡ false = f in cc)
  number_of b Truth Unknown h f = absurd (let c : true ≡ false = f in cc)
  number_of true Unknown w h f = absurd (let c : (let k : Kind = Unknown in k ≡ Number 0) = h in cc)
  number_of false Unknown w h f = absurd (let c : true ≡ false = h in cc)

  like_bare : (b c : Bool) (k l w : Kind) → Bare b k → Bare c l → from.kinds_differ k (from.as_number w) ≡ false → from.kinds_differ l (from.as_number w) ≡ false → Bare (b && c) (from.as_number (from.join k l))
  like_bare true c k l w h i f g = subst (Bare c) (sym (ap (λ q. from.as_number (from.join q l)) h ∙ number_of c l w i g)) i
  like_bare false c k l w h i f g = subst (λ q. from.is_open q ≡ false) (sym (ap (λ o. from.as_number (if o then l else k)) h ∙ number_of false k w h f)) h

  one_bare : (b : Bool) (k w : Kind) → Bare b k → from.kinds_differ k (from.as_number w) ≡ false → Bare b (from.as_number k)
  one_bare b k w h f = subst (Bare b) (sym (number_of b k w h f)) h

  bare_is : (e : Expr) (w : Kind) → Wides e → Fine (expr_sites st w e) → Bare (is_bare e) (own st e)
  bare_is (num p n) w h f = go (nat_eq n.width 0) refl
    where
      go : (b : Bool) → nat_eq n.width 0 ≡ b → Bare b (Number n.width)
      go true e = ap Number (let z : n.width ≡ 0 = grind (arith, nat_tests, e) in z)
      go false e = e
  bare_is (flag p b) w h f = refl
  bare_is (reads p x) w h f = h
  bare_is (count p x) w h f = absurd h
  bare_is (index p x ks) w h f = h
  bare_is (member p ks x) w h f = refl
  bare_is (negation p a) w h f = refl
  bare_is (inversion p a) w h f = one_bare (is_bare a) (own st a) (from.join (own st a) w) (bare_is a _ h f.1) (kind_fine st (from.as_number (from.join (own st a) w)) a f.1)
  bare_is (binary p op.Mul a b) w h f = like_bare (is_bare a) (is_bare b) (own st a) (own st b) _ (bare_is a _ h.0 f.1.0) (bare_is b _ h.1 f.1.1) (kind_fine st (from.like_want (own st a) (own st b) w) a f.1.0) (kind_fine st (from.like_want (own st a) (own st b) w) b f.1.1)
  bare_is (binary p op.Add a b) w h f = like_bare (is_bare a) (is_bare b) (own st a) (own st b) _ (bare_is a _ h.0 f.1.0) (bare_is b _ h.1 f.1.1) (kind_fine st (from.like_want (own st a) (own st b) w) a f.1.0) (kind_fine st (from.like_want (own st a) (own st b) w) b f.1.1)
  bare_is (binary p op.Sub a b) w h f = like_bare (is_bare a) (is_bare b) (own st a) (own st b) _ (bare_is a _ h.0 f.1.0) (bare_is b _ h.1 f.1.1) (kind_fine st (from.like_want (own st a) (own st b) w) a f.1.0) (kind_fine st (from.like_want (own st a) (own st b) w) b f.1.1)
  bare_is (binary p op.BitAnd a b) w h f = like_bare (is_bare a) (is_bare b) (own st a) (own st b) _ (bare_is a _ h.0 f.1.0) (bare_is b _ h.1 f.1.1) (kind_fine st (from.like_want (own st a) (own st b) w) a f.1.0) (kind_fine st (from.like_want (own st a) (own st b) w) b f.1.1)
  bare_is (binary p op.BitXor a b) w h f = like_bare (is_bare a) (is_bare b) (own st a) (own st b) _ (bare_is a _ h.0 f.1.0) (bare_is b _ h.1 f.1.1) (kind_fine st (from.like_want (own st a) (own st b) w) a f.1.0) (kind_fine st (from.like_want (own st a) (own st b) w) b f.1.1)
  bare_is (binary p op.BitOr a b) w h f = like_bare (is_bare a) (is_bare b) (own st a) (own st b) _ (bare_is a _ h.0 f.1.0) (bare_is b _ h.1 f.1.1) (kind_fine st (from.like_want (own st a) (own st b) w) a f.1.0) (kind_fine st (from.like_want (own st a) (own st b) w) b f.1.1)
  bare_is (binary p op.Shl a b) w h f = one_bare (is_bare a) (own st a) (from.join (own st a) w) (bare_is a _ h.0 f.1.0) (kind_fine st (from.as_number (from.join (own st a) w)) a f.1.0)
  bare_is (binary p op.Shr a b) w h f = one_bare (is_bare a) (own st a) (from.join (own st a) w) (bare_is a _ h.0 f.1.0) (kind_fine st (from.as_number (from.join (own st a) w)) a f.1.0)
  bare_is (binary p op.Less a b) w h f = refl
  bare_is (binary p op.LessEq a b) w h f = refl
  bare_is (binary p op.More a b) w h f = refl
  bare_is (binary p op.MoreEq a b) w h f = refl
  bare_is (binary p op.Equal a b) w h f = refl
  bare_is (binary p op.Differ a b) w h f = refl
  bare_is (binary p op.Both a b) w h f = refl
  bare_is (binary p op.Either a b) w h f = refl
  bare_is (cast p v a) w h f = (neither (nat_eq v 0) (nat_lt 128 v) (f.0 BadSize)).0

module _ (env : Environment) (ds : List Decl) (base : ℕ) (l : List Expr) (sc : Scope) (st : Sight) where
  -- an index in 128 bits
  pub index_typed : (e : Expr) → Wides st e → Rights env ds base l sc st e → Fine (expr_sites st (from.as_number (from.join (own st e) (Number 128))) e) → Typed sc 128 (as_index e (lowered env ds base l e))
  index_typed e h r f = go (is_bare e) (bare_is st e (from.as_number (from.join (own st e) (Number 128))) h f)
    where
      value_is : (k : Kind) → from.is_open k ≡ false → from.kinds_differ k (from.as_number (from.join k (Number 128))) ≡ false → (K (from.as_number (from.join k (Number 128))) ≡ to.as_value (K k)) × (rules.cast_differs (t.Number 128) (K k) ≡ false)
      value_is (Number v) o d = (ap (λ b. K (from.as_number (if b then Number 128 else Number v))) o, refl)
      value_is Truth o d = absurd (let c : true ≡ false = d in cc)
      value_is Unknown o d = absurd (let c : true ≡ false = o in cc)

      go : (b : Bool) → Bare st b (own st e) → Typed sc 128 (if b then lowered env ds base l e else p4.cast 0 (type.Bit 128) (lowered env ds base l e))
      go true i = fine_same env ds base l sc st e (Number 128) r (subst (λ k. Fine (expr_sites st k e)) (ap (λ k. from.as_number (from.join k (Number 128))) i) f)
      go false i =
          let same = own_same env ds base l sc st e r in
          let v = value_is (own st e) i (kind_fine st (from.as_number (from.join (own st e) (Number 128))) e f) in (
            (refl, refl),
            (
              refl,
              (
                ap (rules.cast_differs (t.Number 128)) same ∙ v.1,
                subst (λ k. IsFine (rules.expr_tests sc k (lowered env ds base l e))) (v.0 ∙ sym (ap to.as_value same)) (fine_same env ds base l sc st e (from.as_number (from.join (own st e) (Number 128))) r f),
              ),
            ),
          )
