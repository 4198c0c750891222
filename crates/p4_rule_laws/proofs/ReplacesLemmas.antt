-- An expression in the place of another keeps what it stands in fine: one lemma for each form.
use Rattle.std.proofs.Common.{◌≡◌, ℕ, List, Bool, true, false, cond, not, ◌&&◌, refl, sym, ap, ◌∙◌, subst}
use Rattle.bit_values.specs.Operators.{Class, like, shift, joined, compare, logic}
use Rattle.rule_tests.specs.Tests.{IsFine}
use Rattle.p4_tree.specs.Operators.{class_of}
use Rattle.p4_tree.specs.Tree.{Expr, num, flag, path, valid, applied, error_name, negation, inversion, opposite, binary, conditional, slice, cast}
use Rattle.p4_tree.specs.declared.statement.PTy.{PTy}
use Rattle.p4_tree.specs.declared.statement.PTy.TheVariants as type
use Rattle.p4_tree.specs.declared.statement.Op.{Op}
use Rattle.p4_scopes.specs.Kinds.{is_open, as_number, as_value, join, class_kind, binary_kind, choice_kind, left_want, right_want, choice_want}
use Rattle.p4_scopes.specs.Scopes.{Scope, cast_kind, own}
use Rattle.p4_scopes.specs.declared.kind.Kind.{Kind}
use Rattle.p4_scopes.specs.declared.kind.Kind.TheVariants.{Number, Truth, Error, Unknown}
use Rattle.p4_statement_rules.specs.Expressions.{fit_tests, class_tests, is_held_error, is_error_name, slice_tests, cast_differs, expr_tests}
use Rattle.p4_rule_laws.specs.Replaced.{IsReplaced, Replaces, PartsReplaced, unchanged, replaced, in_negation, in_inversion, in_opposite, in_binary, in_conditional, in_slice, in_cast}

pub replaces_self : (s : Scope) (e : Expr) → Replaces s e e
replaces_self s e = record { wherever = λ w f. record { kind = refl; named = refl; fine = f } }

trans_at : (s : Scope) (a b c : Expr) → Replaces s a b → Replaces s b c → (w : Kind) → IsFine (expr_tests s w a) → IsReplaced s w a c
trans_at s a b c r q w f = let x = r.wherever w f in let y = q.wherever w x.fine in record { kind = y.kind ∙ x.kind; named = y.named ∙ x.named; fine = y.fine }

pub replaces_trans : (s : Scope) (a b c : Expr) → Replaces s a b → Replaces s b c → Replaces s a c
replaces_trans s a b c r q = record { wherever = trans_at s a b c r q }

-- ---- what holds an error

abbrev is_error : Kind → Bool
is_error (Number w) = false
is_error Truth = false
is_error Error = true
is_error Unknown = false

held_path : (k : Kind) (p : ℕ) (x : List (List ℕ)) → is_held_error k (path p x) ≡ (is_error k && not false)
held_path (Number w) p x = refl
held_path Truth p x = refl
held_path Error p x = refl
held_path Unknown p x = refl

held_number : (k : Kind) (e : Expr) → is_held_error (as_number k) e ≡ (is_error (as_number k) && not (is_error_name e))
held_number (Number w) e = refl
held_number Truth e = refl
held_number Error e = refl
held_number Unknown e = refl

held_class : (c : Class) (k l : Kind) (e : Expr) → is_held_error (class_kind c k l) e ≡ (is_error (class_kind c k l) && not (is_error_name e))
held_class like k l e = held_number (join k l) e
held_class shift k l e = held_number k e
held_class joined k l e = refl
held_class compare k l e = refl
held_class logic k l e = refl

value_is_none : (k : Kind) → is_error (as_value k) ≡ false
value_is_none (Number w) = refl
value_is_none Truth = refl
value_is_none Error = refl
value_is_none Unknown = refl

either_is_none : (b : Bool) (k l : Kind) → is_error k ≡ false → is_error l ≡ false → is_error (cond b l k) ≡ false
either_is_none true k l e f = f
either_is_none false k l e f = e

choice_is_none : (k l : Kind) → is_error (choice_kind k l) ≡ false
choice_is_none k l = either_is_none (is_open (as_value k)) (as_value k) (as_value l) (value_is_none k) (value_is_none l)

held_none : (k : Kind) (e : Expr) → is_error k ≡ false → is_held_error k e ≡ (is_error k && not (is_error_name e))
held_none (Number w) e h = refl
held_none Truth e h = refl
held_none Error e h = let c : true ≡ false = h in absurd (cc)
held_none Unknown e h = refl

-- an expression that is an error and no error's name holds one
held_is : (s : Scope) (e : Expr) → is_held_error (own s e) e ≡ (is_error (own s e) && not (is_error_name e))
held_is s (num p n) = refl
held_is s (flag p b) = refl
held_is s (path p x) = held_path (own s (path p x)) p x
held_is s (valid p x) = refl
held_is s (applied p t h) = refl
held_is s (error_name p x) = refl
held_is s (negation p a) = refl
held_is s (inversion p a) = held_number (own s a) (inversion p a)
held_is s (opposite p a) = held_number (own s a) (opposite p a)
held_is s (binary p op a b) = held_class (class_of op) (own s a) (own s b) (binary p op a b)
held_is s (conditional p c a b) = held_none (choice_kind (own s a) (own s b)) (conditional p c a b) (choice_is_none (own s a) (own s b))
held_is s (slice p a h l) = refl
held_is s (cast p (type.Bit w) a) = refl
held_is s (cast p type.Bool a) = refl
held_is s (cast p (type.Named t) a) = refl

held_same : (s : Scope) (e f : Expr) → own s f ≡ own s e → is_error_name f ≡ is_error_name e → is_held_error (own s e) f ≡ is_held_error (own s e) e
held_same s e f k n =
    let x = held_is s e in
    let y = held_is s f in
    ap (λ i. is_held_error i f) (sym k) ∙ (y ∙ (ap (λ i. is_error i && not (is_error_name f)) k ∙ (ap (λ b. is_error (own s e) && not b) n ∙ sym x)))

-- ---- each form

module _ (s : Scope) where
  negation_at : (p : ℕ) (a b : Expr) → Replaces s a b → (w : Kind) → IsFine (expr_tests s w (negation p a)) → IsReplaced s w (negation p a) (negation p b)
  negation_at p a b r w f = record { kind = refl; named = refl; fine = (f.0, (r.wherever Truth f.1).fine) }

  pub negation_replaced : (p : ℕ) (a b : Expr) → Replaces s a b → Replaces s (negation p a) (negation p b)
  negation_replaced p a b r = record { wherever = negation_at p a b r }

  inversion_at : (p : ℕ) (a b : Expr) → Replaces s a b → (w : Kind) → IsFine (expr_tests s w (inversion p a)) → IsReplaced s w (inversion p a) (inversion p b)
  inversion_at p a b r w f =
      let x = r.wherever (as_number (join (own s a) w)) f.1 in
      let P : Kind → Type 0 = λ i. IsFine (fit_tests p (as_number i) w) × IsFine (expr_tests s (as_number (join i w)) b) in
      record { kind = ap as_number x.kind; named = refl; fine = subst P (sym x.kind) (f.0, x.fine) }

  pub inversion_replaced : (p : ℕ) (a b : Expr) → Replaces s a b → Replaces s (inversion p a) (inversion p b)
  inversion_replaced p a b r = record { wherever = inversion_at p a b r }

  opposite_at : (p : ℕ) (a b : Expr) → Replaces s a b → (w : Kind) → IsFine (expr_tests s w (opposite p a)) → IsReplaced s w (opposite p a) (opposite p b)
  opposite_at p a b r w f =
      let x = r.wherever (as_number (join (own s a) w)) f.1 in
      let P : Kind → Type 0 = λ i. IsFine (fit_tests p (as_number i) w) × IsFine (expr_tests s (as_number (join i w)) b) in
      record { kind = ap as_number x.kind; named = refl; fine = subst P (sym x.kind) (f.0, x.fine) }

  pub opposite_replaced : (p : ℕ) (a b : Expr) → Replaces s a b → Replaces s (opposite p a) (opposite p b)
  opposite_replaced p a b r = record { wherever = opposite_at p a b r }

  class_fine : (p : ℕ) (o : Class) (a b c d : Expr) → is_held_error (own s a) c ≡ is_held_error (own s a) a → is_held_error (own s b) d ≡ is_held_error (own s b) b → is_error_name c ≡ is_error_name a → is_error_name d ≡ is_error_name b → IsFine (class_tests p o (own s a) (own s b) a b) → IsFine (class_tests p o (own s a) (own s b) c d)
  class_fine p like a b c d e f g h i = i
  class_fine p shift a b c d e f g h i = i
  class_fine p joined a b c d e f g h i = i
  class_fine p compare a b c d e f g h i = cc
  class_fine p logic a b c d e f g h i = i

  binary_fine : (p : ℕ) (op : Op) (a b c d : Expr) (w : Kind) → own s c ≡ own s a → own s d ≡ own s b → IsFine (class_tests p (class_of op) (own s a) (own s b) c d) → IsFine (expr_tests s w (binary p op a b)) → IsFine (expr_tests s (left_want op (own s a) (own s b) w) c) → IsFine (expr_tests s (right_want op (own s a) (own s b) w) d) → IsFine (expr_tests s w (binary p op c d))
  binary_fine p op a b c d w e g k f u v =
      let P : Kind → Kind → Type 0 = λ i j. IsFine (fit_tests p (binary_kind op i j) w) × (IsFine (class_tests p (class_of op) i j c d) × (IsFine (expr_tests s (left_want op i j w) c) × IsFine (expr_tests s (right_want op i j w) d))) in
      let start : P (own s a) (own s b) = (f.0, (k, (u, v))) in
      let Q : Kind → Type 0 = λ i. P i (own s b) in
      subst (λ j. P (own s c) j) (sym g) (subst Q (sym e) start)

  binary_at : (p : ℕ) (op : Op) (a b c d : Expr) → Replaces s a c → Replaces s b d → (w : Kind) → IsFine (expr_tests s w (binary p op a b)) → IsReplaced s w (binary p op a b) (binary p op c d)
  binary_at p op a b c d r q w f =
      let x = r.wherever (left_want op (own s a) (own s b) w) f.1.1.0 in
      let y = q.wherever (right_want op (own s a) (own s b) w) f.1.1.1 in
      let e = x.kind in
      let g = y.kind in
      let k = class_fine p (class_of op) a b c d (held_same s a c e x.named) (held_same s b d g y.named) x.named y.named f.1.0 in
      record { kind = ap (λ i. binary_kind op i (own s d)) e ∙ ap (binary_kind op (own s a)) g; named = refl; fine = binary_fine p op a b c d w e g k f x.fine y.fine }

  pub binary_replaced : (p : ℕ) (op : Op) (a b c d : Expr) → Replaces s a c → Replaces s b d → Replaces s (binary p op a b) (binary p op c d)
  binary_replaced p op a b c d r q = record { wherever = binary_at p op a b c d r q }

  conditional_fine : (p : ℕ) (t a b u c d : Expr) (w : Kind) → own s c ≡ own s a → own s d ≡ own s b → IsFine (expr_tests s w (conditional p t a b)) → IsFine (expr_tests s Truth u) → IsFine (expr_tests s (choice_want (own s a) (own s b) w) c) → IsFine (expr_tests s (choice_want (own s a) (own s b) w) d) → IsFine (expr_tests s w (conditional p u c d))
  conditional_fine p t a b u c d w e g f x y z =
      let P : Kind → Kind → Type 0 = λ i j. IsFine (fit_tests p (choice_kind i j) w) × (IsFine (expr_tests s Truth u) × (IsFine (expr_tests s (choice_want i j w) c) × IsFine (expr_tests s (choice_want i j w) d))) in
      let start : P (own s a) (own s b) = (f.0, (x, (y, z))) in
      let Q : Kind → Type 0 = λ i. P i (own s b) in
      subst (λ j. P (own s c) j) (sym g) (subst Q (sym e) start)

  conditional_at : (p : ℕ) (t a b u c d : Expr) → Replaces s t u → Replaces s a c → Replaces s b d → (w : Kind) → IsFine (expr_tests s w (conditional p t a b)) → IsReplaced s w (conditional p t a b) (conditional p u c d)
  conditional_at p t a b u c d z r q w f =
      let x = r.wherever (choice_want (own s a) (own s b) w) f.1.1.0 in
      let y = q.wherever (choice_want (own s a) (own s b) w) f.1.1.1 in
      let e = x.kind in
      let g = y.kind in
      record { kind = ap (λ i. choice_kind i (own s d)) e ∙ ap (choice_kind (own s a)) g; named = refl; fine = conditional_fine p t a b u c d w e g f (z.wherever Truth f.1.0).fine x.fine y.fine }

  pub conditional_replaced : (p : ℕ) (t a b u c d : Expr) → Replaces s t u → Replaces s a c → Replaces s b d → Replaces s (conditional p t a b) (conditional p u c d)
  conditional_replaced p t a b u c d z r q = record { wherever = conditional_at p t a b u c d z r q }

  slice_at : (p : ℕ) (a b : Expr) (h l : ℕ) → Replaces s a b → (w : Kind) → IsFine (expr_tests s w (slice p a h l)) → IsReplaced s w (slice p a h l) (slice p b h l)
  slice_at p a b h l r w f =
      let x = r.wherever (as_number (own s a)) f.1.1 in
      let P : Kind → Type 0 = λ i. IsFine (slice_tests p i h l) × IsFine (expr_tests s (as_number i) b) in
      record { kind = refl; named = refl; fine = (f.0, subst P (sym x.kind) (f.1.0, x.fine)) }

  pub slice_replaced : (p : ℕ) (a b : Expr) (h l : ℕ) → Replaces s a b → Replaces s (slice p a h l) (slice p b h l)
  slice_replaced p a b h l r = record { wherever = slice_at p a b h l r }

  cast_at : (p : ℕ) (t : PTy) (a b : Expr) → Replaces s a b → (w : Kind) → IsFine (expr_tests s w (cast p t a)) → IsReplaced s w (cast p t a) (cast p t b)
  cast_at p t a b r w f =
      let x = r.wherever (as_value (own s a)) f.1.1.1 in
      let P : Kind → Type 0 = λ i. (cast_differs (cast_kind t) i ≡ false) × IsFine (expr_tests s (as_value i) b) in
      record { kind = refl; named = refl; fine = (f.0, (f.1.0, subst P (sym x.kind) (f.1.1.0, x.fine))) }

  pub cast_replaced : (p : ℕ) (t : PTy) (a b : Expr) → Replaces s a b → Replaces s (cast p t a) (cast p t b)
  cast_replaced p t a b r = record { wherever = cast_at p t a b r }

-- parts may be replaced at any depth
pub parts_replaced : {s : Scope} {e f : Expr} → PartsReplaced s e f → Replaces s e f
parts_replaced (unchanged {e = e}) = replaces_self _ e
parts_replaced (replaced r) = r
parts_replaced {s = s} (in_negation {a = a} {b = b} p r) = negation_replaced s p a b (parts_replaced r)
parts_replaced {s = s} (in_inversion {a = a} {b = b} p r) = inversion_replaced s p a b (parts_replaced r)
parts_replaced {s = s} (in_opposite {a = a} {b = b} p r) = opposite_replaced s p a b (parts_replaced r)
parts_replaced {s = s} (in_binary {a = a} {b = b} {c = c} {d = d} p op r q) = binary_replaced s p op a b c d (parts_replaced r) (parts_replaced q)
parts_replaced {s = s} (in_conditional {t = t} {a = a} {b = b} {u = u} {c = c} {d = d} p z r q) = conditional_replaced s p t a b u c d (parts_replaced z) (parts_replaced r) (parts_replaced q)
parts_replaced {s = s} (in_slice {a = a} {b = b} p h l r) = slice_replaced s p a b h l (parts_replaced r)
parts_replaced {s = s} (in_cast {a = a} {b = b} p t r) = cast_replaced s p t a b (parts_replaced r)
