-- What is taken of a choice may stand for the choice.
use Rattle.std.proofs.Common.{◌≡◌, ℕ, ◌≤◌, Bool, true, false, cond, Some, None, refl, sym, ap, ap₂, ◌∙◌, subst}
use Rattle.bit_values.specs.Widths.{either_width}
use Rattle.rule_tests.specs.Tests.{IsFine}
use Rattle.p4_meaning.specs.Store.{Store}
use Rattle.p4_meaning.specs.Value.{own_width}
use Rattle.p4_tree.specs.Tree.{Expr, flag, conditional}
use Rattle.p4_scopes.specs.Kinds.{is_open, as_value, join, choice_kind, choice_want}
use Rattle.p4_scopes.specs.Scopes.{typed, Scope, own}
use Rattle.p4_scopes.specs.declared.kind.Kind.{Kind}
use Rattle.p4_statement_rules.specs.Expressions.{expr_tests}
use Rattle.p4_rule_laws.specs.Replaced.{IsReplaced}
use Rattle.p4_typing_laws.specs.Soundness.{kind_width}
use Rattle.p4_typing_laws.specs.Widths.{Shows}
use Rattle.p4_typing_laws.proofs.KindWidths.{is_value, as_value_is, choice_width}
use Rattle.p4_typing_laws.proofs.StaticWidths.{ReadsSound, choice_left, choice_right, choice_most, found}
use Rattle.rewriting_laws.specs.Standing.{MayStandFor, StandsIfAny}
use Rattle.rewriting_laws.specs.OwnWidths.{has_own}
use Rattle.simplify_rules.specs.FoldChoice.{taken}
use Rattle.rewriting_laws.proofs.Closed.{broken, closed}
use Rattle.rewriting_laws.proofs.Refits.{Fit, closed_join, refit, fits_there, same_kind, nonzero_width, either_is, kept_value, no_error_name, sound_reads}

value_join : (a b : Kind) → is_value a ≡ true → is_value b ≡ true → choice_kind a b ≡ join a b
value_join a b h k = (let P : Kind → Kind → Type 0 = λ i j. join i j ≡ join a b in let start : P a b = refl in subst (λ i. P i (as_value b)) (sym (as_value_is a h)) (subst (λ j. P a j) (sym (as_value_is b k)) start))

pub pick_second : (t : Bool) (a b : Kind) → t ≡ true → cond t b a ≡ b
pick_second true a b h = refl
pick_second false a b h = broken (sym h)

-- the kind of a choice is that of either value that has a kind of its own
first_kind : (s : Scope) (rs : ReadsSound s) (p : ℕ) (c a b : Expr) (w : Kind) → IsFine (expr_tests s w (conditional p c a b)) → is_open (own s a) ≡ false → own s a ≡ choice_kind (own s a) (own s b)
first_kind s rs p c a b w f o = sym (value_join (own s a) (own s b) (choice_left s rs p c a b w f) (choice_right s rs p c a b w f) ∙ closed_join (own s a) (own s b) o)

second_kind : (s : Scope) (rs : ReadsSound s) (p : ℕ) (c a b : Expr) (w : Kind) → IsFine (expr_tests s w (conditional p c a b)) → is_open (own s b) ≡ false → own s b ≡ choice_kind (own s a) (own s b)
second_kind s rs p c a b w f o = go (is_open (own s a)) refl
  where
    whole : choice_kind (own s a) (own s b) ≡ join (own s a) (own s b)
    whole = value_join (own s a) (own s b) (choice_left s rs p c a b w f) (choice_right s rs p c a b w f)

    go : (t : Bool) → is_open (own s a) ≡ t → own s b ≡ choice_kind (own s a) (own s b)
    go true e = sym (whole ∙ pick_second (is_open (own s a)) (own s a) (own s b) e)
    go false e =
        let first = whole ∙ closed_join (own s a) (own s b) e in
        let want : choice_want (own s a) (own s b) w ≡ own s a = closed_join (choice_kind (own s a) (own s b)) (as_value w) (ap is_open first ∙ e) ∙ first in
        let fit : Fit (own s b) (own s a) = subst (Fit (own s b)) want (fits_there s rs b _ f.1.1.1) in
        same_kind (own s b) (own s a) o e fit ∙ sym first

-- the width that a choice hands to its values
choice_width_is : (s : Scope) (rs : ReadsSound s) (p q : ℕ) (v : Bool) (a b e : Expr) (want : Kind) → kind_width want ≤ 128 → IsFine (expr_tests s want (conditional p (flag q v) a b)) → (st : Store) → Shows s st → (w : ℕ)
    → is_open (own s e) ≡ false → own s e ≡ choice_kind (own s a) (own s b) → either_width (either_width (own_width a st) (own_width b st)) w ≡ kind_width (own s e)
choice_width_is s rs p q v a b e want cap f st shows w o k =
    let c = flag q v in
    let most = choice_most s rs a b want _ cap f.1.1.0 f.1.1.1 in
    let i = found s rs st shows a _ most f.1.1.0 in
    let j = found s rs st shows b _ most f.1.1.1 in
    let whole : either_width (own_width a st) (own_width b st) ≡ kind_width (own s e) = ap₂ either_width i j ∙ (sym (choice_width (own s a) (own s b) (choice_left s rs p c a b want f) (choice_right s rs p c a b want f)) ∙ ap kind_width (sym k)) in
    ap (λ (n : ℕ). either_width n w) whole ∙ either_is (kind_width (own s e)) w (nonzero_width (own s e) o)

choice_at : (s : Scope) (rs : ReadsSound s) (p : ℕ) (c a b e : Expr) (w v : Kind) → IsFine (expr_tests s w (conditional p c a b)) → IsFine (expr_tests s v e) → is_open (own s e) ≡ false → own s e ≡ choice_kind (own s a) (own s b) → is_value (own s e) ≡ true → IsReplaced s w (conditional p c a b) e
choice_at s rs p c a b e w v f g o k i =
    record { kind = k; named = no_error_name s e i; fine = refit s rs e v w o (subst (λ (j : Kind). Fit j w) (sym k) f.0) g }

pub takes_first : (p q : ℕ) (a b : Expr) → has_own a ≡ true → MayStandFor (conditional p (flag q true) a b) a
takes_first p q a b o =
    record {
      spelled = λ c. c.1;
      own = λ h. o;
      typed = λ s so. record {
        wherever = λ w f.
            (let rs = sound_reads s so in
            let x = closed s rs a _ f.1.1.0 o in
            choice_at s rs p (flag q true) a b a w _ f f.1.1.0 x (first_kind s rs p (flag q true) a b w f x) (choice_left s rs p (flag q true) a b w f));
      };
      valued = λ s so want cap f st shows w.
          (let rs = sound_reads s so in
          let x = closed s rs a _ f.1.1.0 o in
          let k = first_kind s rs p (flag q true) a b want f x in
          let most = choice_most s rs a b want _ cap f.1.1.0 f.1.1.1 in
          let m = either_width (either_width (own_width a st) (own_width b st)) w in
          sym (kept_value s a _ most f.1.1.0 x st shows m w (choice_width_is s rs p q true a b a want cap f st shows w x k)));
    }

pub takes_second : (p q : ℕ) (a b : Expr) → has_own b ≡ true → MayStandFor (conditional p (flag q false) a b) b
takes_second p q a b o =
    record {
      spelled = λ c. c.2;
      own = λ h. o;
      typed = λ s so. record {
        wherever = λ w f.
            (let rs = sound_reads s so in
            let x = closed s rs b _ f.1.1.1 o in
            choice_at s rs p (flag q false) a b b w _ f f.1.1.1 x (second_kind s rs p (flag q false) a b w f x) (choice_right s rs p (flag q false) a b w f));
      };
      valued = λ s so want cap f st shows w.
          (let rs = sound_reads s so in
          let x = closed s rs b _ f.1.1.1 o in
          let k = second_kind s rs p (flag q false) a b want f x in
          let most = choice_most s rs a b want _ cap f.1.1.0 f.1.1.1 in
          let m = either_width (either_width (own_width a st) (own_width b st)) w in
          sym (kept_value s b _ most f.1.1.1 x st shows m w (choice_width_is s rs p q false a b b want cap f st shows w x k)));
    }

pub choice_folded : (p q : ℕ) (v : Bool) (a b : Expr) → StandsIfAny (conditional p (flag q v) a b) (taken (cond v a b))
choice_folded p q true a b = go (has_own a) refl
  where
    go : (t : Bool) → has_own a ≡ t → StandsIfAny (conditional p (flag q true) a b) (cond t (Some a) None)
    go true o = takes_first p q a b o
    go false o = tt
choice_folded p q false a b = go (has_own b) refl
  where
    go : (t : Bool) → has_own b ≡ t → StandsIfAny (conditional p (flag q false) a b) (cond t (Some b) None)
    go true o = takes_second p q a b o
    go false o = tt
