-- The width that the meaning hands to each part of an expression serves what the rules want there.
use Rattle.std.proofs.Common.{◌≡◌, ℕ, ◌≤◌, zero, suc, Bool, true, false, Option, Some, None, refl, sym, ap, ap₂, ◌∙◌}
use Rattle.rule_tests.specs.Tests.{IsFine}
use Rattle.bit_values.specs.Bits.{Word}
use Rattle.bit_values.specs.Widths.{either_width}
use Rattle.bit_values.specs.Operators.{Class, like, shift, joined, compare, logic, left_place, right_place}
use Rattle.lex_text.specs.Names.{parent}
use Rattle.p4_tree.specs.Tree.{Expr, binary, conditional}
use Rattle.p4_tree.specs.Operators.{class_of}
use Rattle.p4_tree.specs.declared.statement.Op.{Op}
use Rattle.p4_meaning.specs.Store.{Store, shown}
use Rattle.p4_meaning.specs.Value.{own_width}
use Rattle.p4_scopes.specs.Kinds.{join, as_number, as_value, kinds_differ, takes_any, class_kind, class_left, class_right, left_want, right_want, choice_want, index_want}
use Rattle.p4_scopes.specs.Scopes.{Scope, own}
use Rattle.p4_scopes.specs.declared.kind.Kind.{Kind}
use Rattle.p4_scopes.specs.declared.kind.Kind.TheVariants.{Number, Truth, Error, Unknown}
use Rattle.p4_statement_rules.specs.Expressions.{expr_tests}
use Rattle.p4_typing_laws.specs.Soundness.{kind_width}
use Rattle.p4_typing_laws.specs.Widths.{Shows, Serves, PartsAreServed, EachPartIsServed}
use Rattle.p4_typing_laws.proofs.KindWidths.{twice, Plain, is_plain, plain_width, want_plain, join_width, join_plain, like_width, choice_place, choice_width}
use Rattle.p4_typing_laws.proofs.StaticWidths.{ReadsSound, differs, left_most, right_most, turned_most, choice_most, choice_left, choice_right, found, shown_sound}

-- ---- operands

-- the wanted width of the left operand of an operator whose operands have these kinds
left_given : (c : Class) (t : Bool) (a b want : Kind) (w : ℕ) → kinds_differ (class_kind c a b) want ≡ false → kinds_differ a (class_left c t a b want) ≡ false → kinds_differ b (class_right c t a b want) ≡ false
    → either_width (kind_width (class_kind c a b)) w ≡ either_width (kind_width (class_kind c a b)) (kind_width want)
    → either_width (kind_width a) (left_place c (kind_width a) (kind_width b) w) ≡ either_width (kind_width a) (kind_width (class_left c t a b want))
left_given like t a b want w h k l s =
    let pa = is_plain a (join (join (as_number a) (as_number b)) want) k in
    let pb = is_plain b (join (join (as_number a) (as_number b)) want) l in
    let pw = want_plain (join a b) want h in
    let own_is = join_plain a b pa pb in
    let same = ap (λ v. either_width v w) (sym own_is) ∙ s ∙ ap (λ v. either_width v (kind_width want)) own_is in
    ap (either_width (kind_width a)) (same ∙ sym (like_width a b want pa pb pw))
left_given shift t a b want w h k l s =
    let pa = is_plain a (join a want) k in
    let pw = want_plain a want h in
    let own_is = plain_width a pa in
    let same = ap (λ v. either_width v w) (sym own_is) ∙ s ∙ ap (λ v. either_width v (kind_width want)) own_is in
    ap (either_width (kind_width a)) (same ∙ sym (join_plain a want pa pw))
left_given joined t a b want w h k l s = ap (either_width (kind_width a)) (sym (plain_width a (is_plain a a k)))
left_given compare true a b want w h k l s = ap (either_width (kind_width a)) (sym (join_width a b))
left_given compare false a b want w h k l s = ap (either_width (kind_width a)) (sym (join_plain a b (is_plain a (join a b) k) (is_plain b (join a b) l)))
left_given logic t a b want w h k l s = refl

right_given : (c : Class) (t : Bool) (a b want : Kind) (w : ℕ) → kinds_differ (class_kind c a b) want ≡ false → kinds_differ a (class_left c t a b want) ≡ false → kinds_differ b (class_right c t a b want) ≡ false
    → either_width (kind_width (class_kind c a b)) w ≡ either_width (kind_width (class_kind c a b)) (kind_width want)
    → either_width (kind_width b) (right_place c (kind_width a) (kind_width b) w) ≡ either_width (kind_width b) (kind_width (class_right c t a b want))
right_given like t a b want w h k l s =
    let pa = is_plain a (join (join (as_number a) (as_number b)) want) k in
    let pb = is_plain b (join (join (as_number a) (as_number b)) want) l in
    let pw = want_plain (join a b) want h in
    let own_is = join_plain a b pa pb in
    let same = ap (λ v. either_width v w) (sym own_is) ∙ s ∙ ap (λ v. either_width v (kind_width want)) own_is in
    ap (either_width (kind_width b)) (same ∙ sym (like_width a b want pa pb pw))
right_given shift t a b want w h k l s = ap (either_width (kind_width b)) (sym (join_plain b (Number 128) (is_plain b (join b (Number 128)) l) refl))
right_given joined t a b want w h k l s = ap (either_width (kind_width b)) (sym (plain_width b (is_plain b b l)))
right_given compare true a b want w h k l s = ap (either_width (kind_width b)) (sym (join_width a b))
right_given compare false a b want w h k l s = ap (either_width (kind_width b)) (sym (join_plain a b (is_plain a (join a b) k) (is_plain b (join a b) l)))
right_given logic t a b want w h k l s = refl

-- `~` and `-`
turned_given : (a want : Kind) (w : ℕ) → kinds_differ (as_number a) want ≡ false → kinds_differ a (as_number (join a want)) ≡ false
    → either_width (kind_width (as_number a)) w ≡ either_width (kind_width (as_number a)) (kind_width want)
    → either_width (kind_width a) (either_width (kind_width a) w) ≡ either_width (kind_width a) (kind_width (as_number (join a want)))
turned_given a want w h k s =
    let pa = is_plain a (join a want) k in
    let pw = want_plain a want h in
    let own_is = plain_width a pa in
    let same = ap (λ v. either_width v w) (sym own_is) ∙ s ∙ ap (λ v. either_width v (kind_width want)) own_is in
    ap (either_width (kind_width a)) (same ∙ sym (join_plain a want pa pw))

-- a place that gives no width
free_given : (k : Kind) → either_width (kind_width k) 0 ≡ either_width (kind_width k) (kind_width (as_value k))
free_given (Number zero) = refl
free_given (Number (suc w)) = refl
free_given Truth = refl
free_given Error = refl
free_given Unknown = refl

sliced_given : (k : Kind) → Plain k → either_width (kind_width k) 0 ≡ either_width (kind_width k) (kind_width (as_number k))
sliced_given (Number zero) h = refl
sliced_given (Number (suc w)) h = refl
sliced_given Truth h = absurd (let c : true ≡ false = h in cc)
sliced_given Error h = absurd (let c : true ≡ false = h in cc)
sliced_given Unknown h = refl

index_given : (k : Kind) → Plain k → either_width (kind_width k) 128 ≡ either_width (kind_width k) (kind_width (index_want k))
index_given k h = sym (twice (kind_width k) 128) ∙ ap (either_width (kind_width k)) (sym (join_plain k (Number 128) h refl))

shown_width : (o : Option Bool) (w : Word) → (shown o w).width ≡ w.width
shown_width None w = refl
shown_width (Some true) w = refl
shown_width (Some false) w = refl

module _ (s : Scope) (st : Store) (shows : Shows s st) where
  abbrev rs : ReadsSound s
  rs = shown_sound s st shows

  left_served : (want : Kind) → kind_width want ≤ 128 → (p : ℕ) (op : Op) (a b : Expr) → IsFine (expr_tests s want (binary p op a b)) → (w : ℕ) → Serves s want (binary p op a b) w → Serves s (left_want op (own s a) (own s b) want) a (left_place (class_of op) (own_width a st) (own_width b st) w)
  left_served want m p op a b f w serves =
      ap₂ (λ v u. either_width (kind_width (own s a)) (left_place (class_of op) v u w)) (found s rs st shows a _ (left_most s rs op a b p want m f) f.1.1.0) (found s rs st shows b _ (right_most s rs op a b p want m f) f.1.1.1)
      ∙ left_given (class_of op) (takes_any op) (own s a) (own s b) want w f.0.1 (differs s rs a _ f.1.1.0) (differs s rs b _ f.1.1.1) serves

  right_served : (want : Kind) → kind_width want ≤ 128 → (p : ℕ) (op : Op) (a b : Expr) → IsFine (expr_tests s want (binary p op a b)) → (w : ℕ) → Serves s want (binary p op a b) w → Serves s (right_want op (own s a) (own s b) want) b (right_place (class_of op) (own_width a st) (own_width b st) w)
  right_served want m p op a b f w serves =
      ap₂ (λ v u. either_width (kind_width (own s b)) (right_place (class_of op) v u w)) (found s rs st shows a _ (left_most s rs op a b p want m f) f.1.1.0) (found s rs st shows b _ (right_most s rs op a b p want m f) f.1.1.1)
      ∙ right_given (class_of op) (takes_any op) (own s a) (own s b) want w f.0.1 (differs s rs a _ f.1.1.0) (differs s rs b _ f.1.1.1) serves

  turned_served : (want : Kind) → kind_width want ≤ 128 → (a : Expr) → kinds_differ (as_number (own s a)) want ≡ false → IsFine (expr_tests s (as_number (join (own s a) want)) a) → (w : ℕ)
      → either_width (kind_width (as_number (own s a))) w ≡ either_width (kind_width (as_number (own s a))) (kind_width want) → Serves s (as_number (join (own s a) want)) a (either_width (own_width a st) w)
  turned_served want m a h f w serves =
      ap (λ v. either_width (kind_width (own s a)) (either_width v w)) (found s rs st shows a _ (turned_most s rs a want _ m f) f)
      ∙ turned_given (own s a) want w h (differs s rs a _ f) serves

  chosen_given : (want : Kind) → kind_width want ≤ 128 → (p : ℕ) (c a b : Expr) → IsFine (expr_tests s want (conditional p c a b)) → (w : ℕ) → Serves s want (conditional p c a b) w
      → either_width (either_width (own_width a st) (own_width b st)) w ≡ kind_width (choice_want (own s a) (own s b) want)
  chosen_given want m p c a b f w serves =
      let i = choice_left s rs p c a b want f in
      let j = choice_right s rs p c a b want f in
      let most = choice_most s rs a b want _ m f.1.1.0 f.1.1.1 in
      let whole = choice_width (own s a) (own s b) i j in
      ap₂ (λ v u. either_width (either_width v u) w) (found s rs st shows a _ most f.1.1.0) (found s rs st shows b _ most f.1.1.1)
      ∙ ap (λ v. either_width v w) (sym whole) ∙ serves ∙ ap (λ v. either_width v (kind_width want)) whole
      ∙ sym (choice_place (own s a) (own s b) want i j f.0.1)

  served : PartsAreServed s st
  served =
      record {
        left = left_served;
        right = right_served;
        inverted = λ want m p a f w serves. turned_served want m a f.0.1 f.1 w serves;
        negated = λ want m p a f w serves. turned_served want m a f.0.1 f.1 w serves;
        chosen = λ want m p c a b f w serves. ap (either_width (kind_width (own s a))) (chosen_given want m p c a b f w serves);
        otherwise = λ want m p c a b f w serves. ap (either_width (kind_width (own s b))) (chosen_given want m p c a b f w serves);
        sliced = λ want m p h l a f. sliced_given (own s a) (is_plain (own s a) (own s a) (differs s rs a _ f.1.1));
        cast_from = λ want m p t a f. free_given (own s a);
        free = λ e f. free_given (own s e);
        index = λ e f. index_given (own s e) (is_plain (own s e) _ (differs s rs e _ f));
        assigned = λ x h k. sym (shown_width (st.headers (parent x)) (st.values x)) ∙ (shows.values x h k).width;
      }

pub each_served : EachPartIsServed
each_served s st shows = served s st shows
