-- An expression without a width of its own by its form has none by the rules; and what has one has one value at all places.
use Rattle.std.proofs.Common.{◌≡◌, ℕ, ◌≤◌, Bool, true, false, cond, not, nat_eq, refl, sym, subst}
use Rattle.bit_values.specs.Operators.{Class, like, shift, joined, compare, logic}
use Rattle.rule_tests.specs.Tests.{IsFine}
use Rattle.p4_tree.specs.Operators.{class_of}
use Rattle.p4_tree.specs.Tree.{Expr, num, inversion, opposite, binary, conditional}
use Rattle.p4_meaning.specs.Store.{Store}
use Rattle.p4_meaning.specs.Value.{value_of}
use Rattle.p4_scopes.specs.Kinds.{is_open, as_number, as_value, join, class_kind}
use Rattle.p4_scopes.specs.Scopes.{Scope, own}
use Rattle.p4_scopes.specs.declared.kind.Kind.{Kind}
use Rattle.p4_scopes.specs.declared.kind.Kind.TheVariants.{Number, Truth, Error, Unknown}
use Rattle.p4_statement_rules.specs.Expressions.{expr_tests}
use Rattle.p4_typing_laws.specs.Soundness.{kind_width, IsSound}
use Rattle.p4_typing_laws.specs.Widths.{Shows}
use Rattle.p4_typing_laws.proofs.Fine.{twice_not, neither}
use Rattle.p4_typing_laws.proofs.StaticWidths.{found}
use Rattle.rewriting_laws.specs.OwnWidths.{class_has_own, has_own}
use Rattle.rewriting_laws.specs.Laws.{OwnWidthsAreKnown}
use Rattle.rewriting_laws.proofs.Closed.{broken, closed, place_free}
use Rattle.rewriting_laws.proofs.Refits.{nonzero_width, sound_reads}

number_opened : (k : Kind) → is_open k ≡ true → is_open (as_number k) ≡ true
number_opened (Number w) h = h
number_opened Truth h = broken (sym h)
number_opened Error h = broken (sym h)
number_opened Unknown h = refl

value_opened : (k : Kind) → is_open k ≡ true → is_open (as_value k) ≡ true
value_opened (Number w) h = h
value_opened Truth h = broken (sym h)
value_opened Error h = broken (sym h)
value_opened Unknown h = refl

pick_opened : (t : Bool) (a b : Kind) → is_open a ≡ t → t ≡ true → is_open b ≡ true → is_open (cond t b a) ≡ true
pick_opened true a b e h k = k
pick_opened false a b e h k = broken (sym h)

join_opened : (a b : Kind) → is_open a ≡ true → is_open b ≡ true → is_open (join a b) ≡ true
join_opened a b h k = pick_opened (is_open a) a b refl h k

class_opened : (c : Class) (a b : Kind) (x y : Bool) → (x ≡ false → is_open a ≡ true) → (y ≡ false → is_open b ≡ true) → class_has_own c x y ≡ false → is_open (class_kind c a b) ≡ true
class_opened like a b x y f g h = (let n = neither x y h in number_opened (join a b) (join_opened a b (f n.0) (g n.1)))
class_opened shift a b x y f g h = number_opened a (f h)
class_opened joined a b x y f g h = broken h
class_opened compare a b x y f g h = broken h
class_opened logic a b x y f g h = broken h

opened : (s : Scope) (e : Expr) → has_own e ≡ false → is_open (own s e) ≡ true
opened s (num p n) h = twice_not (nat_eq n.width 0) h
opened s (inversion p a) h = number_opened (own s a) (opened s a h)
opened s (opposite p a) h = number_opened (own s a) (opened s a h)
opened s (binary p op a b) h = class_opened (class_of op) (own s a) (own s b) (has_own a) (has_own b) (opened s a) (opened s b) h
opened s (conditional p c a b) h = (let n = neither (has_own a) (has_own b) h in join_opened (as_value (own s a)) (as_value (own s b)) (value_opened (own s a) (opened s a n.0)) (value_opened (own s b) (opened s b n.1)))
opened s _ h = broken h

exact : (s : Scope) → IsSound s → (want : Kind) (e : Expr) → IsFine (expr_tests s want e) → is_open (own s e) ≡ not (has_own e)
exact s so want e f = go (has_own e) refl
  where
    go : (t : Bool) → has_own e ≡ t → is_open (own s e) ≡ not t
    go true h = closed s (sound_reads s so) e want f h
    go false h = opened s e h

free : (s : Scope) → IsSound s → (want : Kind) → kind_width want ≤ 128 → (e : Expr) → IsFine (expr_tests s want e) → has_own e ≡ true → (st : Store) → Shows s st → (v w : ℕ) → value_of e v st ≡ value_of e w st
free s so want cap e f h st shows v w =
    let rs = sound_reads s so in
    let own_is = found s rs st shows e want cap f in
    place_free e st v w (subst (λ (n : ℕ). nat_eq n 0 ≡ false) (sym own_is) (nonzero_width (own s e) (closed s rs e want f h)))

pub own_widths_are_known : OwnWidthsAreKnown
own_widths_are_known = record { exact = exact; free = free }
