-- What is made of the parts of an expression is made of the expression.
use Rattle.std.proofs.Common.{ℕ, if◌then◌else◌, sym, subst}
use Rattle.bit_values.specs.Widths.{either_width, sound_width, cast_word, holds}
use Rattle.bit_values.specs.Operators.{left_place, right_place}
use Rattle.p4_tree.specs.Tree.{Expr, inversion, opposite, binary, conditional}
use Rattle.p4_tree.specs.Operators.{class_of, operate}
use Rattle.p4_tree.specs.declared.statement.Op.{Op}
use Rattle.p4_meaning.specs.Value.{inverted, negated, own_width, value_of}
use Rattle.slot_terms.specs.Typed.{Typed, Gives}
use Rattle.slot_terms.specs.Nodes.{Makes, MakesTwo, MakesChoice}
use Rattle.slot_terms.specs.Places.{Places, Means, Fills}
use Rattle.slot_terms.specs.Own.{IsOwn}

pub inverted_means :
    (m : Places) (p w own : ℕ) (a : Expr) (from to : Typed) → IsOwn m a own → Fills m a (either_width own w) from → Makes to from inverted → Means m (inversion p a) w to
inverted_means m p w own a from to is fills makes slots valid s shows =
    subst (λ v. Gives to slots valid (inverted (cast_word (sound_width (either_width v w)) (value_of a (either_width v w) s)))) (sym (is slots valid s shows))
    (makes slots valid _ (fills slots valid s shows))

pub negated_means :
    (m : Places) (p w own : ℕ) (a : Expr) (from to : Typed) → IsOwn m a own → Fills m a (either_width own w) from → Makes to from negated → Means m (opposite p a) w to
negated_means m p w own a from to is fills makes slots valid s shows =
    subst (λ v. Gives to slots valid (negated (cast_word (sound_width (either_width v w)) (value_of a (either_width v w) s)))) (sym (is slots valid s shows))
    (makes slots valid _ (fills slots valid s shows))

pub binary_means :
    (m : Places) (p w v u : ℕ) (op : Op) (a b : Expr) (x y to : Typed) → IsOwn m a v → IsOwn m b u
    → Fills m a (left_place (class_of op) v u w) x → Fills m b (right_place (class_of op) v u w) y → MakesTwo to x y (operate op) → Means m (binary p op a b) w to
binary_means m p w v u op a b x y to is_left is_right left right makes slots valid s shows =
    subst
    (λ i. Gives to slots valid (operate op
    (cast_word (sound_width (left_place (class_of op) i (own_width b s) w)) (value_of a (left_place (class_of op) i (own_width b s) w) s))
    (cast_word (sound_width (right_place (class_of op) i (own_width b s) w)) (value_of b (right_place (class_of op) i (own_width b s) w) s))))
    (sym (is_left slots valid s shows))
    (subst
    (λ j. Gives to slots valid (operate op
    (cast_word (sound_width (left_place (class_of op) v j w)) (value_of a (left_place (class_of op) v j w) s))
    (cast_word (sound_width (right_place (class_of op) v j w)) (value_of b (right_place (class_of op) v j w) s))))
    (sym (is_right slots valid s shows))
    (makes slots valid _ _ (left slots valid s shows) (right slots valid s shows)))

pub choice_means :
    (m : Places) (p w v u : ℕ) (t a b : Expr) (z x y to : Typed) → IsOwn m a v → IsOwn m b u → Means m t 1 z
    → Fills m a (either_width (either_width v u) w) x → Fills m b (either_width (either_width v u) w) y → MakesChoice to z x y → Means m (conditional p t a b) w to
choice_means m p w v u t a b z x y to is_left is_right test left right makes slots valid s shows =
    subst
    (λ i. Gives to slots valid (if holds (value_of t 1 s)
    then cast_word (sound_width (either_width (either_width i (own_width b s)) w)) (value_of a (either_width (either_width i (own_width b s)) w) s)
    else cast_word (sound_width (either_width (either_width i (own_width b s)) w)) (value_of b (either_width (either_width i (own_width b s)) w) s)))
    (sym (is_left slots valid s shows))
    (subst
    (λ j. Gives to slots valid (if holds (value_of t 1 s)
    then cast_word (sound_width (either_width (either_width v j) w)) (value_of a (either_width (either_width v j) w) s)
    else cast_word (sound_width (either_width (either_width v j) w)) (value_of b (either_width (either_width v j) w) s)))
    (sym (is_right slots valid s shows))
    (makes slots valid _ _ _ (test slots valid s shows) (left slots valid s shows) (right slots valid s shows)))
