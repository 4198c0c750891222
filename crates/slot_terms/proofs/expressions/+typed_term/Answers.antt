use Rattle.std.proofs.Common.{rules, sym, subst, ap, ◌∙◌}
use Rattle.p4_tree.specs.View.{expr_of}
use Rattle.slot_terms.specs.Known.{Blames}
use Rattle.slot_terms.specs.Typed.{typed_of}
use Rattle.slot_terms.specs.Places.{Means, places_of}
use Rattle.slot_terms.proofs.KnownLemmas.{blames_second}
use Rattle.slot_terms.proofs.MeansLemmas.{inverted_means, negated_means, binary_means, choice_means}
use Rattle.slot_terms.proofs.TreeLemmas.{expr_of-Bin, expr_of-Choice}
use Rattle.slot_terms.proofs.expressions.+typed_term.Goals as goal

pub inversion_term-returns-clause-means : goal.inversion_term-returns-clause-means
inversion_term-returns-clause-means t c =
    inverted_means (places_of c.args.places.now) 0 c.args.width c.in_ok-own.own (expr_of c.args.a.now) (typed_of c.in_ok-a.a) (typed_of c.in_ok-inversion.field-0)
    c.in_ok-own.ensures.own
    (rw c.either_width.ensures at c.in_ok-a.ensures.means)
    c.in_ok-inversion.ensures

pub opposite_term-returns-clause-means : goal.opposite_term-returns-clause-means
opposite_term-returns-clause-means t c =
    negated_means (places_of c.args.places.now) 0 c.args.width c.in_ok-own.own (expr_of c.args.a.now) (typed_of c.in_ok-a.a) (typed_of c.in_ok-opposite.field-0)
    c.in_ok-own.ensures.own
    (rw c.either_width.ensures at c.in_ok-a.ensures.means)
    c.in_ok-opposite.ensures

pub typed_term-returns-in_ok-binary-in-Bin-clause-means : goal.typed_term-returns-in_ok-binary-in-Bin-clause-means
typed_term-returns-in_ok-binary-in-Bin-clause-means t c =
    subst (λ x. Means (places_of c.args.places.now) x c.args.width (typed_of c.in_ok-binary-in-Bin.field-0))
    (sym (ap expr_of c.in-Bin.is ∙ expr_of-Bin c.in-Bin.field-0 c.in-Bin.op c.in-Bin.a c.in-Bin.b))
    (binary_means (places_of c.args.places.now) c.in-Bin.field-0 c.args.width c.in_ok-v-in-Bin.v c.in_ok-u-in-Bin.u c.in-Bin.op (expr_of c.in-Bin.a.value) (expr_of c.in-Bin.b.value)
    (typed_of c.in_ok-a-in-Bin.a) (typed_of c.in_ok-b-in-Bin.b) (typed_of c.in_ok-binary-in-Bin.field-0)
    (rw c.deref-in-Bin.ensures at c.in_ok-v-in-Bin.ensures.own)
    (rw c.deref-in-Bin-2.ensures at c.in_ok-u-in-Bin.ensures.own)
    (rw (c.deref-in-Bin-3.ensures, c.left_width.ensures, c.operator-op.ensures) at c.in_ok-a-in-Bin.ensures.means)
    (rw (c.deref-in-Bin-4.ensures, c.right_width.ensures, c.operator-op.ensures) at c.in_ok-b-in-Bin.ensures.means)
    (rw c.operator-op.ensures at c.in_ok-binary-in-Bin.ensures))

pub typed_term-returns-in_ok-choice-in-Choice-clause-means : goal.typed_term-returns-in_ok-choice-in-Choice-clause-means
typed_term-returns-in_ok-choice-in-Choice-clause-means t c =
    subst (λ x. Means (places_of c.args.places.now) x c.args.width (typed_of c.in_ok-choice-in-Choice.field-0))
    (sym (ap expr_of c.in-Choice.is ∙ expr_of-Choice c.in-Choice.field-0 c.in-Choice.test c.in-Choice.a c.in-Choice.b))
    (choice_means (places_of c.args.places.now) c.in-Choice.field-0 c.args.width c.in_ok-v-in-Choice.v c.in_ok-u-in-Choice.u (expr_of c.in-Choice.test.value) (expr_of c.in-Choice.a.value) (expr_of c.in-Choice.b.value)
    (typed_of c.in_ok-test-in-Choice.test) (typed_of c.in_ok-a-in-Choice.a) (typed_of c.in_ok-b-in-Choice.b) (typed_of c.in_ok-choice-in-Choice.field-0)
    (rw c.deref-in-Choice.ensures at c.in_ok-v-in-Choice.ensures.own)
    (rw c.deref-in-Choice-2.ensures at c.in_ok-u-in-Choice.ensures.own)
    (rw c.deref-in-Choice-3.ensures at c.in_ok-test-in-Choice.ensures.means)
    (rw (c.deref-in-Choice-4.ensures, c.either_width-place.ensures, c.either_width.ensures) at c.in_ok-a-in-Choice.ensures.means)
    (rw (c.deref-in-Choice-5.ensures, c.either_width-place.ensures, c.either_width.ensures) at c.in_ok-b-in-Choice.ensures.means)
    c.in_ok-choice-in-Choice.ensures)

pub typed_term-returns-in_err-u-in-Choice-clause-blames : goal.typed_term-returns-in_err-u-in-Choice-clause-blames
typed_term-returns-in_err-u-in-Choice-clause-blames t c =
    let h : Blames (places_of c.args.places.now) (expr_of c.args.e.now) c.in_err-u-in-Choice.field-0.0 =
    subst (λ x. Blames (places_of c.args.places.now) x c.in_err-u-in-Choice.field-0.0) (sym (ap expr_of c.in-Choice.is ∙ expr_of-Choice c.in-Choice.field-0 c.in-Choice.test c.in-Choice.a c.in-Choice.b))
    (blames_second (places_of c.args.places.now) c.in-Choice.field-0 (expr_of c.in-Choice.test.value) (expr_of c.in-Choice.a.value) (expr_of c.in-Choice.b.value) c.in_err-u-in-Choice.field-0.0 (rw c.deref-in-Choice-2.ensures at c.in_err-u-in-Choice.ensures.blames)) in
    search (rules, h)

pub typed_term-returns-in_err-b-in-Choice-clause-blames : goal.typed_term-returns-in_err-b-in-Choice-clause-blames
typed_term-returns-in_err-b-in-Choice-clause-blames t c =
    let h : Blames (places_of c.args.places.now) (expr_of c.args.e.now) c.in_err-b-in-Choice.field-0.0 =
    subst (λ x. Blames (places_of c.args.places.now) x c.in_err-b-in-Choice.field-0.0) (sym (ap expr_of c.in-Choice.is ∙ expr_of-Choice c.in-Choice.field-0 c.in-Choice.test c.in-Choice.a c.in-Choice.b))
    (blames_second (places_of c.args.places.now) c.in-Choice.field-0 (expr_of c.in-Choice.test.value) (expr_of c.in-Choice.a.value) (expr_of c.in-Choice.b.value) c.in_err-b-in-Choice.field-0.0 (rw c.deref-in-Choice-5.ensures at c.in_err-b-in-Choice.ensures.blames)) in
    search (rules, h)
