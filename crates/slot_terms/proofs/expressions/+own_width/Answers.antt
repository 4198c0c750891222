use Rattle.std.proofs.Common.{rules, sym, subst, ap, ◌∙◌}
use Rattle.p4_tree.specs.View.{expr_of}
use Rattle.slot_terms.specs.Places.{places_of}
use Rattle.slot_terms.specs.Known.{Blames}
use Rattle.slot_terms.proofs.KnownLemmas.{blames_second}
use Rattle.slot_terms.proofs.TreeLemmas.{expr_of-Choice}
use Rattle.slot_terms.proofs.expressions.+own_width.Goals as goal

pub returns-in_err-u-in-Choice-clause-blames : goal.returns-in_err-u-in-Choice-clause-blames
returns-in_err-u-in-Choice-clause-blames t c =
    let h : Blames (places_of c.args.places.now) (expr_of c.args.e.now) c.in_err-u-in-Choice.field-0.0 =
    subst (λ x. Blames (places_of c.args.places.now) x c.in_err-u-in-Choice.field-0.0) (sym (ap expr_of c.in-Choice.is ∙ expr_of-Choice c.in-Choice.field-0 c.in-Choice.field-1 c.in-Choice.a c.in-Choice.b))
    (blames_second (places_of c.args.places.now) c.in-Choice.field-0 (expr_of c.in-Choice.field-1.value) (expr_of c.in-Choice.a.value) (expr_of c.in-Choice.b.value) c.in_err-u-in-Choice.field-0.0 (rw c.deref-in-Choice-2.ensures at c.in_err-u-in-Choice.ensures.blames)) in
    search (rules, h)
