use Rattle.std.proofs.Common.{◌≡◌, ◌||◌, true, false, ap, ◌∙◌}
use Rattle.p4_tree.specs.Tree.{negation, inversion, opposite, binary, conditional, slice, cast}
use Rattle.p4_tree.specs.View.{expr_of}
use Rattle.p4_tree.specs.declared.statement.PTy.{PTy}
use Rattle.p4_statement_rules.specs.Expressions.{is_error_name}
use Rattle.simplify_rules.specs.Simplified.{is_offered, in_negation, in_inversion, in_opposite, in_binary, in_conditional, in_slice, in_cast}
use Rattle.simplify_rules.proofs.Nodes.{negation_node, inversion_node, opposite_node, binary_node, conditional_node, slice_node, cast_node}
use Rattle.simplify_rules.proofs.Steps.{by, kept_whole, left_copy, then_offered}
use Rattle.simplify_rules.proofs.walk.+walked.Goals as goal

pub inside-returns-then-compares_error : goal.inside-returns-then-compares_error
inside-returns-then-compares_error g t c = kept_whole _ _ _ c.whole.ensures.whole c.whole.ensures.same

pub inside-returns-in-Num : goal.inside-returns-in-Num
inside-returns-in-Num g t c = kept_whole _ _ _ c.whole-in-Num.ensures.whole c.whole-in-Num.ensures.same

pub inside-returns-in-Applied : goal.inside-returns-in-Applied
inside-returns-in-Applied g t c = kept_whole _ _ _ c.whole-in-Applied.ensures.whole c.whole-in-Applied.ensures.same

pub inside-returns-in_ok-boxed-in-Not : goal.inside-returns-in_ok-boxed-in-Not
inside-returns-in_ok-boxed-in-Not g t c =
    by _ _ (negation c.in-Not.at (expr_of c.in-Not.a.value)) (negation c.in-Not.at (expr_of c.in_ok-boxed-in-Not.field-0.value)) _ (ap expr_of c.in-Not.is ∙ negation_node _ _) (negation_node _ _)
    (in_negation _ c.in_ok-boxed-in-Not.ensures)

pub inside-returns-in_ok-boxed-in-Invert : goal.inside-returns-in_ok-boxed-in-Invert
inside-returns-in_ok-boxed-in-Invert g t c =
    by _ _ (inversion c.in-Invert.at (expr_of c.in-Invert.a.value)) (inversion c.in-Invert.at (expr_of c.in_ok-boxed-in-Invert.field-0.value)) _ (ap expr_of c.in-Invert.is ∙ inversion_node _ _) (inversion_node _ _)
    (in_inversion _ c.in_ok-boxed-in-Invert.ensures)

pub inside-returns-in_ok-boxed-in-Negate : goal.inside-returns-in_ok-boxed-in-Negate
inside-returns-in_ok-boxed-in-Negate g t c =
    by _ _ (opposite c.in-Negate.at (expr_of c.in-Negate.a.value)) (opposite c.in-Negate.at (expr_of c.in_ok-boxed-in-Negate.field-0.value)) _ (ap expr_of c.in-Negate.is ∙ opposite_node _ _) (opposite_node _ _)
    (in_opposite _ c.in_ok-boxed-in-Negate.ensures)

pub inside-returns-in_ok-b-in-Bin : goal.inside-returns-in_ok-b-in-Bin
inside-returns-in_ok-b-in-Bin g t c =
    let found = c.compares_error.ensures in
    let not_so = c.if-compares_error.false in
    let apart : (is_error_name (expr_of c.in-Bin.a.value) || is_error_name (expr_of c.in-Bin.b.value)) ≡ false = cc in
    by _ _ (binary c.in-Bin.at c.in-Bin.op (expr_of c.in-Bin.a.value) (expr_of c.in-Bin.b.value)) (binary c.in-Bin.at c.in-Bin.op (expr_of c.in_ok-a-in-Bin.a.value) (expr_of c.in_ok-b-in-Bin.b.value)) _ (ap expr_of c.in-Bin.is ∙ binary_node _ _ _ _) (binary_node _ _ _ _)
    (in_binary _ _ apart c.in_ok-a-in-Bin.ensures c.in_ok-b-in-Bin.ensures)

pub inside-returns-in_ok-b-in-Choice : goal.inside-returns-in_ok-b-in-Choice
inside-returns-in_ok-b-in-Choice g t c =
    by _ _ (conditional c.in-Choice.at (expr_of c.in-Choice.test.value) (expr_of c.in-Choice.a.value) (expr_of c.in-Choice.b.value)) (conditional c.in-Choice.at (expr_of c.in_ok-test-in-Choice.test.value) (expr_of c.in_ok-a-in-Choice.a.value) (expr_of c.in_ok-b-in-Choice.b.value)) _ (ap expr_of c.in-Choice.is ∙ conditional_node _ _ _ _) (conditional_node _ _ _ _)
    (in_conditional _ c.in_ok-test-in-Choice.ensures c.in_ok-a-in-Choice.ensures c.in_ok-b-in-Choice.ensures)

pub inside-returns-in_ok-a-in-Slice : goal.inside-returns-in_ok-a-in-Slice
inside-returns-in_ok-a-in-Slice g t c =
    by _ _ (slice c.in-Slice.at (expr_of c.in-Slice.a.value) c.in-Slice.high c.in-Slice.low) (slice c.in-Slice.at (expr_of c.in_ok-a-in-Slice.a.value) c.in-Slice.high c.in-Slice.low) _ (ap expr_of c.in-Slice.is ∙ slice_node _ _ _ _) (slice_node _ _ _ _)
    (in_slice _ _ _ c.in_ok-a-in-Slice.ensures)

pub inside-returns-in_ok-a-in-Cast : goal.inside-returns-in_ok-a-in-Cast
inside-returns-in_ok-a-in-Cast g t c =
    by _ _ (cast c.in-Cast.at c.in-Cast.ty (expr_of c.in-Cast.a.value)) (cast c.in-Cast.at c.in-Cast.ty (expr_of c.in_ok-a-in-Cast.a.value)) _ (ap expr_of c.in-Cast.is ∙ cast_node _ _ _) (cast_node _ _ _ ∙ ap (λ (t : PTy). cast c.in-Cast.at t (expr_of c.in_ok-a-in-Cast.a.value)) c.in_ok-ty-in-Cast.ensures)
    (in_cast _ _ c.in_ok-a-in-Cast.ensures)

pub walked-returns-then-not-is_offered : goal.walked-returns-then-not-is_offered
walked-returns-then-not-is_offered g t c =
    let found = c.is_offered.ensures in
    let so = c.if-not-is_offered.true in
    let apart : is_offered (expr_of c.args.e.now) ≡ false = cc in
    left_copy _ _ _ apart c.copy.ensures

pub walked-returns : goal.walked-returns
walked-returns g t c =
    let found = c.is_offered.ensures in
    let so = c.if-not-is_offered.false in
    let is : is_offered (expr_of c.args.e.now) ≡ true = cc in
    then_offered _ _ _ _ is c.in_ok-inside.ensures c.answered.ensures
