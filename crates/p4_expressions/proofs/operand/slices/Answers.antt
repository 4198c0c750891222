use Rattle.std.proofs.Common.{◌≡◌, ◌+◌, ◌-◌, length, true, false, Err, refl, sym, ap, ◌∙◌, arith}
use Rattle.std.specs.Prelude.{slice_get}
use Rattle.std.proofs.lemmas.Result.{err_from_is_err_and}
use Rattle.lex_words.specs.declared.key.Key.TheVariants.{SquareOpen}
use Rattle.lex_words.specs.Seen.{at_key}
use Rattle.lex_words.specs.Reading.{high}
use Rattle.lex_words.proofs.Turns.{turn_fails, turn_gives}
use Rattle.p4_tree.specs.View.{expr_of}
use Rattle.p4_expressions.specs.Reading.{bounds_at, tree_of}
use Rattle.p4_expressions.proofs.Turns.{slices_end, slices_high, slices_go_on}
use Rattle.p4_expressions.proofs.operand.slices.Goals as goal

pub turns-init : goal.turns-init
turns-init c = record { goes_on = (length c.args.tokens.now.lexemes + 1, omega arith, refl); same = refl; onward = omega arith; is_low = c.requires.first }

pub returns-then-height-left-clause-reads : goal.returns-then-height-left-clause-reads
returns-then-height-left-clause-reads c =
    let ws = c.args.tokens.now.lexemes in
    let l = c.turns.invariant in
    let len = ap length l.same in
    let j : at_key SquareOpen (slice_get ws c.turns.tokens.at) ≡ true = ap (λ v. at_key SquareOpen (slice_get v c.turns.tokens.at)) (sym l.same) ∙ sym c.is.ensures.value ∙ c.turns-test.true in
    record {
      gives = l.goes_on.2 ∙ slices_high ws (length ws + 1) c.args.height c.args.start l.goes_on.0 c.turns.tokens.at (expr_of c.turns.left.tree) (omega (arith, l.goes_on.1, c.is.ensures.inside, len)) j (omega (arith, c.if-height-left.true, l.is_low.tall)) ∙ ap (λ q. Err (high q)) (sym c.at.ensures.value);
      same = l.same;
      within = tt;
    }

pub returns-in_err-left-clause-reads : goal.returns-in_err-left-clause-reads
returns-in_err-left-clause-reads c =
    let ws = c.args.tokens.now.lexemes in
    let n = length ws + 1 in
    let l = c.turns.invariant in
    let len = ap length l.same in
    let p = err_from_is_err_and c.from_residual.result c.from_residual.ensures.1 in
    let j : at_key SquareOpen (slice_get ws c.turns.tokens.at) ≡ true = ap (λ v. at_key SquareOpen (slice_get v c.turns.tokens.at)) (sym l.same) ∙ sym c.is.ensures.value ∙ c.turns-test.true in
    let w = c.skip.ensures.same ∙ l.same in
    let step = l.goes_on.2 ∙ slices_go_on ws n c.args.height c.args.start l.goes_on.0 c.turns.tokens.at (expr_of c.turns.left.tree) (omega (arith, l.goes_on.1, c.is.ensures.inside, len)) j (omega (arith, c.if-height-left.false, l.is_low.tall)) in
    record {
      gives = rw (p.1, p.2) (turn_fails ws (λ vs m. bounds_at vs m c.args.start (expr_of c.turns.left.tree)) tree_of _ c.skip.new.self c.bounds.new.tokens (c.turns.tokens.at + 1) c.in_err-left.field-0.0 _ w c.skip.ensures.at step c.in_err-left.ensures.reads);
      same = c.in_err-left.ensures.reads.same ∙ w;
      within = rw p.1 tt;
    }

pub turns-preserved : goal.turns-preserved
turns-preserved c =
    let ws = c.args.tokens.now.lexemes in
    let n = length ws + 1 in
    let l = c.turns.invariant in
    let len = ap length l.same in
    let j : at_key SquareOpen (slice_get ws c.turns.tokens.at) ≡ true = ap (λ v. at_key SquareOpen (slice_get v c.turns.tokens.at)) (sym l.same) ∙ sym c.is.ensures.value ∙ c.turns-test.true in
    let w = c.skip.ensures.same ∙ l.same in
    let r = c.in_ok-left.ensures in
    let step = l.goes_on.2 ∙ slices_go_on ws n c.args.height c.args.start l.goes_on.0 c.turns.tokens.at (expr_of c.turns.left.tree) (omega (arith, l.goes_on.1, c.is.ensures.inside, len)) j (omega (arith, c.if-height-left.false, l.is_low.tall)) in
    let far = r.reads.within.1 in
    record {
      goes_on = (
        l.goes_on.0 - 1,
        omega (arith, l.goes_on.1, far, c.skip.ensures.at),
        turn_gives ws (λ vs m. bounds_at vs m c.args.start (expr_of c.turns.left.tree)) tree_of _ c.skip.new.self c.bounds.new.tokens (c.turns.tokens.at + 1) c.in_ok-left.left _ w c.skip.ensures.at step r.reads,
      );
      same = r.reads.same ∙ w;
      onward = omega (arith, l.onward, far, c.skip.ensures.at);
      is_low = record { tall = r.low.tall; low = omega (arith, r.low.low, c.if-height-left.false) };
    }

pub returns-clause-reads : goal.returns-clause-reads
returns-clause-reads c =
    let ws = c.args.tokens.now.lexemes in
    let l = c.turns.invariant in
    let len = ap length l.same in
    let j : at_key SquareOpen (slice_get ws c.turns.tokens.at) ≡ false = ap (λ v. at_key SquareOpen (slice_get v c.turns.tokens.at)) (sym l.same) ∙ sym c.is.ensures.value ∙ c.turns-test.false in
    record {
      gives = l.goes_on.2 ∙ slices_end ws (length ws + 1) c.args.height c.args.start l.goes_on.0 c.turns.tokens.at (expr_of c.turns.left.tree) (omega (arith, l.goes_on.1, c.is.ensures.inside, len)) j;
      same = l.same;
      within = (omega (arith, c.is.ensures.inside, len), l.onward);
    }
