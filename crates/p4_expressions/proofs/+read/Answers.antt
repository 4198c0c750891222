use Rattle.std.proofs.Common.{◌+◌, ◌-◌, length, Some, None, Err, refl, sym, ap, ◌∙◌, arith}
use Rattle.std.proofs.lemmas.Result.{err_from_is_err_and}
use Rattle.lex_words.specs.Reading.{high}
use Rattle.lex_words.proofs.Joins.{join_along}
use Rattle.lex_words.proofs.Turns.{turn_fails, turn_gives}
use Rattle.p4_tree.specs.View.{expr_of}
use Rattle.p4_spelling.specs.Operators.{op_at}
use Rattle.p4_expressions.specs.Reading.{right_at, expr_at, tree_of}
use Rattle.p4_expressions.proofs.Turns.{chain_ends, chain_high, chain_goes_on}
use Rattle.p4_expressions.proofs.+read.Goals as goal

pub chain::chain-turns-init : goal.chain::chain-turns-init
chain::chain-turns-init t c = record { goes_on = (length c.args.tokens.now.lexemes + 1, omega arith, refl); same = refl; onward = omega arith; is_low = c.requires.first }

pub chain::chain-returns-then-height-left-clause-reads : goal.chain::chain-returns-then-height-left-clause-reads
chain::chain-returns-then-height-left-clause-reads t c =
    let ws = c.args.tokens.now.lexemes in
    let l = c.turns.invariant in
    let len = ap length l.same in
    let j = join_along op_at (c.args.level + 1) c.turns.tokens.lexemes ws c.turns.tokens.at (Some c.in-Some.found) l.same c.in-Some.ensures.value in
    record {
      gives = l.goes_on.2 ∙ chain_high ws (length ws + 1) c.args.height c.args.brackets c.args.level c.args.start l.goes_on.0 c.turns.tokens.at (expr_of c.turns.left.tree) c.in-Some.found (omega (arith, l.goes_on.1, c.in-Some.ensures.within, len)) j (omega (arith, c.if-height-left.true, l.is_low.tall)) ∙ ap (λ q. Err (high q)) (sym c.at.ensures.value);
      same = l.same;
      within = tt;
    }

pub chain::chain-returns-in_err-left-clause-reads : goal.chain::chain-returns-in_err-left-clause-reads
chain::chain-returns-in_err-left-clause-reads t c =
    let ws = c.args.tokens.now.lexemes in
    let n = length ws + 1 in
    let l = c.turns.invariant in
    let len = ap length l.same in
    let p = err_from_is_err_and c.from_residual.result c.from_residual.ensures.1 in
    let j = join_along op_at (c.args.level + 1) c.turns.tokens.lexemes ws c.turns.tokens.at (Some c.in-Some.found) l.same c.in-Some.ensures.value in
    let w = c.skip.ensures.same ∙ l.same in
    let step = l.goes_on.2 ∙ chain_goes_on ws n c.args.height c.args.brackets c.args.level c.args.start l.goes_on.0 c.turns.tokens.at (expr_of c.turns.left.tree) c.in-Some.found (omega (arith, l.goes_on.1, c.in-Some.ensures.within, len)) j (omega (arith, c.if-height-left.false, l.is_low.tall)) in
    record {
      gives = rw (p.1, p.2) (turn_fails ws (λ vs m. right_at vs m (expr_at vs m (c.args.height - 1) c.args.brackets) c.args.level c.args.start (expr_of c.turns.left.tree) c.in-Some.found) tree_of _ c.skip.new.self c.right.new.tokens (c.turns.tokens.at + 1) c.in_err-left.field-0.0 _ w c.skip.ensures.at step c.in_err-left.ensures.reads);
      same = c.in_err-left.ensures.reads.same ∙ w;
      within = rw p.1 tt;
    }

pub chain::chain-turns-preserved : goal.chain::chain-turns-preserved
chain::chain-turns-preserved t c =
    let ws = c.args.tokens.now.lexemes in
    let n = length ws + 1 in
    let l = c.turns.invariant in
    let len = ap length l.same in
    let j = join_along op_at (c.args.level + 1) c.turns.tokens.lexemes ws c.turns.tokens.at (Some c.in-Some.found) l.same c.in-Some.ensures.value in
    let w = c.skip.ensures.same ∙ l.same in
    let r = c.in_ok-left.ensures in
    let step = l.goes_on.2 ∙ chain_goes_on ws n c.args.height c.args.brackets c.args.level c.args.start l.goes_on.0 c.turns.tokens.at (expr_of c.turns.left.tree) c.in-Some.found (omega (arith, l.goes_on.1, c.in-Some.ensures.within, len)) j (omega (arith, c.if-height-left.false, l.is_low.tall)) in
    let far = r.reads.within.1 in
    record {
      goes_on = (
        l.goes_on.0 - 1,
        omega (arith, l.goes_on.1, far, c.skip.ensures.at),
        turn_gives ws (λ vs m. right_at vs m (expr_at vs m (c.args.height - 1) c.args.brackets) c.args.level c.args.start (expr_of c.turns.left.tree) c.in-Some.found) tree_of _ c.skip.new.self c.right.new.tokens (c.turns.tokens.at + 1) c.in_ok-left.left _ w c.skip.ensures.at step r.reads,
      );
      same = r.reads.same ∙ w;
      onward = omega (arith, l.onward, far, c.skip.ensures.at);
      is_low = record { tall = r.low.tall; low = omega (arith, r.low.low, c.if-height-left.false) };
    }

pub chain::chain-returns-clause-reads : goal.chain::chain-returns-clause-reads
chain::chain-returns-clause-reads t c =
    let ws = c.args.tokens.now.lexemes in
    let l = c.turns.invariant in
    let len = ap length l.same in
    let j = join_along op_at (c.args.level + 1) c.turns.tokens.lexemes ws c.turns.tokens.at None l.same c.in_default.ensures.value in
    record {
      gives = l.goes_on.2 ∙ chain_ends ws (length ws + 1) c.args.height c.args.brackets c.args.level c.args.start l.goes_on.0 c.turns.tokens.at (expr_of c.turns.left.tree) (omega (arith, l.goes_on.1, c.in_default.ensures.within, len)) j;
      same = l.same;
      within = (omega (arith, c.in_default.ensures.within, len), l.onward);
    }
