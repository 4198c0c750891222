use Rattle.std.proofs.Common.{◌≡◌, ◌+◌, ◌-◌, max, length, map, Some, None, Err, [], ◌∷◌, ◌++◌, refl, sym, ap, ◌∙◌, arith, rules}
use Rattle.std.proofs.lemmas.Result.{err_from_is_err_and}
use Rattle.std.proofs.lemmas.List.{map_push}
use Rattle.lex_words.specs.declared.key.Key.TheVariants.{Comma}
use Rattle.lex_words.specs.Reading.{high, more_of}
use Rattle.lex_words.proofs.Loops.{Front}
use Rattle.lex_words.proofs.Joins.{join_along}
use Rattle.lex_words.proofs.Turns.{turn_fails, turn_gives, more_fails, more_next, more_done}
use Rattle.indus_tree.specs.Tree.{exprs_from}
use Rattle.indus_tree.specs.Height.{expr_height, exprs_height}
use Rattle.indus_tree.specs.View.{expr_of}
use Rattle.indus_spelling.specs.Operators.{join_at}
use Rattle.indus_expressions.specs.Reading.{right_at, expr_at, tree_of}
use Rattle.indus_expressions.proofs.Turns.{item_at, chain_ends, chain_high, chain_goes_on, rest_front, tall_push}
use Rattle.indus_expressions.proofs.+read.Goals as goal

pub chain::chain-turns-init : goal.chain::chain-turns-init
chain::chain-turns-init t c = record { goes_on = (length c.args.tokens.now.lexemes + 1, omega arith, refl); same = refl; onward = omega arith; is_low = c.requires.first }

pub chain::chain-returns-then-height-left-clause-reads : goal.chain::chain-returns-then-height-left-clause-reads
chain::chain-returns-then-height-left-clause-reads t c =
    let ws = c.args.tokens.now.lexemes in
    let l = c.turns.invariant in
    let len = ap length l.same in
    let j = join_along join_at (c.args.level + 1) c.turns.tokens.lexemes ws c.turns.tokens.at (Some c.in-Some.found) l.same c.in-Some.ensures.value in
    record {
      gives = l.goes_on.2 ∙ chain_high ws (length ws + 1) c.args.height c.args.brackets c.args.level c.args.start l.goes_on.0 c.turns.tokens.at (expr_of c.turns.left.tree) c.in-Some.found (omega (arith, l.goes_on.1, c.in-Some.ensures.within, len)) j (omega (arith, c.if-height-left.true, l.is_low.tall)) ∙ ap (λ q. Err (high q)) (sym c.at.ensures.value);
      same = l.same;
      within = tt;
    }

pub chain::chain-returns-in_err-left-clause-reads : goal.chain::chain-returns-in_err-left-clause-reads
chain::chain-returns-in_err-left-clause-reads t c =
    let ws = c.args.tokens.now.lexemes in
    let n = length ws + 1 in
    let l = c.turns.invariant in
    let len = ap length l.same in
    let p = err_from_is_err_and c.from_residual.result c.from_residual.ensures.1 in
    let j = join_along join_at (c.args.level + 1) c.turns.tokens.lexemes ws c.turns.tokens.at (Some c.in-Some.found) l.same c.in-Some.ensures.value in
    let w = c.skip.ensures.same ∙ l.same in
    let step = l.goes_on.2 ∙ chain_goes_on ws n c.args.height c.args.brackets c.args.level c.args.start l.goes_on.0 c.turns.tokens.at (expr_of c.turns.left.tree) c.in-Some.found (omega (arith, l.goes_on.1, c.in-Some.ensures.within, len)) j (omega (arith, c.if-height-left.false, l.is_low.tall)) in
    record {
      gives = rw (p.1, p.2) (turn_fails ws (λ vs m. right_at vs m (expr_at vs m (c.args.height - 1) c.args.brackets) c.args.level c.args.start (expr_of c.turns.left.tree) c.in-Some.found) tree_of _ c.skip.new.self c.right.new.tokens (c.turns.tokens.at + 1) c.in_err-left.field-0.0 _ w c.skip.ensures.at step c.in_err-left.ensures.reads);
      same = c.in_err-left.ensures.reads.same ∙ w;
      within = rw p.1 tt;
    }

pub chain::chain-turns-preserved : goal.chain::chain-turns-preserved
chain::chain-turns-preserved t c =
    let ws = c.args.tokens.now.lexemes in
    let n = length ws + 1 in
    let l = c.turns.invariant in
    let len = ap length l.same in
    let j = join_along join_at (c.args.level + 1) c.turns.tokens.lexemes ws c.turns.tokens.at (Some c.in-Some.found) l.same c.in-Some.ensures.value in
    let w = c.skip.ensures.same ∙ l.same in
    let r = c.in_ok-left.ensures in
    let step = l.goes_on.2 ∙ chain_goes_on ws n c.args.height c.args.brackets c.args.level c.args.start l.goes_on.0 c.turns.tokens.at (expr_of c.turns.left.tree) c.in-Some.found (omega (arith, l.goes_on.1, c.in-Some.ensures.within, len)) j (omega (arith, c.if-height-left.false, l.is_low.tall)) in
    let far = r.reads.within.1 in
    record {
      goes_on = (
        l.goes_on.0 - 1,
        omega (arith, l.goes_on.1, far, c.skip.ensures.at),
        turn_gives ws (λ vs m. right_at vs m (expr_at vs m (c.args.height - 1) c.args.brackets) c.args.level c.args.start (expr_of c.turns.left.tree) c.in-Some.found) tree_of _ c.skip.new.self c.right.new.tokens (c.turns.tokens.at + 1) c.in_ok-left.left _ w c.skip.ensures.at step r.reads,
      );
      same = r.reads.same ∙ w;
      onward = omega (arith, l.onward, far, c.skip.ensures.at);
      is_low = record { tall = r.low.tall; low = omega (arith, r.low.low, c.if-height-left.false) };
    }

pub chain::chain-returns-clause-reads : goal.chain::chain-returns-clause-reads
chain::chain-returns-clause-reads t c =
    let ws = c.args.tokens.now.lexemes in
    let l = c.turns.invariant in
    let len = ap length l.same in
    let j = join_along join_at (c.args.level + 1) c.turns.tokens.lexemes ws c.turns.tokens.at None l.same c.in_default.ensures.value in
    record {
      gives = l.goes_on.2 ∙ chain_ends ws (length ws + 1) c.args.height c.args.brackets c.args.level c.args.start l.goes_on.0 c.turns.tokens.at (expr_of c.turns.left.tree) (omega (arith, l.goes_on.1, c.in_default.ensures.within, len)) j;
      same = l.same;
      within = (omega (arith, c.in_default.ensures.within, len), l.onward);
    }

pub chain::others-items-init : goal.chain::others-items-init
chain::others-items-init t c =
    let ws = c.args.tokens.now.lexemes in
    let n = length ws + 1 in
    let i = c.args.tokens.now.at in
    let e : map expr_of c.push.new.self.items ≡ expr_of c.args.first.tree ∷ [] = search rules in
    let h : expr_height (expr_of c.args.first.tree) ≡ max (expr_height (expr_of c.args.first.tree)) 0 = omega arith in
    record {
      turn = record { turns = n; enough = omega arith; reads = rest_front ws n (expr_at ws n c.args.height c.args.brackets) (expr_of c.args.first.tree) i ∙ ap (λ x. Front x (more_of ws Comma (item_at c.args.height c.args.brackets ws n) n i)) (sym e); same = refl; onward = omega arith };
      tall = c.requires.first.tall ∙ h ∙ ap (λ x. exprs_height (exprs_from x)) (sym e);
      low = c.requires.first.low;
    }

pub chain::others-returns-in_err-other-clause-reads : goal.chain::others-returns-in_err-other-clause-reads
chain::others-returns-in_err-other-clause-reads t c =
    let p = err_from_is_err_and c.from_residual-in_err-other.result c.from_residual-in_err-other.ensures.1 in
    let l = c.items.invariant.turn in
    record {
      gives = rw (p.1, p.2) (more_fails c.args.tokens.now.lexemes (item_at c.args.height c.args.brackets) tree_of Comma _ _ _ _ _ _ l c.eat.ensures c.items-test.true c.expr.new.tokens c.in_err-other.field-0.0 c.in_err-other.ensures.reads);
      same = c.in_err-other.ensures.reads.same ∙ c.eat.ensures.same ∙ l.same;
      within = rw p.1 tt;
    }

pub chain::others-items-preserved : goal.chain::others-items-preserved
chain::others-items-preserved t c =
    let x = c.in_ok-other.other in
    let r = c.in_ok-other.ensures in
    let was = c.items.invariant in
    let e : map expr_of c.push-in-items.new.self.items ≡ map expr_of c.items.trees.items ++ expr_of x.tree ∷ [] = rw c.in_ok-push-2.ensures.items (map_push _ c.items.trees.items x.tree) in
    record {
      turn = more_next c.args.tokens.now.lexemes (item_at c.args.height c.args.brackets) tree_of Comma _ _ _ _ _ _ was.turn c.eat.ensures c.items-test.true c.expr.new.tokens x _ r.reads e;
      tall = (let k : c.max-tall.result ≡ max (exprs_height (exprs_from (map expr_of c.items.trees.items))) (expr_height (expr_of x.tree)) = omega (arith, c.max-tall.ensures, was.tall, r.low.tall) in k ∙ sym (tall_push (map expr_of c.items.trees.items) (expr_of x.tree)) ∙ ap (λ z. exprs_height (exprs_from z)) (sym e));
      low = omega (arith, c.max-tall.ensures, was.low, r.low.low);
    }

pub chain::others-returns-clause-reads : goal.chain::others-returns-clause-reads
chain::others-returns-clause-reads t c =
    let d = more_done c.args.tokens.now.lexemes (item_at c.args.height c.args.brackets) tree_of Comma _ _ _ _ _ _ c.items.invariant.turn c.eat.ensures c.items-test.false in
    record { gives = d.gives; same = d.same; within = d.within }
