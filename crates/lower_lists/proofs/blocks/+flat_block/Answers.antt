use Rattle.std.proofs.Common.{◌∙◌, ap, map, ◌++◌}
use Rattle.indus_tree.specs.Tree.{choice, block_from, done}
use Rattle.indus_tree.specs.View.{block_of, decl_of, stmt_of}
use Rattle.lower_lists.specs.Flat.{all_have, bound_to, distinct, flat_block}
use Rattle.lower_lists.proofs.Views.{turn_more}
use Rattle.lower_lists.proofs.blocks.+flat_block.Goals as goal

pub flat_loop-loop-turn-preserved : goal.flat_loop-loop-turn-preserved
flat_loop-loop-turn-preserved t c =
    let ds = map decl_of c.args.typed.now.decls.items in
    turn_more c.args.at (flat_block ds (block_of c.args.body.now)) c.args.names.now c.in_ok-numbers.numbers.items c.args.bounds.now c.loop-turn.turn
    (map stmt_of c.args.out.now.items) (map stmt_of c.loop-turn.out.items) (map stmt_of c.put.new.out.items) (stmt_of c.in_ok-turn_of.field-0) c.in_ok-tested.tested.items (map stmt_of c.in_ok-body.body.items) c.in_ok-inner.inner.items
    c.loop-turn.invariant
    c.in_ok-put.ensures
    (c.in_ok-turn_of.ensures ∙ ap (λ us. choice c.args.at (all_have c.args.at us c.loop-turn.turn) (block_from (map stmt_of c.in_ok-body.body.items)) done) c.deref-in-loop-turn-3.ensures.value)
    (c.in_ok-tested.ensures ∙ ap distinct c.deref.ensures.value)
    (c.in_ok-body.ensures ∙ ap (flat_block ds (block_of c.args.body.now)) c.deref-in-loop-turn-2.ensures.value)
    (c.in_ok-inner.ensures ∙ ap (λ vs. c.args.bounds.now ++ bound_to c.args.names.now vs c.loop-turn.turn) c.deref-in-loop-turn.ensures.value)
