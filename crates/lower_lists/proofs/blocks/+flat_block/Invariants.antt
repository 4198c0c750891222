use Rattle.std.proofs.Common.{◌≡◌, ◌++◌, map, drop}
use Rattle.indus_tree.specs.View.{block_of, property_of, stmt_of}
use Rattle.lower_lists.specs.Flat.{flat_block, turns}
use Rattle.lower_lists.proofs.blocks.+flat_block.Given as goal

abbrev pub invariant-flat_block-loop-s : goal.invariant-flat_block-loop-s
invariant-flat_block-loop-s l = map stmt_of l.out.items ++ flat_block (property_of l.typed).decls (block_of (drop l.s-index l.block)) l.bounds ≡ flat_block (property_of l.typed).decls (block_of l.block) l.bounds

abbrev pub invariant-flat_loop-loop-turn : goal.invariant-flat_loop-loop-turn
invariant-flat_loop-loop-turn l = map stmt_of l.out.items ≡ map stmt_of l.initial.out.items ++ turns l.at (flat_block (property_of l.typed).decls (block_of l.body)) l.names l.numbers.items l.bounds l.turn
