use Rattle.std.proofs.Common.{◌≡◌, ◌++◌, drop, map}
use Rattle.p4_tree.specs.View.{local_of}
use Rattle.lowered_code.specs.Statements.{key_vars}
use Rattle.lower_blocks.specs.Trees.{var_tree}
use Rattle.lower_blocks.proofs.locals.key_vars.Given as goal

abbrev pub invariant-loop-part : goal.invariant-loop-part
invariant-loop-part l =
    map local_of l.out.items ++ map var_tree (key_vars l.number l.part (drop l.part l.types))
    ≡ map local_of l.initial.out.items ++ map var_tree (key_vars l.number 0 l.types)
