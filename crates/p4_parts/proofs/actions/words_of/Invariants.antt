use Rattle.std.proofs.Common.{◌≡◌, ◌++◌, map, drop}
use Rattle.p4_tree.specs.View.{expr_of}
use Rattle.p4_meaning.specs.Actions.{args_of}
use Rattle.p4_parts.specs.PartsIn.{param_in}
use Rattle.p4_parts.proofs.actions.words_of.Given as goal

abbrev pub invariant-loop-i : goal.invariant-loop-i
invariant-loop-i g l = l.words.items ++ args_of (map param_in (drop l.i l.params)) (map expr_of (drop l.i l.list)) (g.S.Sight.store l.s) ≡ args_of (map param_in l.params) (map expr_of l.list) (g.S.Sight.store l.s)
