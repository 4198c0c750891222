use Rattle.std.proofs.Common.{◌≡◌, ◌≤◌, ◌++◌, map, drop, length}
use Rattle.p4_tree.specs.View.{arg_of}
use Rattle.p4_meaning.specs.Statements.{values_in}
use Rattle.p4_meaning.specs.Actions.{args_of}
use Rattle.p4_parts.specs.PartsIn.{param_in}
use Rattle.p4_parts.proofs.actions.args_of.Given as goal

abbrev pub invariant-loop-a : goal.invariant-loop-a
invariant-loop-a g l = record {
  within : l.n ≤ length l.params;
  words : l.words.items ++ args_of (map param_in (drop l.n l.params)) (values_in (map arg_of (drop l.a-index l.args))) (g.S.Sight.store l.s) ≡ args_of (map param_in l.params) (values_in (map arg_of l.args)) (g.S.Sight.store l.s);
}
