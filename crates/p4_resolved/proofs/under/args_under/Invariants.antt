use Rattle.std.proofs.Common.{◌≡◌, map, take}
use Rattle.p4_tree.specs.View.{arg_of}
use Rattle.p4_meaning.specs.Under.{arg_under}
use Rattle.p4_resolved.specs.Scopes.{scope_of}
use Rattle.p4_resolved.proofs.under.args_under.Given as goal

abbrev pub invariant-loop-a : goal.invariant-loop-a
invariant-loop-a l = map arg_of l.copies.items ≡ map (arg_under (scope_of l.sc)) (map arg_of (take l.a-index l.list))
