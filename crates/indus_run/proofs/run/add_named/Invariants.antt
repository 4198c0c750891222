use Rattle.std.proofs.Common.{◌≡◌, ◌++◌}
use Rattle.indus_tree.specs.Meaning.{named}
use Rattle.indus_run.proofs.run.add_named.Given as goal

abbrev pub invariant-loop-x : goal.invariant-loop-x
invariant-loop-x l = l.all.items ++ named l.x-iterator.a.rest.now l.x-iterator.b.rest.now ≡ l.initial.all.items ++ named l.names l.words
