use Rattle.std.proofs.Common.{◌≡◌, ◌++◌, map}
use Rattle.p4_statements.specs.Runs.{digest_of}
use Rattle.p4_passages.proofs.halves.append.Given as goal

abbrev pub invariant-loop-digest : goal.invariant-loop-digest
invariant-loop-digest l = map digest_of l.told.items ≡ map digest_of l.initial.told.items ++ map digest_of l.yielded
