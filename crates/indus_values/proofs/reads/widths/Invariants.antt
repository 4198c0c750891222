use Rattle.std.proofs.Common.{◌≡◌, ◌++◌, drop}
use Rattle.indus_tree.specs.Keys.{widths}
use Rattle.indus_values.proofs.reads.widths.Given as goal

abbrev pub invariant-loop-ty : goal.invariant-loop-ty
invariant-loop-ty l = l.all.items ++ widths (drop l.ty-index l.types) ≡ widths l.types
