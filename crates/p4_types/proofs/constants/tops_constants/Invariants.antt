use Rattle.std.proofs.Common.{map, take}
use Rattle.p4_tree.specs.View.{top_of}
use Rattle.p4_meaning.specs.Under.{no_scope, behind_tops}
use Rattle.p4_types.specs.Words.{IsBehind}
use Rattle.p4_types.proofs.constants.tops_constants.Given as goal

abbrev pub invariant-loop-top : goal.invariant-loop-top
invariant-loop-top l = IsBehind l.known (behind_tops no_scope (map top_of (take l.top-index l.tops)))
