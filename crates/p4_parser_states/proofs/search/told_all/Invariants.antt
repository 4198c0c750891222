use Rattle.std.proofs.Common.{◌≡◌, map, take}
use Rattle.p4_parser_states.specs.Search.{told}
use Rattle.p4_parser_states.proofs.search.told_all.Given as goal

abbrev pub invariant-loop-mark : goal.invariant-loop-mark
invariant-loop-mark l = l.answers.items ≡ map told (take l.mark-index l.marks)
