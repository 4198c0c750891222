use Rattle.std.proofs.Common.{map, take}
use Rattle.p4_tree.specs.View.{local_of}
use Rattle.p4_types.specs.Numbers.{locals_names}
use Rattle.p4_types.specs.Kept.{sort_of, IsGroup}
use Rattle.p4_types.proofs.numbers.group_of.Given as goal

abbrev pub invariant-loop-local : goal.invariant-loop-local
invariant-loop-local l = IsGroup l.group l.control l.next (locals_names (sort_of l.sort) l.control (map local_of (take l.local-index l.locals)))
