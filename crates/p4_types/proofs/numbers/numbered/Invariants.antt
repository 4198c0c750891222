use Rattle.std.proofs.Common.{map, take}
use Rattle.p4_tree.specs.View.{top_of}
use Rattle.p4_types.specs.Numbers.{tops_names}
use Rattle.p4_types.specs.Kept.{sort_of, IsNumbering}
use Rattle.p4_types.proofs.numbers.numbered.Given as goal

abbrev pub invariant-loop-top : goal.invariant-loop-top
invariant-loop-top l = IsNumbering l.numbering (tops_names (sort_of l.sort) (map top_of (take l.top-index l.tops)))
