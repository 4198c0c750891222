use Rattle.std.proofs.Common.{◌≡◌, map, take, string_bytes}
use Rattle.p4_tree.specs.View.{top_of}
use Rattle.p4_types.specs.Numbers.{registers, tops_names}
use Rattle.register_texts.proofs.names.tops_names.Given as goal

abbrev pub invariant-loop-top : goal.invariant-loop-top
invariant-loop-top l = map string_bytes l.found.items ≡ tops_names registers (map top_of (take l.top-index l.tops))
