use Rattle.std.proofs.Common.{◌≡◌, ◌+◌, map, drop}
use Rattle.p4_tree.specs.View.{top_of}
use Rattle.p4_meaning.specs.Parts.{header_of}
use Rattle.p4_parts.specs.Slots.{header_slots}
use Rattle.p4_parts.proofs.slots.with_headers.Given as goal

abbrev pub invariant-loop-header : goal.invariant-loop-header
invariant-loop-header l =
    l.sum + header_slots (map (header_of (map top_of l.tops)) (drop l.header-index l.headers))
    ≡ l.slots + header_slots (map (header_of (map top_of l.tops)) l.headers)
