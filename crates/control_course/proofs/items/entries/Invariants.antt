use Rattle.std.proofs.Common.{◌≡◌, map, take}
use Rattle.p4_tables.specs.State.{entries_in}
use Rattle.control_course.proofs.items.entries.Given as goal

abbrev pub invariant-loop-state : goal.invariant-loop-state
invariant-loop-state l = l.numbers.items ≡ map entries_in (take l.state-index l.tables)
