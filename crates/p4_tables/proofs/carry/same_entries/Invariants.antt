use Rattle.std.proofs.Common.{◌≡◌, map, take}
use Rattle.p4_parts.specs.PartsIn.{action_in}
use Rattle.table_entries.specs.View.{entry_of}
use Rattle.p4_tables.specs.Carried.{renumbered, same_number}
use Rattle.p4_tables.proofs.carry.same_entries.Given as goal

abbrev pub invariant-loop-e : goal.invariant-loop-e
invariant-loop-e l = map entry_of l.same.items ≡ map (renumbered (same_number (map action_in l.from) (map action_in l.to.actions.now))) (map entry_of (take l.e-index l.entries))
