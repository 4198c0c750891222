use Rattle.std.proofs.Common.{◌≡◌, map, take}
use Rattle.p4_meaning.specs.Choice.{exact}
use Rattle.table_entries.specs.View.{match_of}
use Rattle.control_tables.proofs.contents.exact_keys.Given as goal

abbrev pub invariant-loop-part : goal.invariant-loop-part
invariant-loop-part l = map match_of l.keys.items ≡ map exact (take l.part-index l.key)
