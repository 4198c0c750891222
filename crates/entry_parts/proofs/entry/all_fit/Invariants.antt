use Rattle.std.proofs.Common.{◌≡◌, drop}
use Rattle.std.specs.List.{list_all}
use Rattle.entry_parts.specs.Entries.{fits}
use Rattle.entry_parts.specs.Views.{part_views}
use Rattle.entry_parts.proofs.entry.all_fit.Given as goal

abbrev pub invariant-loop-part : goal.invariant-loop-part
invariant-loop-part l = list_all fits (part_views (drop l.part-index l.parts)) ≡ list_all fits (part_views l.parts)
