use Rattle.std.proofs.Common.{◌≡◌, drop}
use Rattle.p4_types.specs.Kept.{least, number_of}
use Rattle.p4_types.proofs.numbers.Numbering.number.Given as goal

abbrev pub invariant-loop-group : goal.invariant-loop-group
invariant-loop-group l = least l.found (drop l.group-index l.self.controls.items) l.name ≡ number_of l.self l.name
