use Rattle.std.proofs.Common.{◌≡◌, map, take}
use Rattle.p4_meaning.specs.Parts.{field_of}
use Rattle.p4_parts.specs.Headers.{field_in}
use Rattle.p4_resolved.specs.Scopes.{scope_of}
use Rattle.p4_parts.proofs.fields.fields_of.Given as goal

abbrev pub invariant-loop-f : goal.invariant-loop-f
invariant-loop-f l = map field_in l.fields.items ≡ map (field_of (scope_of l.sc).types) (take l.f-index l.list)
