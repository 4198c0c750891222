use Rattle.std.proofs.Common.{◌≡◌, map, drop}
use Rattle.p4_meaning.specs.Pass.{is_field_of}
use Rattle.p4_parts.specs.Headers.{field_in}
use Rattle.p4_parts.proofs.declared.is_field_of.Given as goal

abbrev pub invariant-loop-f : goal.invariant-loop-f
invariant-loop-f l = is_field_of l.above (map field_in (drop l.f-index l.fields)) l.path ≡ is_field_of l.above (map field_in l.fields) l.path
