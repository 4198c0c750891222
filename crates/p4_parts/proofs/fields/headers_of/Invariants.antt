use Rattle.std.proofs.Common.{◌≡◌, map, take}
use Rattle.p4_tree.specs.View.{top_of}
use Rattle.p4_parts.specs.Headers.{header_in, header_with}
use Rattle.p4_resolved.specs.Scopes.{scope_of}
use Rattle.p4_parts.proofs.fields.headers_of.Given as goal

abbrev pub invariant-loop-f : goal.invariant-loop-f
invariant-loop-f l = map header_in l.headers.items ≡ map (header_with (scope_of l.sc).types (map top_of l.tops)) (take l.f-index l.list)
