use Rattle.std.proofs.Common.{◌≡◌, map, drop}
use Rattle.p4_meaning.specs.Pass.{is_declared_header}
use Rattle.p4_parts.specs.Headers.{header_in}
use Rattle.p4_parts.proofs.declared.is_declared_header.Given as goal

abbrev pub invariant-loop-h : goal.invariant-loop-h
invariant-loop-h l = is_declared_header (map header_in (drop l.h-index l.headers)) l.path ≡ is_declared_header (map header_in l.headers) l.path
