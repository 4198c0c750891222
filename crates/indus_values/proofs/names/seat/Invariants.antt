use Rattle.std.proofs.Common.{◌≡◌, ◌≤◌, map, drop}
use Rattle.indus_tree.specs.View.{decl_of}
use Rattle.indus_tree.specs.Hops.{seat_from}
use Rattle.indus_values.proofs.names.seat.Given as goal

abbrev pub invariant-loop-d : goal.invariant-loop-d
invariant-loop-d l = (l.n ≤ l.d-index) × (seat_from l.n l.kind (map decl_of (drop l.d-index l.decls)) l.name ≡ seat_from 0 l.kind (map decl_of l.decls) l.name)
