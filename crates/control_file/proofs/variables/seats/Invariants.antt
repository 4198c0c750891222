use Rattle.std.proofs.Common.{◌≡◌, ◌≤◌, ◌++◌, map, drop}
use Rattle.indus_tree.specs.View.{decl_of}
use Rattle.control_file.specs.Seats.{seat_numbers}
use Rattle.control_file.proofs.variables.seats.Given as goal

abbrev pub invariant-loop-decl : goal.invariant-loop-decl
invariant-loop-decl l = (l.seats.items ++ seat_numbers l.next (map decl_of (drop l.decl-index l.decls)) ≡ seat_numbers 0 (map decl_of l.decls)) × (l.next ≤ l.decl-index)
