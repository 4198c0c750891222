use Rattle.std.proofs.Common.{◌≡◌, ◌≤◌, ◌++◌, map, drop}
use Rattle.indus_tree.specs.View.{decl_of}
use Rattle.loaded_tables.specs.Steps.{seats_before}
use Rattle.loaded_tables.proofs.filling.seats_before.Given as goal

-- what is left goes behind what there is
abbrev pub invariant-loop-d : goal.invariant-loop-d
invariant-loop-d l = record {
  so_far : l.all.items ++ seats_before l.seat (map decl_of (drop l.d-index l.decls)) ≡ seats_before 0 (map decl_of l.decls);
  few : l.seat ≤ l.d-index;
}
