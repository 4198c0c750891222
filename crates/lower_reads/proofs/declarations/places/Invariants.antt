use Rattle.std.proofs.Common.{map, take}
use Rattle.indus_tree.specs.View.{decl_of}
use Rattle.lower_reads.specs.Places.{HasPlaces}
use Rattle.lower_reads.proofs.declarations.places.Given as goal

abbrev pub invariant-loop-place : goal.invariant-loop-place
invariant-loop-place l = HasPlaces l.out.entries (map decl_of (take l.place l.decls))
