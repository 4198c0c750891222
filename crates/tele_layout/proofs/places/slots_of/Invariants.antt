use Rattle.std.proofs.Common.{drop, map}
use Rattle.indus_tree.specs.View.{decl_of}
use Rattle.tele_layout.proofs.PlacesLemmas.{Placing}
use Rattle.tele_layout.proofs.places.slots_of.Given as goal

abbrev pub invariant-loop-number : goal.invariant-loop-number
invariant-loop-number l = Placing (map decl_of l.decls) l.slots.items l.number l.at (map decl_of (drop l.number l.decls))
