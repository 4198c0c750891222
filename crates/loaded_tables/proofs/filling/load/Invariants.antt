use Rattle.std.proofs.Common.{map}
use Rattle.indus_tree.specs.View.{decl_of}
use Rattle.indus_values.specs.View.{contents_from}
use Rattle.set_contents.specs.Maps.{map_of}
use Rattle.loaded_tables.specs.Steps.{AreLoadedTo}
use Rattle.loaded_tables.proofs.filling.load.Given as goal

-- the tables among the first of the map were given the contents of their variables
abbrev pub invariant-loop-item : goal.invariant-loop-item
invariant-loop-item l = AreLoadedTo (map_of l.mapped) (contents_from (map decl_of l.decls) l.contents) l.fn.tables l.tables l.item-index
