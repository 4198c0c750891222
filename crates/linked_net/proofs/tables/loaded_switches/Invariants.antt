use Rattle.std.proofs.Common.{map}
use Rattle.indus_tree.specs.View.{decl_of}
use Rattle.p4_tree.specs.View.{program_of}
use Rattle.control_file.specs.Views.{contents_view}
use Rattle.set_contents.specs.Maps.{maps_of}
use Rattle.linked_net.specs.Loading.{AreLoadedTo}
use Rattle.linked_net.proofs.tables.loaded_switches.Given as goal

-- the tables of the first switches are loaded
abbrev pub invariant-loop-i : goal.invariant-loop-i
invariant-loop-i l =
    AreLoadedTo (program_of l.given) (map decl_of l.decls) l.rows.tables.items (map program_of l.programs) l.tables (map contents_view l.contents) l.i l.states.items (maps_of l.maps.items)
