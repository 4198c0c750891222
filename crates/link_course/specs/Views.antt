-- What is linked, without where it lies in memory.
use Rattle.std.specs.Prelude.{map}
use Rattle.p4_tree.specs.View.{program_of}
use Rattle.program_linker.specs.declared.linking.Linked as code
use Rattle.link_course.specs.Links.{Linked}

abbrev pub linked_of : code.Linked → Linked
linked_of l = record { programs = map program_of l.programs.items; rows = l.map.tables.items }
