-- Values of the program without where they lie in memory.
use Rattle.p4_tree.specs.View.{program_of}
use Rattle.p4_types.specs.Numbers.{actions, names}
use Rattle.table_file.specs.Tables.{Place}
use Rattle.table_file.specs.declared.table.Place as code_place

abbrev pub place_view : code_place.Place → Place
place_view p = record { table = p.table; control = p.control.now; actions = names actions (program_of p.program.now) }
