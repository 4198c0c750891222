-- What the values of the program stand for.
use Rattle.std.specs.Prelude.{ℕ, List, map, Option}
use Rattle.std.specs.Option.{option_map}
use Rattle.std.specs.Global.{Vec}
use Rattle.bit_values.specs.Bits.{Word}
use Rattle.p4_tree.specs.Tree as tree
use Rattle.p4_tree.specs.View.{table_of, action_of}
use Rattle.p4_tree.specs.declared.program.Table.{Table}
use Rattle.p4_tree.specs.declared.program.Action.{Action}
use Rattle.table_entries.specs.Entries as entries
use Rattle.table_entries.specs.View.{entry_of, given_act}
use Rattle.table_entries.specs.declared.entry.Entry.{Entry}

abbrev pub pair_of : Table × Action → tree.Table × tree.Action
pair_of p = (table_of p.0, action_of p.1)

abbrev pub loaded_of : Vec Entry × Option (ℕ × Vec Word) → List entries.Entry × Option entries.Act
loaded_of l = (map entry_of l.0.items, option_map given_act l.1)
