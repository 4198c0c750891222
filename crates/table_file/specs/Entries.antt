-- What a file of entries says of all switches of a network that run one program, or its first fault:
-- `{switch: {"Control.table": table, ..}, ..}`, members in the byte order of their names. Read
-- `Tables` before it, and `Laws` after it.
use Rattle.std.specs.Prelude.{ℕ, List, [], map, get_or, set, Option, Some, None, Result, Ok, Err}
use Rattle.serde_json.specs.Data.{Data}
use Rattle.json_parts.specs.Answers.{◌>>=◌}
use Rattle.json_parts.specs.Paths.{below}
use Rattle.json_parts.specs.Turns.{each_in_turn}
use Rattle.json_values.specs.Words.{object_at}
use Rattle.table_faults.specs.declared.table.TableFault.{TableFault}
use Rattle.table_faults.specs.declared.table.TableFault.TheVariants as fault
use Rattle.p4_tree.specs.Tree.{Program}
use Rattle.p4_tables.specs.State.{Held}
use Rattle.p4_tables.specs.Programs.{state_before}
use Rattle.network_file.specs.Network.{number_of}
use Rattle.table_file.specs.Tables.{with_table}

-- the tables of each switch, in the order of the switches
abbrev pub States : Type 0
States = List (List Held)

-- those of a switch
abbrev pub state_at : States → (switch : ℕ) → List Held
state_at sts n = get_or sts n []

-- what a file says of one switch
unfoldable pub with_tables : Program → (path : List ℕ) → List Held → Data → Result (List Held) TableFault
with_tables p path st d = object_at path d >>= each_in_turn (with_table p path) st

abbrev pub switch_from : Program → (path : List ℕ) → States → Data → (switch : Option ℕ) → Result States TableFault
switch_from p path sts d None = Err (fault.NoSuchSwitch path)
switch_from p path sts d (Some n) = with_tables p path (state_at sts n) d >>= λ st. Ok (set sts n st)

-- a switch by its name, with what a file says of it
unfoldable pub with_switch : Program → (switches : List (List ℕ)) → States → List ℕ × Data → Result States TableFault
with_switch p switches sts f = switch_from p (below [] f.0) sts f.1 (number_of switches f.0)

-- before the first entry the tables are as the program has them
abbrev pub states_before : Program → (switches : List (List ℕ)) → States
states_before p switches = map (λ _. state_before p) switches

unfoldable pub entries_of : Program → (switches : List (List ℕ)) → Data → Result States TableFault
entries_of p switches d = object_at [] d >>= each_in_turn (with_switch p switches) (states_before p switches)
