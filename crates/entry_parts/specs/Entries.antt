-- Which entry or default a value says, or its first fault: those of its form first, then an action
-- that is not in the table's list, then another number of key parts or arguments or a prefix longer
-- than its key, and then those of its values. Read `Matches` and `Numbers` of p4_types before it.
use Rattle.std.specs.Prelude.{ℕ, ◌==◌, ◌&&◌, List, length, codes, Bool, true, false, nat_le, if◌then◌else◌, Option, Some, None, Result, Ok, Err, option_map, option_and_then}
use Rattle.std.specs.Option.{option_or}
use Rattle.std.specs.List.{list_all}
use Rattle.serde_json.specs.Data.{Data}
use Rattle.json_parts.specs.Answers.{◌>>=◌, with_fault}
use Rattle.json_parts.specs.Paths.{below}
use Rattle.table_faults.specs.declared.entry.EntryFault.TheVariants.{NoSuchAction, WidthDiffers}
use Rattle.table_faults.specs.declared.table.TableFault.{TableFault}
use Rattle.table_faults.specs.declared.table.TableFault.TheVariants as fault
use Rattle.p4_types.specs.Numbers.{dotted, number_in}
use Rattle.table_shapes.specs.Shapes.{Shape, params_in}
use Rattle.table_entries.specs.Entries.{Entry, Act}
use Rattle.table_shapes.specs.declared.shape.KeyShape.{KeyShape}
use Rattle.value_shapes.specs.declared.values.ValueShape.{ValueShape}
use Rattle.json_values.specs.Words.{fault_of}
use Rattle.entry_parts.specs.Written as written
use Rattle.entry_parts.specs.Written.{Part, whole, front, masked, past, entry_at, default_at}
use Rattle.entry_parts.specs.Matches.{args_of, matches_of}

-- ---- actions

-- the number of an action that a text names: by its whole name, `Control.name`, or by its plain name
-- in the control of the table
abbrev pub action_number : (actions : List (List ℕ)) → (control : List ℕ) → (text : List ℕ) → Option ℕ
action_number actions c x = option_or (number_in actions x) (number_in actions (dotted c x))

-- an action of a table's list: its number, and what its parameters hold
pub record Listed : Type 0 where
  pub number : ℕ
  pub params : List ValueShape

abbrev pub listed : Shape → (number : Option ℕ) → Option Listed
listed s number = option_and_then (λ n. option_map (λ ps. record { number = n; params = ps }) (params_in s.actions n)) number

-- ---- widths

-- there is a key for the part, and its prefix is no longer than the key
abbrev pub fits : Part → Bool
fits (whole v d) = true
fits (front v d n) = nat_le n v.width
fits (masked v d m) = true
fits past = false

-- there are as many parts as keys, and each fits
abbrev pub key_fits : List KeyShape → List Part → Bool
key_fits keys parts = length parts == length keys && list_all fits parts

-- ---- entries and defaults

abbrev pub act_by : (path : List ℕ) → (key : Bool) → written.Act → Option Listed → Result Act TableFault
act_by path key w None = Err (fault.Entry path NoSuchAction)
act_by path key w (Some a) =
    if key && length w.args == length a.params
    then (args_of (below path (codes "args")) a.params w.args >>= λ ws. Ok (record { action = a.number; args = ws }))
    else Err (fault.Entry path WidthDiffers)

-- the action with its arguments, where `key` says whether the key fits
unfoldable pub act_of : (actions : List (List ℕ)) → (control : List ℕ) → Shape → (path : List ℕ) → (key : Bool) → written.Act → Result Act TableFault
act_of actions c s path key w = act_by path key w (listed s (action_number actions c w.action))

-- the entry at a path of a table of a control that takes this, in a program with these actions
unfoldable pub entry_of : (actions : List (List ℕ)) → (control : List ℕ) → Shape → (path : List ℕ) → Data → Result Entry TableFault
entry_of actions c s path d = do
  w ← with_fault fault_of (entry_at path s d)
  act ← act_of actions c s path (key_fits s.keys w.key) w.act
  keys ← matches_of (below path (codes "key")) w.key
  Ok (record { keys = keys; action = act.action; args = act.args; priority = w.priority })

-- likewise the default
unfoldable pub default_of : (actions : List (List ℕ)) → (control : List ℕ) → Shape → (path : List ℕ) → Data → Result Act TableFault
default_of actions c s path d = do
  w ← with_fault fault_of (default_at path d)
  act_of actions c s path true w
