-- What the members of a schedule say. Read `Sets` before it, and `Schedule` after it.
use Rattle.std.specs.Prelude.{ℕ, nat_lt, List, [], ◌∷◌, codes, Option, Some, None, option_and_then, Result, Ok, Err, if◌then◌else◌}
use Rattle.std.specs.Option.{option_map_or}
use Rattle.std.specs.Str.{bytes_eq}
use Rattle.serde_json.specs.Data.{Data}
use Rattle.indus_tree.specs.Tree.{Decl}
use Rattle.indus_tree.specs.State.{Contents}
use Rattle.network_run.specs.Events.{Event, Enter, Leave, Set}
use Rattle.table_faults.specs.declared.table.TableFault.{TableFault}
use Rattle.table_faults.specs.declared.table.TableFault.TheVariants as table
use Rattle.json_parts.specs.Answers.{◌>>=◌, with_fault}
use Rattle.json_parts.specs.Trees.{as_fields, as_whole}
use Rattle.schedule_file.specs.declared.fault.ScheduleFault.{ScheduleFault}
use Rattle.schedule_file.specs.declared.fault.ScheduleFault.TheVariants as fault
use Rattle.schedule_file.specs.Sets.{Setting, setting_of}

-- for what a schedule is read: how many packets there are, the property's declarations where there is a property, and the
-- names of the network's switches
pub record Around : Type 0 where
  pub packets : ℕ
  pub decls : Option (List Decl)
  pub names : List (List ℕ)

-- what a member says: a packet's whole passage of a switch, or one half of it, or new contents of a control variable,
-- which nobody reads where there is no property
pub data Member : Type 0 where
  passage : (packet : ℕ) → Member
  enter : (packet : ℕ) → Member
  leave : (packet : ℕ) → Member
  setting : Setting → Member
  unread : Member

-- a number of one of the packets
abbrev pub known_packet : Around → (at : ℕ) → ℕ → Result ℕ ScheduleFault
known_packet a at n = if nat_lt n a.packets then Ok n else Err (fault.NoSuchPacket at)

abbrev pub packet_at : Around → (at : ℕ) → Data → Result ℕ ScheduleFault
packet_at a at d = option_map_or (known_packet a at) (as_whole d) (Err (fault.Shape at))

-- a fault of a setting
abbrev pub control_fault : (at : ℕ) → TableFault → ScheduleFault
control_fault at table.NoMemory = fault.NoMemory
control_fault at f = fault.Control at f

abbrev pub set_for : Option (List Decl) → (names : List (List ℕ)) → (at : ℕ) → Data → Result Member ScheduleFault
set_for None names at d = Ok unread
set_for (Some ds) names at d = with_fault (control_fault at) (setting_of ds names d) >>= λ s. Ok (setting s)

-- by the name of an object's only member
abbrev pub named_member : Around → (at : ℕ) → (name : List ℕ) → Data → Result Member ScheduleFault
named_member a at name d =
    if bytes_eq name (codes "enter") then (packet_at a at d >>= λ n. Ok (enter n))
    else if bytes_eq name (codes "leave") then (packet_at a at d >>= λ n. Ok (leave n))
    else if bytes_eq name (codes "set") then set_for a.decls a.names at d
    else Err (fault.Shape at)

abbrev pub only : List (List ℕ × Data) → Option (List ℕ × Data)
only (f ∷ []) = Some f
only fs = None

-- an object of one member
abbrev pub only_member : Data → Option (List ℕ × Data)
only_member d = option_and_then only (as_fields d)

abbrev pub object_member : Around → (at : ℕ) → Option (List ℕ × Data) → Result Member ScheduleFault
object_member a at None = Err (fault.Shape at)
object_member a at (Some f) = named_member a at f.0 f.1

abbrev pub member_from : Around → (at : ℕ) → Data → (whole : Option ℕ) → Result Member ScheduleFault
member_from a at d (Some n) = known_packet a at n >>= λ m. Ok (passage m)
member_from a at d None = object_member a at (only_member d)

-- the member of a number
abbrev pub member_of : Around → (at : ℕ) → Data → Result Member ScheduleFault
member_of a at d = member_from a at d (as_whole d)

-- its events
abbrev pub events_of : Member → List (Event Contents)
events_of (passage n) = Enter n ∷ Leave n ∷ []
events_of (enter n) = Enter n ∷ []
events_of (leave n) = Leave n ∷ []
events_of (setting s) = Set s.switch s.variable s.contents ∷ []
events_of unread = []
