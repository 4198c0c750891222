-- A schedule: an array of members, each with its events. Read `Members` before it.
use Rattle.std.specs.Prelude.{ℕ, ◌+◌, nat_lt, List, [], ◌∷◌, ◌++◌, replicate, slice_set, Bool, true, false, Option, Some, None, Result, Ok, Err, if◌then◌else◌}
use Rattle.serde_json.specs.Data.{Data}
use Rattle.indus_tree.specs.State.{Contents}
use Rattle.indus_types.specs.Sums.{cut}
use Rattle.network_run.specs.Events.{Event, Enter, Leave, Set}
use Rattle.json_parts.specs.Answers.{◌>>=◌}
use Rattle.json_parts.specs.Trees.{as_list}
use Rattle.json_parts.specs.Turns.{in_turn}
use Rattle.schedule_file.specs.declared.fault.ScheduleFault.{ScheduleFault}
use Rattle.schedule_file.specs.declared.fault.ScheduleFault.TheVariants as fault
use Rattle.schedule_file.specs.Members.{Around, member_of, events_of}

-- the events so far, and for each packet whether its last half so far is an entry half
pub record Reading : Type 0 where
  pub events : List (Event Contents)
  pub waiting : List Bool

abbrev pub waits_behind : List Bool → Event Contents → List Bool
waits_behind ws (Enter n) = slice_set ws n true
waits_behind ws (Leave n) = slice_set ws n false
waits_behind ws (Set s v c) = ws

abbrev pub one_if : Bool → ℕ
one_if b = if b then 1 else 0

-- how many wait
abbrev pub count_of : List Bool → ℕ
count_of [] = 0
count_of (w ∷ ws) = one_if w + count_of ws

-- the greatest number of packets that may wait behind a member
abbrev pub most_waiting : ℕ
most_waiting = 1024

-- one event more
abbrev pub with_event : Reading → Event Contents → Reading
with_event r e = record { events = r.events ++ e ∷ []; waiting = waits_behind r.waiting e }

abbrev pub with_events : Reading → List (Event Contents) → Reading
with_events r [] = r
with_events r (e ∷ es) = with_events (with_event r e) es

-- the fault of too many that wait comes behind those of the member itself
abbrev pub bounded : (at : ℕ) → Reading → Result Reading ScheduleFault
bounded at r = if nat_lt most_waiting (count_of r.waiting) then Err (fault.Queued at) else Ok r

-- the member of a number. A number of more than 32 bits is told as the greatest that has 32
abbrev pub with_member : Around → Reading → (number : ℕ) → Data → Result Reading ScheduleFault
with_member a r number d = member_of a (cut number) d >>= λ m. bounded (cut number) (with_events r (events_of m))

abbrev pub start : Around → Reading
start a = record { events = []; waiting = replicate a.packets false }

abbrev pub events_from : Around → Option (List Data) → Result (List (Event Contents)) ScheduleFault
events_from a None = Err (fault.Shape 0)
events_from a (Some ds) = in_turn (with_member a) (start a) 0 ds >>= λ r. Ok r.events

-- the events of a schedule, or the fault of its first member that has one
unfoldable pub schedule_of : Around → Data → Result (List (Event Contents)) ScheduleFault
schedule_of a d = events_from a (as_list d)
