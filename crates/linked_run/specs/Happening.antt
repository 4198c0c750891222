-- Events that can happen one after the other in a net. Read `Conditions` of path_runner before it.
use Rattle.std.specs.Prelude.{ℕ, ◌<◌, List, [], ◌∷◌, length, get_or, slice_set}
use Rattle.p4_tables.specs.State.{Held}
use Rattle.indus_tree.specs.State.{Contents}
use Rattle.network_run.specs.Events.{Event, Enter, Leave, Set}
use Rattle.control_maps.specs.Numbers.{Numbered, IsSettable, set_in}

-- of a net: how many packets there are, and the map of each switch
module _ (packets : ℕ) (maps : List (List Numbered)) where
  -- where tables hold this, the event's packet is there; or its switch, and each table of the variable takes the new contents
  abbrev pub IsPossible : List (List Held) → Event Contents → Type 0
  IsPossible sts (Enter i) = i < packets
  IsPossible sts (Leave i) = i < packets
  IsPossible sts (Set k v c) = (k < length sts) × IsSettable (get_or sts k []) (get_or maps k []) v c

  -- what they hold behind it
  abbrev pub held_behind : List (List Held) → Event Contents → List (List Held)
  held_behind sts (Enter i) = sts
  held_behind sts (Leave i) = sts
  held_behind sts (Set k v c) = slice_set sts k (set_in (get_or maps k []) v c (get_or sts k []))

  -- one event after the other
  abbrev pub CanHappen : List (List Held) → List (Event Contents) → Type 0
  CanHappen sts [] = Unit {0}
  CanHappen sts (e ∷ es) = IsPossible sts e × CanHappen (held_behind sts e) es
