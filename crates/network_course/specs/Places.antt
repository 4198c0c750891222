-- Where the frames of a case's captures enter a network.
use Rattle.std.specs.Prelude.{ℕ, List, Bool, not, ◌||◌, is_none, nat_lt, if◌then◌else◌, Option, Result, Ok, Err}
use Rattle.std.specs.Option.{option_map_or}
use Rattle.network_run.specs.Network.{at_edge}
use Rattle.json_parts.specs.Turns.{all_of}
use Rattle.network_file.specs.Network.{Network, Port, number_of, last_port}
use Rattle.network_file.specs.Wiring.{wiring_of}
use Rattle.case_file.specs.Case.{Capture, capture_path}
use Rattle.network_course.specs.declared.places.PlaceFault.{PlaceFault}
use Rattle.network_course.specs.declared.places.PlaceFault.TheVariants.{NoSuchSwitch, LinkedPort}

-- frames enter by ports without a link alone
abbrev pub edge_port : Network → (number switch port : ℕ) → Result Port PlaceFault
edge_port n i switch port =
    if nat_lt last_port port || not (at_edge (wiring_of n) switch port)
    then Err (LinkedPort (capture_path i))
    else Ok (switch, port)

-- the switch and the port of a capture
unfoldable pub place_at : Network → (number : ℕ) → Capture → Result Port PlaceFault
place_at n i c = option_map_or (λ switch. edge_port n i switch c.port) (number_of n.names c.switch) (Err (NoSuchSwitch (capture_path i)))

-- those of all captures, which are tested one after the other, each its switch and then its port
abbrev pub places_of : Network → List Capture → Result (List Port) PlaceFault
places_of n cs = all_of (place_at n) cs
