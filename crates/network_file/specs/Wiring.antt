-- A network as the network's run sees it, and the links at a port. Read `Network` before it.
use Rattle.std.specs.Prelude.{◌≡◌, ◌⊎◌, ◌++◌, ℕ, List, [], ◌∷◌, length, All, nat_eq, if◌then◌else◌}
use Rattle.network_run.specs.Network.{Link, Wiring}
use Rattle.network_file.specs.Network.{Network}

-- the same switches and links
abbrev pub wiring_of : Network → Wiring
wiring_of n = record { switches = length n.names; links = n.links }

-- one end of the link is this port of this switch
abbrev pub IsAt : (switch port : ℕ) → Link → Type 0
IsAt switch port l =
    ((switch ≡ l.one) × (port ≡ l.one_port)) ⊎ ((switch ≡ l.other) × (port ≡ l.other_port))

-- no link has this port
abbrev pub IsUnlinked : Network → (switch port : ℕ) → Type 0
IsUnlinked n switch port = All (λ l. ¬ IsAt switch port l) n.links

-- the ports of a switch that have a link, in the order of the links
abbrev pub linked_ports : List Link → (switch : ℕ) → List ℕ
linked_ports [] s = []
linked_ports (l ∷ ls) s =
    (if nat_eq s l.one then l.one_port ∷ [] else []) ++ ((if nat_eq s l.other then l.other_port ∷ [] else []) ++ linked_ports ls s)
