-- What a network file says, or its fault: all faults of one kind come before those of the next.
-- Read `Named` before it, and `Wiring` after it.
use Rattle.std.specs.Prelude.{ℕ, ◌-◌, ◌==◌, ◌&&◌, ◌||◌, List, [], ◌∷◌, ◌++◌, length, Bool, nat_lt, if◌then◌else◌, position, Option, Result, Ok, Err, option_map, option_and_then, ⊤}
use Rattle.std.specs.Option.{option_map_or}
use Rattle.std.specs.List.{list_any}
use Rattle.std.specs.Str.{bytes_eq}
use Rattle.serde_json.specs.Data.{Data}
use Rattle.network_run.specs.Network.{Link, port_count}
use Rattle.json_parts.specs.Answers.{◌>>=◌, with_fault}
use Rattle.json_parts.specs.Turns.{in_turn, all_of}
use Rattle.network_file.specs.Shape.{fault_of}
use Rattle.network_file.specs.Named.{NamedLink, link_path, switch_path, file_of}
use Rattle.network_file.specs.declared.fault.NetworkFault.{NetworkFault}
use Rattle.network_file.specs.declared.fault.NetworkFault.TheVariants as fault

-- a network: the names of its switches, whose numbers are their places from 0 on, and its links
pub record Network : Type 0 where
  pub names : List (List ℕ)
  pub links : List Link

-- ---- names

-- a switch's name is none of the earlier ones
abbrev pub with_name : List (List ℕ) → (number : ℕ) → List ℕ → Result (List (List ℕ)) NetworkFault
with_name names number name =
    if list_any (bytes_eq name) names
    then Err (fault.NameTwice (switch_path number))
    else Ok (names ++ name ∷ [])

-- the names, where each is there once
abbrev pub different : List (List ℕ) → Result (List (List ℕ)) NetworkFault
different names = in_turn with_name [] 0 names

-- a switch's number
abbrev pub number_of : (names : List (List ℕ)) → (name : List ℕ) → Option ℕ
number_of names name = position (bytes_eq name) names

-- ---- links

-- the link by the numbers of its switches, where its names are those of switches
abbrev pub joined : (names : List (List ℕ)) → NamedLink → Option Link
joined names l =
    option_and_then
    (λ one. option_map
    (λ other. record { one = one; one_port = l.one_port; other = other; other_port = l.other_port })
    (number_of names l.other))
    (number_of names l.one)

abbrev pub numbered : (names : List (List ℕ)) → (number : ℕ) → NamedLink → Result Link NetworkFault
numbered names number l =
    option_map_or (λ link. Ok link) (joined names l) (Err (fault.NoSuchSwitch (link_path number)))

abbrev pub all_numbered : (names : List (List ℕ)) → List NamedLink → Result (List Link) NetworkFault
all_numbered names links = all_of (numbered names) links

-- ---- ports

-- a switch and a port of it
abbrev pub Port : Type 0
Port = ℕ × ℕ

abbrev pub same_port : Port → Port → Bool
same_port p q = p.0 == q.0 && p.1 == q.1

abbrev pub one_end : Link → Port
one_end l = (l.one, l.one_port)

abbrev pub other_end : Link → Port
other_end l = (l.other, l.other_port)

-- an end of the link is among the ports, or its ends are one port
abbrev pub is_taken : List Port → Link → Bool
is_taken ports l =
    list_any (same_port (one_end l)) ports || list_any (same_port (other_end l)) (ports ++ one_end l ∷ [])

-- the ports of the links so far, with those of this link
abbrev pub with_ports : List Port → (number : ℕ) → Link → Result (List Port) NetworkFault
with_ports ports number l =
    if is_taken ports l
    then Err (fault.PortTwice (link_path number))
    else Ok (ports ++ (one_end l ∷ other_end l ∷ []))

-- the ports of all links, where each is at one end alone
abbrev pub free : List Link → Result (List Port) NetworkFault
free links = in_turn with_ports [] 0 links

-- the greatest number of a port
abbrev pub last_port : ℕ
last_port = port_count - 1

abbrev pub is_high : Link → Bool
is_high l = nat_lt last_port l.one_port || nat_lt last_port l.other_port

abbrev pub low : ⊤ → (number : ℕ) → Link → Result ⊤ NetworkFault
low before number l = if is_high l then Err (fault.BadPort (link_path number)) else Ok before

-- no port is over 510
abbrev pub in_range : List Link → Result ⊤ NetworkFault
in_range links = in_turn low tt 0 links

-- ---- the network

-- there are 1 to 256 switches
abbrev pub sized : List (List ℕ) → Result ⊤ NetworkFault
sized names = if length names == 0 || nat_lt 256 (length names) then Err fault.Limit else Ok tt

-- the network that a file's value says, or its fault
unfoldable pub network_of : Data → Result Network NetworkFault
network_of d = do
  file ← with_fault fault_of (file_of d)
  names ← different file.switches
  links ← all_numbered names file.links
  ports ← free links
  every ← in_range links
  size ← sized names
  Ok (record { names = names; links = links })
