-- The values of the JSON files.
use Rattle.std.specs.Prelude.{ℕ, zero, suc, ◌+◌, ◌*◌, ◌%◌, List, [], ◌∷◌, ◌++◌, map, codes}
use Rattle.std.specs.List.{flat_map}
use Rattle.serde_json.specs.Data.{Data, number, unsigned, string, array, object, Members, no_members, member, put}
use Rattle.serde_json.specs.View.{items_of}
use Rattle.load_maker.specs.Numbers.{numbers}
use Rattle.load_maker.specs.Fabric.{leaf_name, spine_name, address_text, hardware_text, host_at, port_to_spine, port_to_leaf, host_route, leaf_route, others}
use Rattle.load_maker.specs.Captures.{capture_name}
use Rattle.load_maker.specs.declared.fabric.Route.{Route}

abbrev pub whole : ℕ → Data
whole n = number (unsigned n)

abbrev pub list_of : List Data → Data
list_of ds = array (items_of ds)

-- a member for each number below n, beside those that there are
unfoldable pub put_all : (name : ℕ → List ℕ) → (value : ℕ → Data) → ℕ → Members → Members
put_all name value zero ms = ms
put_all name value (suc n) ms = put (name n) (value n) (put_all name value n ms)

-- ---- the network

-- leaf, port, spine, port
abbrev pub link : (leaf spine : ℕ) → Data
link i j = list_of (string (leaf_name i) ∷ whole (port_to_spine j) ∷ string (spine_name j) ∷ whole (port_to_leaf i) ∷ [])

unfoldable pub links : List Data
links = flat_map (λ i. map (link i) (numbers 2)) (numbers 4)

unfoldable pub switches : List Data
switches = map (λ i. string (leaf_name i)) (numbers 4) ++ map (λ j. string (spine_name j)) (numbers 2)

unfoldable pub network_data : Data
network_data = object (member (codes "links") (list_of links) (member (codes "switches") (list_of switches) no_members))

-- ---- the entries

abbrev pub route_args : Route → Data
route_args r = list_of (string (hardware_text r.hardware) ∷ whole r.port ∷ [])

abbrev pub route_key : Route → Data
route_key r = list_of (list_of (string (address_text r.address) ∷ whole r.length ∷ []) ∷ [])

abbrev pub route_entry : Route → Data
route_entry r = object (member (codes "action") (string (codes "ipv4_forward"))
    (member (codes "args") (route_args r) (member (codes "key") (route_key r) no_members)))

-- those of a leaf: its own hosts, and then the other leaves, by either spine
unfoldable pub leaf_entries : ℕ → List Data
leaf_entries i = map (λ m. route_entry (host_route (host_at (4 * i + m)))) (numbers 4)
    ++ map (λ m. route_entry (leaf_route m (port_to_spine (m % 2)))) (others i)

-- those of a spine
unfoldable pub spine_entries : List Data
spine_entries = map (λ m. route_entry (leaf_route m (port_to_leaf m))) (numbers 4)

-- the one table of a switch, which has these entries
abbrev pub tables : List Data → Data
tables es = object (member (codes "MyIngress.ipv4_lpm") (object (member (codes "entries") (list_of es) no_members)) no_members)

unfoldable pub entries_data : Data
entries_data = object (put_all spine_name (λ _. tables spine_entries) 2 (put_all leaf_name (λ i. tables (leaf_entries i)) 4 no_members))

-- ---- the contents of control variables

-- a port and its tenant
abbrev pub tenant : (port tenant : ℕ) → Data
tenant port t = list_of (whole port ∷ whole t ∷ [])

abbrev pub leaf_contents : Data
leaf_contents = object (member (codes "tenants") (list_of (tenant 1 1 ∷ tenant 2 1 ∷ tenant 3 2 ∷ tenant 4 2 ∷ [])) no_members)

unfoldable pub control_data : Data
control_data = object (put_all leaf_name (λ _. leaf_contents) 4 no_members)

-- ---- the case

-- the name of a file, by its ending
abbrev pub file_name : (out ending : List ℕ) → List ℕ
file_name out ending = out ++ (codes "." ++ ending)

-- a capture, and where its frames enter
abbrev pub capture_place : (out : List ℕ) → (host : ℕ) → Data
capture_place out k = object (member (codes "file") (string (capture_name out k))
    (member (codes "port") (whole (host_at k).port) (member (codes "switch") (string (leaf_name (host_at k).leaf)) no_members)))

unfoldable pub capture_places : (out : List ℕ) → List Data
capture_places out = map (capture_place out) (numbers 16)

unfoldable pub case_data : (out : List ℕ) → Data
case_data out = object (member (codes "captures") (list_of (capture_places out))
    (member (codes "control") (string (file_name out (codes "control.json")))
    (member (codes "entries") (string (file_name out (codes "entries.json")))
    (member (codes "network") (string (file_name out (codes "net.json")))
    (member (codes "program") (string (file_name out (codes "basic.p4")))
    (member (codes "property") (string (file_name out (codes "path.indus"))) no_members))))))
