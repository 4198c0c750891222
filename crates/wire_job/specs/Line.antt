-- The network of `wire`: three switches in a line. Read `Network` of wire_program before it, and `Named` and `Network` of
-- network_file.
use Rattle.std.specs.Prelude.{ℕ, List, [], ◌∷◌, codes}
use Rattle.serde_json.specs.Data.{Data, number, unsigned, string, array, object, no_items, item, no_members, member}
use Rattle.network_file.specs.Network.{Network}
use Rattle.wire_program.specs.Network.{wire_line}

-- the switches are called s1, s2 and s3
abbrev pub wire_network : Network
wire_network = record { names = codes "s1" ∷ codes "s2" ∷ codes "s3" ∷ []; links = wire_line.links }

-- ---- its file

abbrev pub link_data : (one : List ℕ) (one_port : ℕ) (other : List ℕ) (other_port : ℕ) → Data
link_data a m b n = array (item (string a) (item (number (unsigned m)) (item (string b) (item (number (unsigned n)) no_items))))

abbrev pub line_data : Data
line_data =
    object
    (member (codes "links") (array (item (link_data (codes "s1") 2 (codes "s2") 1) (item (link_data (codes "s2") 2 (codes "s3") 1) no_items)))
    (member (codes "switches") (array (item (string (codes "s1")) (item (string (codes "s2")) (item (string (codes "s3")) no_items))))
    no_members))
