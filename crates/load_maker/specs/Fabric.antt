-- The switches and the hosts: four leaves, each with four hosts, and two spines, each linked to each leaf.
use Rattle.std.specs.Prelude.{ℕ, ◌+◌, ◌/◌, ◌%◌, ◌==◌, List, [], ◌∷◌, ◌++◌, false, not, codes}
use Rattle.std.specs.Fmt.{decimal, digit_glyph}
use Rattle.std.specs.List.{filter}
use Rattle.load_maker.specs.Numbers.{numbers}
use Rattle.load_maker.specs.declared.fabric.Address.{Address}
use Rattle.load_maker.specs.declared.fabric.Hardware.{Hardware}
use Rattle.load_maker.specs.declared.fabric.Host.{Host}
use Rattle.load_maker.specs.declared.fabric.Route.{Route}

-- ---- names

abbrev pub leaf_name : ℕ → List ℕ
leaf_name i = codes "l" ++ decimal i

abbrev pub spine_name : ℕ → List ℕ
spine_name j = codes "p" ++ decimal j

-- ---- addresses

-- 10.0, the number of the leaf, and a last number
abbrev pub address_bytes : Address → List ℕ
address_bytes a = 10 ∷ 0 ∷ a.leaf ∷ a.last ∷ []

abbrev pub address_text : Address → List ℕ
address_text a = codes "10.0." ++ (decimal a.leaf ++ (codes "." ++ decimal a.last))

-- 02:00:00:00 and two bytes more
abbrev pub hardware_bytes : Hardware → List ℕ
hardware_bytes h = 2 ∷ 0 ∷ 0 ∷ 0 ∷ h.high ∷ h.low ∷ []

-- a byte as two hexadecimal digits
abbrev pub hex_pair : ℕ → List ℕ
hex_pair b = digit_glyph false (b / 16) ∷ digit_glyph false (b % 16) ∷ []

abbrev pub hardware_text : Hardware → List ℕ
hardware_text h = codes "02:00:00:00:" ++ (hex_pair h.high ++ (codes ":" ++ hex_pair h.low))

-- ---- hosts

-- the host of a number: its leaf, and the port of the leaf at which it is
abbrev pub host_at : ℕ → Host
host_at k = record {
  number = k;
  leaf = k / 4;
  port = 1 + k % 4;
  address = record { leaf = k / 4; last = 1 + k % 4 };
  hardware = record { high = 0; low = 1 + k };
}

-- ---- links

-- the port of a leaf that leads to a spine, and the port of a spine that leads to a leaf
abbrev pub port_to_spine : ℕ → ℕ
port_to_spine j = 11 + j

abbrev pub port_to_leaf : ℕ → ℕ
port_to_leaf i = 1 + i

-- ---- routes

-- to a host, at its own leaf
abbrev pub host_route : Host → Route
host_route h = record { address = h.address; length = 32; hardware = h.hardware; port = h.port }

-- to all hosts of a leaf, by a port of another switch
abbrev pub leaf_route : (leaf port : ℕ) → Route
leaf_route m port = record { address = record { leaf = m; last = 0 }; length = 24; hardware = record { high = 1; low = 0 }; port = port }

-- the leaves but one
abbrev pub others : ℕ → List ℕ
others i = filter (λ m. not (m == i)) (numbers 4)
