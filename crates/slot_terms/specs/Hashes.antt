-- A number of each path, by which nearly all other paths are told apart: FNV-1a of 64 bits.
use Rattle.std.specs.Prelude.{ℕ, ◌*◌, ◌%◌, ◌^◌, List, [], ◌∷◌, bit_xor}
use Rattle.slot_terms.specs.declared.places.Place.{Place}

-- behind one byte more
abbrev pub byte_hash : (hash byte : ℕ) → ℕ
byte_hash h b = (bit_xor h b * 1099511628211) % 2 ^ 64

-- behind the bytes of a name
abbrev pub name_hash : (hash : ℕ) → List ℕ → ℕ
name_hash h [] = h
name_hash h (b ∷ bs) = name_hash (byte_hash h b) bs

-- behind the names of a path, each of which has a point before it
abbrev pub names_hash : (hash : ℕ) → List (List ℕ) → ℕ
names_hash h [] = h
names_hash h (x ∷ xs) = names_hash (name_hash (byte_hash h 46) x) xs

abbrev pub path_hash : List (List ℕ) → ℕ
path_hash p = names_hash 14695981039346656037 p

-- of the path of a place
abbrev pub hash_of : Place → ℕ
hash_of p = path_hash p.path.items
