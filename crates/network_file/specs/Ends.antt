-- Both ends of each link, as a network keeps them: each port with the port at the other end, the two
-- ends of a link one behind the other.
use Rattle.std.specs.Prelude.{◌≡◌, ◌≢◌, ◌<◌, ◌≤◌, ℕ, List, [], ◌∷◌, length, AllPairs}
use Rattle.std.specs.List.{flat_map}
use Rattle.network_run.specs.Network.{Link, IsWiring}
use Rattle.network_file.specs.Network.{Port, one_end, other_end}
use Rattle.network_file.specs.Wiring.{wiring_of}

abbrev pub both_ends : Link → List (Port × Port)
both_ends l = (one_end l, other_end l) ∷ (other_end l, one_end l) ∷ []

abbrev pub ends_of : List Link → List (Port × Port)
ends_of links = flat_map both_ends links

-- the links whose ends they are
abbrev pub links_in : List (Port × Port) → List Link
links_in [] = []
links_in (e ∷ []) = []
links_in (e ∷ f ∷ es) =
    record { one = e.0.0; one_port = e.0.1; other = e.1.0; other_port = e.1.1 } ∷ links_in es

-- there are 1 to 256 switches with different names, and the ends are those of links between ports
-- that are there
pub record IsNetwork (names : List (List ℕ)) (ends : List (Port × Port)) : Type 0 where
  pub some : 0 < length names
  pub few : length names ≤ 256
  pub different : AllPairs (λ one other. one ≢ other) names
  pub paired : ends ≡ ends_of (links_in ends)
  pub wiring : IsWiring (wiring_of (record { names = names; links = links_in ends }))
