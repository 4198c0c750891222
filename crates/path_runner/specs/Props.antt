-- That the maps are maps of the switches' tables is a fact: it has one proof at most.
use Rattle.std.proofs.Common.{List, [], ◌∷◌}
use Rattle.std.proofs.Props.{props}
use Rattle.p4_meaning.specs.Parts.{Parts}
use Rattle.p4_tables.specs.State.{Held}
use Rattle.control_maps.specs.Numbers.{Numbered, IsMapOf}
use Rattle.path_runner.specs.Nets.{Switch}
use Rattle.path_runner.specs.Conditions.{AreMapped}

map_prop : (f : Parts) (st : List Held) (ns : List Numbered) → IsProp (IsMapOf f st ns)
map_prop f st [] = hlevel props
map_prop f st (n ∷ ns) = let rest = map_prop f st ns in hlevel (rest, props)

pub mapped_prop : (xs : List Switch) (maps : List (List Numbered)) → IsProp (AreMapped xs maps)
mapped_prop xs maps = hlevel (map_prop, props)
