-- What a map in memory holds under a name.
use Rattle.std.specs.Prelude.{◌≡◌, ◌≢◌, ℕ, List, Some}
use Rattle.std.specs.Option.{option_map}
use Rattle.std.specs.BTreeMap.{BTreeMap, get_by_text}
use Rattle.std.specs.declared.string.String.{String}
use Rattle.std.specs.declared.vec.Vec.{Vec}
use Rattle.std.specs.declared.alloc.Global.{Global}
use Rattle.outside.specs.Files.{Files}

-- the map as files
abbrev pub held_in : BTreeMap (String Global) (Vec ℕ Global) → Files
held_in map name = option_map (λ b. b.items) (get_by_text map name)

-- The name has these bytes, and each other name has what it had.
pub record HoldsAlso (old new : Files) (name bytes : List ℕ) : Type 0 where
  pub here : new name ≡ Some bytes
  pub others : (other : List ℕ) → other ≢ name → new other ≡ old other

-- each name has what it had
abbrev pub IsSameHeld : Files → Files → Type 0
IsSameHeld old new = (name : List ℕ) → new name ≡ old name
