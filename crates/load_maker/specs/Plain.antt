-- Values whose texts are known and read back.
use Rattle.std.specs.Prelude.{◌≡◌, ◌≤◌, false}
use Rattle.serde_json.specs.Data.{Data, depth}
use Rattle.serde_json.specs.Read.{max_depth}
use Rattle.serde_json.specs.Written.{has_float}

-- there is no float in it, and it is not nested deeper than readers go
pub record IsPlain (d : Data) : Type 0 where
  pub whole : has_float d ≡ false
  pub shallow : depth d ≤ max_depth
