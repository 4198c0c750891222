-- What variables hold keeps to their declarations: words of the declared width, one in a scalar, and no more than
-- a list has room for. Read `Meaning` before it.
use Rattle.std.specs.Prelude.{◌≡◌, ℕ, ◌^◌, ◌<◌, ◌≤◌, List, length, Some}
use Rattle.std.specs.List.{All}
use Rattle.bit_values.specs.Bits.{Word}
use Rattle.bit_values.specs.Widths.{sound_width}
use Rattle.indus_tree.specs.Tree.{Shape, one, list, set, dict, Decl}
use Rattle.network_run.specs.PathMeaning.{Doing}
use Rattle.indus_tree.specs.State.{Held, lookup, shape_width}
use Rattle.indus_tree.specs.declared.tree.DeclKind.TheVariants.{Tele, Sensor}

-- a word of the width w
pub record HasWidth (w : ℕ) (a : Word) : Type 0 where
  pub width : a.width ≡ sound_width w
  pub in_range : a.value < 2 ^ sound_width w

-- how many words a packet's variable holds: a scalar one, a list at most its size
abbrev pub IsTeleCount : Shape → ℕ → Type 0
IsTeleCount (one t) n = n ≡ 1
IsTeleCount (list t size) n = n ≤ size
IsTeleCount (set ks) n = n ≡ 0
IsTeleCount (dict ks t) n = n ≡ 0

-- how many words a sensor holds: a scalar one, an array a cell for each place
abbrev pub IsSensorCount : Shape → ℕ → Type 0
IsSensorCount (one t) n = n ≡ 1
IsSensorCount (list t size) n = n ≡ size
IsSensorCount (set ks) n = n ≡ 0
IsSensorCount (dict ks t) n = n ≡ 0

-- the words of a variable of a shape
pub record IsHeld (IsCount : Shape → ℕ → Type 0) (s : Shape) (ws : List Word) : Type 0 where
  pub words : All (HasWidth (shape_width s)) ws
  pub count : IsCount s (length ws)

-- each variable of the packet and each sensor of the switch holds words of its declaration
pub record AreShaped (ds : List Decl) (d : Doing Held Held) : Type 0 where
  pub tele : (x : List ℕ) (v : Decl) → lookup ds x ≡ Some v → v.kind ≡ Tele → IsHeld IsTeleCount v.shape (d.tele x)
  pub sensors : (x : List ℕ) (v : Decl) → lookup ds x ≡ Some v → v.kind ≡ Sensor → IsHeld IsSensorCount v.shape (d.sensors x)
