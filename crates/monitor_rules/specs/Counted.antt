-- What the trees of a property take of a switch is what the property's sums say. Read `Rules` and `Told` before it, and `Sums`
-- of `indus_types`.
use Rattle.std.specs.Prelude.{ℕ, ◌/◌, ◌≤◌, List}
use Rattle.indus_types.specs.Sums.{property_bits, property_weight}
use Rattle.tele_layout.specs.Telemetry.{whole_bytes}
use Rattle.p4_meaning.specs.Scope.{Roots}
use Rattle.p4_scopes.specs.Scopes.{Scope}
use Rattle.p4_rules.specs.Limits.{tops_cells}
use Rattle.linked_rules.specs.Passes.{Passes}
use Rattle.whole_properties.specs.Whole.{Given}
use Rattle.whole_properties.specs.Asked.{IsGiven}
use Rattle.monitor_trees.specs.Trees.{trees_of}

-- the telemetry's header, of so many bits, and the cells of the registers
pub record AreCounted (g : Given) (r q : Roots) (bits : ℕ) : Type 0 where
  pub bytes : bits / 8 ≤ whole_bytes (property_bits g.property)
  pub cells : tops_cells (trees_of g r q).tops ≤ property_weight g.property

-- whatever scopes and structs they stand in
abbrev pub TreesAreCounted : Type 0
TreesAreCounted =
    (g : Given) → IsGiven g → (S : Scope) (H M : List ℕ) (r q : Roots) → (p : Passes (trees_of g r q) S H M r q) →
    AreCounted g r q p.bits
