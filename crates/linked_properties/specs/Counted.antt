-- The telemetry that a linked program adds to a frame has the bytes that the sums of the property say. Read `Whole` of
-- `whole_properties` before it.
use Rattle.std.specs.Prelude.{◌≡◌, suc}
use Rattle.indus_types.specs.Sums.{property_bits}
use Rattle.tele_layout.specs.Telemetry.{whole_bytes}
use Rattle.whole_properties.specs.Whole.{Given, lower_monitor}

abbrev pub RoomIsCounted : Type 0
RoomIsCounted = (g : Given) → suc (lower_monitor g).room ≡ whole_bytes (property_bits g.property)
