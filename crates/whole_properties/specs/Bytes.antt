-- The telemetry of the monitor is that of the layout. Read `Asked` before it.
use Rattle.std.specs.Prelude.{◌≡◌}
use Rattle.indus_tree.specs.State.{Held}
use Rattle.monitor_laws.specs.Telemetry.{tele_bytes as linked_bytes}
use Rattle.tele_layout.specs.Telemetry.{first_byte, tele_bytes}
use Rattle.whole_properties.specs.Whole.{Given, words, IsFitTele}
use Rattle.whole_properties.specs.Asked.{IsGiven}

-- the bytes in front of a frame are the property's
abbrev pub TelemetryIsLinked : Type 0
TelemetryIsLinked =
    (g : Given) → IsGiven g → (t : Held) → IsFitTele g t
    → tele_bytes g.property t ≡ linked_bytes (first_byte g.property.edition) (words g t)
