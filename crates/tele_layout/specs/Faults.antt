-- Why a property has no layout.
use Rattle.std.specs.Prelude.{◌≡◌, ℕ, ◌<◌, ◌≤◌}
use Rattle.indus_tree.specs.Tree.{Property}
use Rattle.indus_types.specs.Sums.{cut_wide, property_bits}
use Rattle.tele_layout.specs.Telemetry.{whole_bytes}
use Rattle.tele_layout.specs.declared.fault.LayoutFault.{LayoutFault}
use Rattle.tele_layout.specs.declared.fault.LayoutFault.TheVariants.{RoomShort, NoMemory}

-- the telemetry takes more bytes than there is room for. The answer names both numbers, the need being reckoned from the
-- bits as they are told, which are cut at the greatest number. Memory is wanted only where there is room enough
abbrev pub HasCause : Property → (room : ℕ) → LayoutFault → Type 0
HasCause p room (RoomShort need given) = (room < whole_bytes (property_bits p)) × (need ≡ whole_bytes (cut_wide (property_bits p))) × (given ≡ room)
HasCause p room NoMemory = whole_bytes (property_bits p) ≤ room
