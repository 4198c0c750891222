-- A place that a switch may take for a next packet.
use Rattle.std.specs.Prelude.{◌≡◌, ◌≤◌, ℕ, false, Option, Some, None}
use Rattle.p4_tree.specs.Tree.{Program}
use Rattle.p4_machine.specs.Buffers.{Place, IsPlaceFor, is_some_packet}
use Rattle.p4_machine.specs.declared.pass.Pass.{Ghosts}
use Rattle.path_runner.specs.declared.place.Seat.{Seat}

-- it was made for the switch's program, and no packet waits there
abbrev pub IsSpareFor : Program → Place → Type 0
IsSpareFor p x = IsPlaceFor p x × (is_some_packet x.waiting ≡ false)

-- there is one with room for so many bytes of rest
abbrev pub HasRoom : {P Q : Type 0} {g : Ghosts P Q} → Option (Seat P Q g) → (bytes : ℕ) → Type 0
HasRoom None bytes = ⊥
HasRoom (Some s) bytes = bytes ≤ s.room
