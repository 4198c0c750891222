-- What holds of the places of packets at every moment. Read `Nets` and `Places` before it.
use Rattle.std.specs.Prelude.{◌≡◌, ℕ, ◌+◌, List, [], ◌∷◌, length, slice_get, Bool, true, ◌&&◌, nat_lt, nat_le, Some}
use Rattle.p4_tree.specs.Tree.{Program}
use Rattle.p4_meaning.specs.Pass.{Queued}
use Rattle.p4_machine.specs.Buffers.{IsPlaceFor}
use Rattle.p4_machine.specs.declared.pass.Pass.{Ghosts}
use Rattle.network_run.specs.Network.{Place, Flying, Waiting, Over}
use Rattle.network_run.specs.NetworkRun.{Limits}
use Rattle.path_runner.specs.declared.place.Parked.{Parked}
use Rattle.path_runner.specs.declared.place.Place as code_place
use Rattle.path_runner.specs.declared.place.Place.TheVariants as code

-- the packet is at one of so many switches, has passed fewer switches than it may, and links carry its frame; or it is at
-- its end
abbrev pub is_within : (switches : ℕ) → Limits → Place Queued → Bool
is_within count l (Flying s port frame n) = nat_lt s count && (nat_lt n l.hops && nat_le (length frame) l.link)
is_within count l (Waiting s port q n) = nat_lt s count && nat_lt n l.hops
is_within count l Over = true

-- how many packets are not at their ends
abbrev pub going_one : Place Queued → ℕ
going_one (Flying s port frame n) = 1
going_one (Waiting s port q n) = 1
going_one Over = 0

abbrev pub going_on : List (Place Queued) → ℕ
going_on [] = 0
going_on (p ∷ ps) = going_one p + going_on ps

-- the packet does not wait between halves
abbrev pub IsNotWaiting : Place Queued → Type 0
IsNotWaiting (Flying s port frame n) = Unit {0}
IsNotWaiting (Waiting s port q n) = ⊥
IsNotWaiting Over = Unit {0}

-- ---- places of the program's own

-- a packet that waits does so at this switch, in a place that was made for its program
abbrev pub IsMadeAt : {P Q : Type 0} {g : Ghosts P Q} → (switch : ℕ) → Program → code_place.Place P Q g → Type 0
IsMadeAt {P} {Q} {g} s p (code.Waiting k) = (k.switch ≡ s) × IsPlaceFor p (g.place k.queued.place.value)
IsMadeAt s p (code.Flying f) = Unit {0}
IsMadeAt s p code.Over = Unit {0}

-- each packet that waits has a place that was made for the program of its switch
abbrev pub AreMade : {P Q : Type 0} {g : Ghosts P Q} → (programs : List Program) → List (code_place.Place P Q g) → Type 0
AreMade {P} {Q} {g} programs places =
    (i : ℕ) (k : Parked P Q g) (p : Program) → slice_get places i ≡ Some (code.Waiting k) → slice_get programs k.switch ≡ Some p → IsPlaceFor p (g.place k.queued.place.value)
