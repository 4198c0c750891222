-- The words in which the small laws of the run are stated.
use Rattle.std.specs.Prelude.{ℕ, ◌+◌, ◌<◌, List, map}
use Rattle.network_run.specs.Network.{Place, Flying, Waiting, Over, Net, times}

-- the packet is at its end
abbrev pub IsOver : {Q : Type 0} → Place Q → Type 0
IsOver (Flying s port frame n) = ⊥
IsOver (Waiting s port q n) = ⊥
IsOver Over = Unit {0}

-- the packet is not queued
abbrev pub IsMoving : {Q : Type 0} → Place Q → Type 0
IsMoving (Flying s port frame n) = Unit {0}
IsMoving (Waiting s port q n) = ⊥
IsMoving Over = Unit {0}

-- no packet is queued
abbrev pub NoneWaits : {S Q C : Type 0} → Net S Q C → Type 0
NoneWaits w = (i : ℕ) → IsMoving (w.packets i)

-- the packet has passed fewer switches than the limit, or is at its end
abbrev pub HasPassedFewer : {Q : Type 0} → (hops : ℕ) → Place Q → Type 0
HasPassedFewer hops (Flying s port frame n) = n < hops
HasPassedFewer hops (Waiting s port q n) = n < hops
HasPassedFewer hops Over = Unit {0}

-- no packet has passed as many switches as the limit, unless it is at its end
abbrev pub AllHavePassedFewer : {S Q C : Type 0} → (hops : ℕ) → Net S Q C → Type 0
AllHavePassedFewer hops w = (i : ℕ) → HasPassedFewer hops (w.packets i)

-- how often packet i has ended so far: it left by an edge port, or was dropped, or was lost
abbrev pub times_ended : {S Q C : Type 0} → (i : ℕ) → Net S Q C → ℕ
times_ended i w = times i (map (λ x. x.packet) w.edges) + times i w.dropped + times i w.lost
