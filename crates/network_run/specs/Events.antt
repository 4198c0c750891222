-- The events of a run: half-hops, whole hops and updates, and the closing phase. Read `Network` before it
-- and `NetworkRun` after it.
use Rattle.std.specs.Prelude.{ℕ, zero, suc, ◌+◌, List, [], ◌∷◌, ◌++◌}

-- the step of a run: a packet's entry half, a packet's exit half, or new contents of a control
-- variable
pub data Event (C : Type 0) : Type 0 where
  Enter : (packet : ℕ) → Event C
  Leave : (packet : ℕ) → Event C
  Set : (switch variable : ℕ) → C → Event C

-- the step of a run over whole hops
pub data WholeEvent (C : Type 0) : Type 0 where
  Hop : (packet : ℕ) → WholeEvent C
  Update : (switch variable : ℕ) → C → WholeEvent C

-- a whole hop is an entry half and directly after it an exit half
abbrev pub halves_of : {C : Type 0} → List (WholeEvent C) → List (Event C)
halves_of [] = []
halves_of (Hop i ∷ es) = Enter i ∷ Leave i ∷ halves_of es
halves_of (Update s v c ∷ es) = Set s v c ∷ halves_of es

-- packet i goes on to its end, through at most this many further switches
abbrev pub to_its_end : {C : Type 0} → (i hops : ℕ) → List (Event C)
to_its_end i zero = Leave i ∷ []
to_its_end i (suc n) = Leave i ∷ Enter i ∷ to_its_end i n

-- the closing phase: packets i, i + 1 and so on, so many of them, each go on to their ends
abbrev pub closing : {C : Type 0} → (hops i count : ℕ) → List (Event C)
closing hops i zero = []
closing hops i (suc n) = to_its_end i hops ++ closing hops (i + 1) n
