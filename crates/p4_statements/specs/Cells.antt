-- Registers with their cells, as the machine keeps them.
use Rattle.std.specs.Prelude.{ℕ, suc, List, [], ◌∷◌, map, if◌then◌else◌}
use Rattle.bit_values.specs.Bits.{Word}
use Rattle.lex_text.specs.Names.{same_text}

-- a list of registers with their cells, as the machine keeps it
abbrev pub Rows : Type 0
Rows = List (List ℕ × List Word)

-- their names
abbrev pub names_in : Rows → List (List ℕ)
names_in es = map (λ e. e.0) es

-- the cells of the first register of a name
abbrev pub cells_in : Rows → List ℕ → List Word
cells_in [] x = []
cells_in (e ∷ es) x = if same_text e.0 x then e.1 else cells_in es x

-- how many registers stand before the first of a name
abbrev pub place_in : Rows → List ℕ → ℕ
place_in [] x = 0
place_in (e ∷ es) x = if same_text e.0 x then 0 else suc (place_in es x)
