-- The cells of registers and their lines. Read `Texts` of report_writer before it.
use Rattle.std.specs.Prelude.{ℕ, zero, suc, ◌+◌, List, [], ◌∷◌, ◌++◌, Bool, nat_eq, if◌then◌else◌}
use Rattle.bit_values.specs.Bits.{Word}
use Rattle.lex_text.specs.Names.{same_text}
use Rattle.p4_meaning.specs.Parts.{Cells}
use Rattle.p4_meaning.specs.Pass.{Registers}
use Rattle.p4_meaning.specs.Statements.{cell_at}
use Rattle.report_writer.specs.Texts.{Cell}

-- the cell of an index, where it is not 0
abbrev pub cell_if : (switch register : List ℕ) → (index value : ℕ) → List Cell
cell_if s r i v = if nat_eq v 0 then [] else record { switch = s; register = r; index = i; value = v } ∷ []

-- so many cells of a register of this name, from an index on
abbrev pub cells_from : (switch register : List ℕ) → List Word → (index count : ℕ) → List Cell
cells_from s r cells i zero = []
cells_from s r cells i (suc n) = cell_if s r i (cell_at cells i).value ++ cells_from s r cells (i + 1) n

-- those of a register, where it is meant
abbrev pub register_cells : (IsMeant : List ℕ → Bool) → (switch : List ℕ) → Registers → (name : List ℕ) → Cells → List Cell
register_cells IsMeant s cells x r = if IsMeant x then cells_from s x (cells r.name) 0 r.count else []

-- those of registers with these names, as far as they are meant
abbrev pub registers_cells : (IsMeant : List ℕ → Bool) → (switch : List ℕ) → Registers → (names : List (List ℕ)) → List Cells → List Cell
registers_cells IsMeant s cells [] rs = []
registers_cells IsMeant s cells (x ∷ xs) [] = []
registers_cells IsMeant s cells (x ∷ xs) (r ∷ rs) = register_cells IsMeant s cells x r ++ registers_cells IsMeant s cells xs rs

-- the number in the first cell of the register of a full name; 0 where none of these registers has it
abbrev pub first_cell : List Cells → Registers → (name : List ℕ) → ℕ
first_cell [] cells x = 0
first_cell (r ∷ rs) cells x = if same_text r.name x then (cell_at (cells r.name) 0).value else first_cell rs cells x
