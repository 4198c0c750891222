-- Registers with their cells, as rows.
use Rattle.std.specs.Prelude.{ℕ, List}
use Rattle.bit_values.specs.Bits.{Word}
use Rattle.bit_values.specs.Widths.{sound_width}
use Rattle.p4_meaning.specs.Parts.{Cells}
use Rattle.p4_meaning.specs.Pass.{zero_cells}

-- a register with its cells at the start
abbrev pub row_at_start : Cells → List ℕ × List Word
row_at_start c = (c.name, zero_cells (sound_width c.width) c.count)
