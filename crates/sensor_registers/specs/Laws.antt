-- Cells are read back. Read `Registers` before it.
use Rattle.std.specs.Prelude.{◌≡◌}
use Rattle.bit_values.specs.Bits.{Word, IsWord, word}
use Rattle.sensor_registers.specs.Registers.{cell_value}

pub record CellsAreReadBack : Type 0 where
  -- the value of what a cell holds is the sensor's
  pub twice : (start value : Word) → cell_value start (cell_value start value) ≡ value
  -- a cell that is 0 holds the initial value
  pub fresh : (start : Word) → cell_value start (word start.width 0) ≡ start
  -- a cell holds a word of the sensor's width
  pub words : (start value : Word) → start.width ≡ value.width → IsWord start → IsWord value → IsWord (cell_value start value)
