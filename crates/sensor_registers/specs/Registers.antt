-- The register in which a switch keeps a sensor, and what its cells hold.
use Rattle.std.specs.Prelude.{ℕ, List, ◌++◌, codes}
use Rattle.bit_values.specs.Bits.{Word, word}
use Rattle.linkage.specs.Linkage.{xor_with}
use Rattle.indus_tree.specs.Tree.{Shape, one, list, set, dict, Decl}
use Rattle.indus_tree.specs.declared.tree.Ty.{Ty}
use Rattle.indus_tree.specs.declared.tree.Ty.TheVariants as ty
use Rattle.p4_tree.specs.declared.statement.PTy.{PTy}
use Rattle.p4_tree.specs.declared.statement.PTy.TheVariants as type
use Rattle.p4_tree.specs.declared.program.Register.{Register}

-- a truth value is one bit
abbrev pub cell_type : Ty → PTy
cell_type (ty.Bit w) = type.Bit w
cell_type ty.Bool = type.Bit 1

-- the type of the cells of what has a shape. A sensor is one value or an array
abbrev pub cells_type : Shape → PTy
cells_type (one t) = cell_type t
cells_type (list t n) = cell_type t
cells_type (set ks) = type.Bit 1
cells_type (dict ks t) = type.Bit 1

abbrev pub cell_count : Shape → ℕ
cell_count (one t) = 1
cell_count (list t n) = n
cell_count (set ks) = 0
cell_count (dict ks t) = 0

-- the register of a sensor
abbrev pub register_of : Decl → Register
register_of d = record { at = 0; ty = cells_type d.shape; count = cell_count d.shape; name = codes "hydra_s_" ++ d.name }

-- what a cell holds where the sensor has this value and began with `start`: their xor, as linkage has it
abbrev pub cell_value : (start value : Word) → Word
cell_value start value = word value.width (xor_with start.value value.value)
