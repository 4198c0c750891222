-- The bytes in which the variables of a packet travel on links. Read `State` of `indus_tree` before it and `Layouts`
-- after it.
use Rattle.std.specs.Prelude.{ℕ, ◌+◌, ◌-◌, ◌*◌, ◌/◌, List, [], ◌∷◌, ◌++◌, length, replicate, nat_eq, if◌then◌else◌}
use Rattle.bit_values.specs.Bits.{Word}
use Rattle.bit_values.specs.BitLists.{number_bits}
use Rattle.bit_writer.specs.Bytes.{bytes_of}
use Rattle.indus_tree.specs.Tree.{Decl, Property}
use Rattle.indus_tree.specs.State.{Held, shape_width, shape_size}
use Rattle.indus_tree.specs.Hops.{same_kind}
use Rattle.indus_tree.specs.declared.tree.DeclKind.TheVariants.{Tele}

-- numbers of `width` bits, one behind the other
abbrev pub numbers_bits : (width : ℕ) → List Word → List ℕ
numbers_bits width [] = []
numbers_bits width (v ∷ vs) = number_bits width v.value ++ numbers_bits width vs

-- a list with room for `count` items: how many it holds, in 8 bits, its items, and zeros where there is room for more
abbrev pub list_bits : (width count : ℕ) → List Word → List ℕ
list_bits width count vs = number_bits 8 (length vs) ++ (numbers_bits width vs ++ replicate ((count - length vs) * width) 0)

-- a variable; that of a scalar has count 0
abbrev pub slot_bits : (width count : ℕ) → List Word → List ℕ
slot_bits width count vs = if nat_eq count 0 then numbers_bits width vs else list_bits width count vs

-- the variables that travel, in order of declaration
abbrev pub variables_bits : List Decl → Held → List ℕ
variables_bits [] t = []
variables_bits (d ∷ ds) t =
    (if same_kind Tele d.kind then slot_bits (shape_width d.shape) (shape_size d.shape) (t d.name) else []) ++ variables_bits ds t

-- the first byte tells the edition: hexadecimal 48, and 49 for edition 2
abbrev pub first_byte : (edition : ℕ) → ℕ
first_byte edition = if nat_eq edition 2 then 73 else 72

-- how many bytes so many bits take
abbrev pub whole_bytes : ℕ → ℕ
whole_bytes n = (n + 7) / 8

-- the bits, with zeros behind them to the whole byte
abbrev pub filled : List ℕ → List ℕ
filled bits = bits ++ replicate (8 * whole_bytes (length bits) - length bits) 0

-- the telemetry of a property whose variables hold these values
abbrev pub tele_bytes : Property → Held → List ℕ
tele_bytes p t = bytes_of (filled (number_bits 8 (first_byte p.edition) ++ variables_bits p.decls t))
