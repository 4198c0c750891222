-- Worked rows: registers of sensors, and what cells hold.
use Rattle.std.proofs.Common.{◌≡◌, ℕ, List, [], None, false, codes, refl}
use Rattle.bit_values.specs.Bits.{word}
use Rattle.indus_tree.specs.Tree.{Shape, one, list, Decl}
use Rattle.indus_tree.specs.declared.tree.Ty.TheVariants as ty
use Rattle.indus_tree.specs.declared.tree.DeclKind.TheVariants as kind
use Rattle.p4_tree.specs.declared.statement.PTy.TheVariants as type
use Rattle.sensor_registers.specs.Registers.{register_of, cell_value}

abbrev sensor : List ℕ → Shape → Decl
sensor x t = record { at = 0; kind = kind.Sensor; name = x; shape = t; start = None; path = []; valid = false }

-- sensor bit<16> count; sensor bool seen; sensor bit<9>[8] ports;

one_number : register_of (sensor (codes "count") (one (ty.Bit 16))) ≡ record { at = 0; ty = type.Bit 16; count = 1; name = codes "hydra_s_count" }
one_number = refl

one_truth : register_of (sensor (codes "seen") (one ty.Bool)) ≡ record { at = 0; ty = type.Bit 1; count = 1; name = codes "hydra_s_seen" }
one_truth = refl

eight_ports : register_of (sensor (codes "ports") (list (ty.Bit 9) 8)) ≡ record { at = 0; ty = type.Bit 9; count = 8; name = codes "hydra_s_ports" }
eight_ports = refl

-- a sensor that began with 1010 and has 0110 has cells that hold 1100
held : cell_value (word 4 10) (word 4 6) ≡ word 4 12
held = refl
