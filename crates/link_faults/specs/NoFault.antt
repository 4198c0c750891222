-- What it says that a program has no fault. Read `Faults` before it.
use Rattle.std.specs.Prelude.{◌≡◌, ◌↔◌, ℕ, ◌≤◌, None}
use Rattle.indus_tree.specs.Tree.{Property}
use Rattle.indus_types.specs.Sums.{property_bits, property_weight}
use Rattle.tele_layout.specs.Telemetry.{whole_bytes}
use Rattle.lower_lists.specs.FlatProperty.{greatest_weight}
use Rattle.p4_tree.specs.Tree.{Program}
use Rattle.p4_rules.specs.ProgramRules.{program_scope}
use Rattle.link_faults.specs.HeaderFields.{fields_fault}
use Rattle.link_faults.specs.WrittenNames.{names_of_program, first_taken}
use Rattle.link_faults.specs.Faults.{link_fault}

pub record HasNoFault (f : Program) (p : Property) (given : ℕ) : Type 0 where
  -- each header variable is found, in the width with which it is declared
  pub fields : fields_fault (program_scope f) f p.decls ≡ None
  -- no name of the program is taken
  pub names : first_taken (names_of_program f) ≡ None
  -- the telemetry has room
  pub room : whole_bytes (property_bits p) ≤ given
  -- and the property is not too large
  pub weight : property_weight p ≤ greatest_weight

-- none of the five is given exactly where all of this holds
abbrev pub NoFaultSays : Type 0
NoFaultSays = (f : Program) (p : Property) (room : ℕ) → link_fault f p room ≡ None ↔ HasNoFault f p room
