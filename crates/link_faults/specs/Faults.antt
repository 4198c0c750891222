-- Which refusal is given, the first of five. Read `Refusals` before it, then `HeaderFields` and `WrittenNames`, and `Sums`
-- of `indus_types`.
use Rattle.std.specs.Prelude.{ℕ, Option, Some, None, nat_lt, if◌then◌else◌}
use Rattle.std.specs.Option.{option_map}
use Rattle.indus_tree.specs.Tree.{Property}
use Rattle.indus_types.specs.Sums.{cut, cut_wide, property_bits, property_weight}
use Rattle.tele_layout.specs.Telemetry.{whole_bytes}
use Rattle.lower_lists.specs.FlatProperty.{greatest_weight}
use Rattle.p4_tree.specs.Tree.{Program}
use Rattle.p4_rules.specs.ProgramRules.{program_scope}
use Rattle.link_faults.specs.Refusals.{Refusal, name_taken, room_short, too_large, or_else}
use Rattle.link_faults.specs.HeaderFields.{fields_fault}
use Rattle.link_faults.specs.WrittenNames.{names_of_program, first_taken}

-- the first place of the text counts
abbrev pub taken_fault : Program → Option Refusal
taken_fault p = option_map name_taken (first_taken (names_of_program p))

-- the number that is named is reckoned from bits that stop at the greatest number of 64 bits
abbrev pub room_fault : Property → (room : ℕ) → Option Refusal
room_fault p room =
    if nat_lt room (whole_bytes (property_bits p))
    then Some (room_short (whole_bytes (cut_wide (property_bits p))) room)
    else None

-- and this one stops at the greatest of 32 bits
abbrev pub weight_fault : Property → Option Refusal
weight_fault p = if nat_lt greatest_weight (property_weight p) then Some (too_large (cut (property_weight p))) else None

-- f: the program as it is written, with its exits
abbrev pub link_fault : (f : Program) → Property → (room : ℕ) → Option Refusal
link_fault f p room =
    or_else (fields_fault (program_scope f) f p.decls)
    (or_else (taken_fault f)
    (or_else (room_fault p room)
    (weight_fault p)))
