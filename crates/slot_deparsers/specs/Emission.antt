-- A deparser over slots emits what a program's deparser emits. Read `Emits` before it, `ProgramPlaces` of `slot_places`, and
-- `Parsing` of the trees' meaning.
use Rattle.std.specs.Prelude.{◌≡◌}
use Rattle.p4_meaning.specs.Store.{Store}
use Rattle.p4_meaning.specs.Parsing.{deparse_of}
use Rattle.p4_meaning.specs.Parts.{Parts}
use Rattle.slot_terms.specs.Places.{Places, Follows}
use Rattle.slot_terms.specs.States.{State}
use Rattle.slot_places.specs.ProgramRows.{first_header}
use Rattle.slot_places.specs.ProgramPlaces.{AreProgramPlaces}
use Rattle.slot_places.specs.HeaderSlots.{slots_of_headers}
use Rattle.slot_deparsers.specs.Emits.{emitted_bits, numbers_of}

-- by the places of a program slots that follow a store give the bits that the program's deparser emits
abbrev pub DeparsersEmit : Type 0
DeparsersEmit =
    (p : Parts) (m : Places) (s : State) (t : Store) → AreProgramPlaces p m → Follows m s.slots s.valid t
    → emitted_bits (slots_of_headers p.headers (first_header p)) (numbers_of m.headers p.emits) s ≡ deparse_of p.headers p.emits t
