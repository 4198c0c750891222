-- What the code of a well-typed program emits and tells is at most what the rules count of the program. Read `Emits` of
-- `slot_deparsers` before it, `HeaderSlots` of `slot_places`, `DigestBound` of the trees' meaning, and `Limits` of the rules.
use Rattle.std.specs.Prelude.{ℕ, ◌*◌, ◌<◌, ◌≤◌, map}
use Rattle.p4_tree.specs.Tree.{Program}
use Rattle.p4_meaning.specs.Parts.{Parts, parts_of}
use Rattle.p4_meaning.specs.DigestBound.{digest_bound}
use Rattle.p4_rules.specs.Limits.{header_bytes, most_of_program}
use Rattle.p4_rules.specs.ProgramRules.{program_scope, IsWellTyped}
use Rattle.p4_typing_laws.specs.Plain.{HavePlainNames}
use Rattle.slot_places.specs.ProgramRows.{path_in, first_header}
use Rattle.slot_places.specs.HeaderSlots.{slots_of_headers}
use Rattle.slot_deparsers.specs.Emits.{most_bits, numbers_of}

-- how many bits the deparser over slots emits at the most
abbrev pub emitted_most : Parts → ℕ
emitted_most p = most_bits (slots_of_headers p.headers (first_header p)) (numbers_of (map path_in p.headers) p.emits)

-- a frame has room for what is emitted, which is no more than the bytes of all headers; and a passage gives no more digests
-- than the rules count. For these no point stands in a name
pub record IsBounded (p : Program) : Type 0 where
  pub frame : emitted_most (parts_of p) ≤ 8 * header_bytes (program_scope p) p
  pub short : header_bytes (program_scope p) p < 268435456
  pub digests : HavePlainNames p.tops → digest_bound (parts_of p) ≤ most_of_program p

-- so it is of each program that breaks no rule
abbrev pub ProgramsAreBounded : Type 0
ProgramsAreBounded = (p : Program) → IsWellTyped p → IsBounded p
