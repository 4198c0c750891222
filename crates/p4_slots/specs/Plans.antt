-- A plan over slots, which switches of one program share. Read `CodesOf` of `slot_programs` before it, and `Room` of
-- `slot_passages`.
use Rattle.std.specs.Prelude.{◌≡◌, ℕ, ◌+◌, ◌*◌, ◌<◌, ◌≤◌, length}
use Rattle.p4_tree.specs.View.{program_of}
use Rattle.p4_meaning.specs.Parts.{Parts, parts_of}
use Rattle.p4_rules.specs.Limits.{header_bytes, most_of_program}
use Rattle.p4_rules.specs.ProgramRules.{program_scope}
use Rattle.p4_parts.specs.PartsIn.{parts_in}
use Rattle.p4_tree.specs.declared.program.Program.{Program}
use Rattle.slot_terms.specs.Places.{places_of}
use Rattle.slot_places.specs.ProgramPlaces.{ArePlaced}
use Rattle.slot_deparsers.specs.Emits.{most_bits}
use Rattle.slot_passages.specs.Codes.{ProgramCode}
use Rattle.slot_passages.specs.Codes as codes
use Rattle.slot_passages.specs.Room.{most_digests, HasRoom}
use Rattle.slot_programs.specs.Room.{room_of}
use Rattle.slot_programs.specs.CodesOf.{IsCodeOf}
use Rattle.slot_programs.specs.declared.coded.Coded.{Coded}
use Rattle.p4_slots.specs.declared.plan.SlotPlan.{SlotPlan}
use Rattle.p4_slots.specs.declared.plan.Planned as code_planned
use Rattle.p4_slots.specs.declared.plan.Planned.TheVariants as planned

-- the most digests that a passage by this code gives
abbrev pub digests_in : ProgramCode → ℕ
digests_in c = (most_digests c.verify + most_digests c.ingress) + most_digests c.egress

-- a passage by this code gives so many digests at the most, and its deparser emits so many bytes at the most, which are not
-- too many for a frame
pub record FitsIn (c : ProgramCode) (header_bytes most_digests : ℕ) : Type 0 where
  pub digests : digests_in c ≤ most_digests
  pub frame : most_bits c.headers c.emits ≤ 8 * header_bytes
  pub short : header_bytes < 268435456

-- the code is that of a program, whose places are given with it, and the most keys of an application
pub record IsCoded (p : Parts) (x : Coded) : Type 0 where
  pub code : IsCodeOf p (room_of p) (places_of x.places) (codes.program_of x.code)
  pub placed : ArePlaced p (room_of p) (places_of x.places)
  pub room : HasRoom (length (codes.program_of x.code).parser.states) x.keys (codes.program_of x.code)

-- the code of a plan
abbrev pub code_in : SlotPlan → ProgramCode
code_in x = codes.program_of x.coded.code

-- its parts and its code are those of its program, and a buffer for its program has room for what a passage gives
pub record IsSlotPlan (x : SlotPlan) : Type 0 where
  pub parts : parts_in x.parts ≡ parts_of (program_of x.program)
  pub coded : IsCoded (parts_in x.parts) x.coded
  pub most_digests : x.most_digests ≡ most_of_program (program_of x.program)
  pub header_bytes : x.header_bytes ≡ header_bytes (program_scope (program_of x.program)) (program_of x.program)
  pub fits : FitsIn (code_in x) x.header_bytes x.most_digests

-- what becomes of a program: a plan for it, or the program itself
abbrev pub IsPlanned : Program → code_planned.Planned → Type 0
IsPlanned p (planned.Slots plan) = IsSlotPlan plan.value × (plan.value.program ≡ p)
IsPlanned p (planned.Names q) = program_of q ≡ program_of p
