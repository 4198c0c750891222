-- Room and weight keep linked programs within the limits of a switch. Read `Limits` of `p4_rules`, `Fine` of
-- `linked_rules` and `Sums` of `indus_types` before it.
use Rattle.std.specs.Prelude.{◌≡◌, ℕ, ◌<◌, ◌≤◌, ◌^◌, ◌/◌, ◌+◌, List, None}
use Rattle.indus_tree.specs.Tree.{Property}
use Rattle.indus_types.specs.Sums.{property_bits, property_weight}
use Rattle.tele_layout.specs.Telemetry.{whole_bytes}
use Rattle.lower_lists.specs.FlatProperty.{greatest_weight}
use Rattle.p4_tree.specs.Tree.{Program}
use Rattle.p4_rules.specs.Limits.{header_bytes, most_of_program, tops_cells, cells}
use Rattle.p4_rules.specs.ProgramRules.{program_scope, IsWellTyped}
use Rattle.p4_printer.specs.CanSpell.{CanSpell}
use Rattle.exit_programs.specs.Programs.{program_without}
use Rattle.exit_programs.specs.Names.{HasGivenNames}
use Rattle.linked_programs.specs.Lowered.{Lowered}
use Rattle.linked_programs.specs.Linked.{front, linked}
use Rattle.linked_hosts.specs.Linkable.{IsGiven, Linkable}
use Rattle.tree_linkage.specs.Trees.{linked_form}
use Rattle.linked_rules.specs.Promises.{KeepsRules, TellsIn}
use Rattle.link_faults.specs.Faults.{link_fault}

-- a forwarding program leaves room for a monitor: bytes of headers, digests of a passage, and cells of registers
pub record LeavesRoom (p : Program) : Type 0 where
  pub bytes : header_bytes (program_scope p) p ≤ 2048
  pub digests : most_of_program p ≤ 4096
  pub cells : cells p ≤ 4194304

-- so do the program of the same meaning without exits and what is linked of it
abbrev pub RoomStays : Type 0
RoomStays = (p : Program) → IsWellTyped p → HasGivenNames p → LeavesRoom p → LeavesRoom (program_without p) × LeavesRoom (linked_form p)

-- what a lowering's trees take is what the property's sums say. bits: of the telemetry's header; e, x: the most digests
-- of the entry part and of the exit part
pub record IsCounted (l : Lowered) (bits e x : ℕ) (p : Property) : Type 0 where
  pub bytes : bits / 8 ≤ whole_bytes (property_bits p)
  pub digests : e + x ≤ property_weight p
  pub cells : tops_cells l.tops ≤ property_weight p

-- what is added up is within the limits of a switch. s: the switch's number
pub record IsWithin (l : Lowered) (bits e x s : ℕ) (p : Program) : Type 0 where
  pub bytes : bits / 8 + header_bytes (program_scope p) p ≤ 2304
  pub digests : e + x + most_of_program p ≤ 20480
  pub cells : tops_cells (front l s) + cells p ≤ 4210689

-- where the property fits a room of at most 256 bytes and is not too large
abbrev pub RoomSuffices : Type 0
RoomSuffices =
    (l : Lowered) (bits e x s : ℕ) (p : Program) → LeavesRoom p →
    (property : Property) (room : ℕ) → IsCounted l bits e x property →
    room ≤ 256 → whole_bytes (property_bits property) ≤ room → property_weight property ≤ greatest_weight →
    IsWithin l bits e x s p

-- and so each linked program is well typed
abbrev pub LinkedInRoom : Type 0
LinkedInRoom =
    (l : Lowered) (p : Program) → IsGiven p → LeavesRoom p →
    (k : Linkable p) (rules : KeepsRules l p k) (e x : ℕ) → TellsIn l p k e x →
    (property : Property) (room : ℕ) → IsCounted l rules.passes.bits e x property →
    room ≤ 256 → whole_bytes (property_bits property) ≤ room → property_weight property ≤ greatest_weight →
    (size s : ℕ) (links : List ℕ) → s < 2 ^ 16 → IsWellTyped (linked l size s links p)

-- so it is of each program without fault, with exits or without
abbrev pub FaultlessIsWellTyped : Type 0
FaultlessIsWellTyped =
    (f : Program) → IsWellTyped f → CanSpell f → LeavesRoom f →
    (property : Property) (room : ℕ) → room ≤ 256 → link_fault f property room ≡ None →
    (l : Lowered) (k : Linkable (linked_form f)) (rules : KeepsRules l (linked_form f) k) (e x : ℕ) →
    TellsIn l (linked_form f) k e x → IsCounted l rules.passes.bits e x property →
    (size s : ℕ) (links : List ℕ) → s < 2 ^ 16 → IsWellTyped (linked l size s links (linked_form f))
