-- Room and weight keep linked programs within the limits of a switch.
use Rattle.std.proofs.Common.{◌≡◌, ℕ, ◌≤◌, ◌/◌, ◌+◌, [], ◌∷◌, ◌++◌, arith, sym, subst}
use Rattle.indus_types.specs.Sums.{property_bits, property_weight}
use Rattle.tele_layout.specs.Telemetry.{whole_bytes}
use Rattle.p4_tree.specs.Tree.{Program}
use Rattle.p4_parser_states.specs.Laws.{ReachesIsExact}
use Rattle.p4_rules.specs.Limits.{header_bytes, most_of_program, add_cells, tops_cells, cells}
use Rattle.p4_rules.specs.ProgramRules.{program_scope}
use Rattle.p4_rule_laws.proofs.LimitsGrow.{cells_add}
use Rattle.exit_rules.proofs.WellTyped.{bytes_same, cells_same, digests_same, stays_well_typed}
use Rattle.linked_programs.specs.Lowered.{Lowered}
use Rattle.linked_programs.specs.Linked.{front, switch_top}
use Rattle.linked_rules.proofs.LinkedFine.{linked_within}
use Rattle.exit_programs.specs.Programs.{program_without}
use Rattle.parted_programs.specs.Laws.{CountsSame}
use Rattle.parted_programs.proofs.FreeNames.{without_exits_is_free}
use Rattle.parted_programs.proofs.Given.{parted_counts_same}
use Rattle.tree_linkage.specs.Trees.{linked_form}
use Rattle.tree_linkage.proofs.Theorem.{linked_form_is_given}
use Rattle.link_faults.proofs.Taken.{none_is_taken}
use Rattle.link_faults.proofs.NoFault.{no_fault_says}
use Rattle.faultless_programs.specs.Within.{LeavesRoom, RoomStays, RoomSuffices, LinkedInRoom, FaultlessIsWellTyped}
use Rattle.faultless_programs.proofs.Given.{no_fault_can_link}

-- a program of the same counts
room_same : (p q : Program) → CountsSame p q → LeavesRoom p → LeavesRoom q
room_same p q same room =
    record {
      bytes = subst (λ (n : ℕ). n ≤ 2048) (sym same.bytes) room.bytes;
      digests = subst (λ (n : ℕ). n ≤ 4096) (sym same.digests) room.digests;
      cells = subst (λ (n : ℕ). n ≤ 4194304) (sym same.cells) room.cells;
    }

pub room_stays : RoomStays
room_stays p well given room =
    (let without = room_same p (program_without p) (record { bytes = bytes_same p; digests = digests_same p well given; cells = cells_same p }) room in
    let counts = parted_counts_same (program_without p) (record { typed = stays_well_typed p well given; free = without_exits_is_free p given }) in
    (without, room_same (program_without p) (linked_form p) counts without))

-- the register of rejected packets, and the lowering's
front_cells : (l : Lowered) (s : ℕ) → tops_cells (front l s) ≤ 1 + tops_cells l.tops
front_cells l s = at (tops_cells (l.tops ++ switch_top s ∷ [])) (tops_cells l.tops) (cells_add l.tops (switch_top s ∷ []))
  where
    at : (a b : ℕ) → a ≡ add_cells b 0 → add_cells 1 a ≤ 1 + b
    at a b e = omega (arith, e)

pub room_suffices : RoomSuffices
room_suffices l bits e x s p leaves property room counted small fits light =
    record {
      bytes = sum (bits / 8) (whole_bytes (property_bits property)) (header_bytes (program_scope p) p) room counted.bytes fits small leaves.bytes;
      digests = few (e + x) (property_weight property) (most_of_program p) counted.digests light leaves.digests;
      cells = many (tops_cells (front l s)) (tops_cells l.tops) (property_weight property) (cells p) (front_cells l s) counted.cells light leaves.cells;
    }
  where
    sum : (a b c r : ℕ) → a ≤ b → b ≤ r → r ≤ 256 → c ≤ 2048 → a + c ≤ 2304
    sum a b c r h i j k = omega (arith, h, i, j, k)

    few : (a b c : ℕ) → a ≤ b → b ≤ 16384 → c ≤ 4096 → a + c ≤ 20480
    few a b c h i k = omega (arith, h, i, k)

    many : (a b c d : ℕ) → a ≤ 1 + b → b ≤ c → c ≤ 16384 → d ≤ 4194304 → a + d ≤ 4210689
    many a b c d h i j k = omega (arith, h, i, j, k)

pub linked_in_room : ReachesIsExact → LinkedInRoom
linked_in_room exact l p g leaves k rules e x tells property room counted small fits light size s links few =
    let is = room_suffices l rules.passes.bits e x s p leaves property room counted small fits light in
    linked_within exact l p g k rules size s links few e x tells is.bytes is.digests is.cells

pub faultless_is_well_typed : ReachesIsExact → FaultlessIsWellTyped
faultless_is_well_typed exact f well spelled leaves property room small none l k rules e x tells counted size s links few =
    let no = (no_fault_says f property room).0 none in
    let given = none_is_taken f no.names in
    linked_in_room exact l (linked_form f) (linked_form_is_given f (no_fault_can_link f well spelled no.names)) (room_stays f well given leaves).1
    k rules e x tells property room counted small no.room no.weight size s links few
