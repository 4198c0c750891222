-- A linked program follows the rules of P4. Read `Promises` before it.
use Rattle.std.specs.Prelude.{◌≡◌, ℕ, ◌<◌, ◌≤◌, ◌^◌, ◌/◌, ◌+◌, List}
use Rattle.rule_tests.specs.Tests.{IsFine}
use Rattle.p4_tree.specs.Tree.{Program}
use Rattle.p4_scopes.specs.Scopes.{add_up}
use Rattle.p4_rules.specs.Limits.{header_bytes, most_of_program, add_cells, tops_cells, cells, limit_tests}
use Rattle.p4_rules.specs.ProgramRules.{program_scope, IsWellTyped}
use Rattle.linked_programs.specs.Lowered.{Lowered}
use Rattle.linked_programs.specs.Linked.{front, linked}
use Rattle.linked_hosts.specs.Linkable.{IsGiven, Linkable}
use Rattle.linked_rules.specs.Promises.{KeepsRules, TellsIn}

-- every linked program within the limits is well typed, if the lowering keeps its promises. size: the bytes of the
-- telemetry; s: the switch's number; links: its ports with links
abbrev pub LinkedIsWellTyped : Type 0
LinkedIsWellTyped =
    (l : Lowered) (p : Program) → IsGiven p → (k : Linkable p) → KeepsRules l p k →
    (size s : ℕ) (links : List ℕ) → s < 2 ^ 16 →
    IsFine (limit_tests (program_scope (linked l size s links p)) (linked l size s links p)) →
    IsWellTyped (linked l size s links p)

-- ---- what is counted of it

-- q: the linked program. The bytes of its headers are those of the telemetry's, which has so many bits, and of the
-- program's, and its cells are those of what is declared in front and of the program's: so room and weight tell whether it
-- is within the limits
pub record Counts (l : Lowered) (s : ℕ) (p q : Program) (bits : ℕ) : Type 0 where
  pub bytes : header_bytes (program_scope q) q ≡ add_up (bits / 8) (header_bytes (program_scope p) p)
  pub cells : cells q ≡ add_cells (tops_cells (front l s)) (cells p)

abbrev pub LinkedCounts : Type 0
LinkedCounts =
    (l : Lowered) (p : Program) → IsGiven p → (k : Linkable p) (rules : KeepsRules l p k) →
    (size s : ℕ) (links : List ℕ) → s < 2 ^ 16 → Counts l s p (linked l size s links p) rules.passes.bits

-- a passage tells no more than the two parts and the program
abbrev pub LinkedTells : Type 0
LinkedTells =
    (l : Lowered) (p : Program) → IsGiven p → (k : Linkable p) → KeepsRules l p k →
    (size s : ℕ) (links : List ℕ) → s < 2 ^ 16 → (e x : ℕ) → TellsIn l p k e x →
    most_of_program (linked l size s links p) ≤ add_up e (add_up x (most_of_program p))

-- so a linked program is well typed where these numbers are within the limits
abbrev pub LinkedWithin : Type 0
LinkedWithin =
    (l : Lowered) (p : Program) → IsGiven p → (k : Linkable p) (rules : KeepsRules l p k) →
    (size s : ℕ) (links : List ℕ) → s < 2 ^ 16 → (e x : ℕ) → TellsIn l p k e x →
    rules.passes.bits / 8 + header_bytes (program_scope p) p ≤ 2304 → e + x + most_of_program p ≤ 20480 →
    tops_cells (front l s) + cells p ≤ 4210689 → IsWellTyped (linked l size s links p)

-- ---- the same at all switches

-- as much is counted of both
pub record CountAlike (p q : Program) : Type 0 where
  pub bytes : header_bytes (program_scope p) p ≡ header_bytes (program_scope q) q
  pub digests : most_of_program p ≡ most_of_program q
  pub cells : cells p ≡ cells q

-- of linked programs of any two switches, whatever ports have links
abbrev pub SwitchesCountAlike : Type 0
SwitchesCountAlike =
    (l : Lowered) (p : Program) → IsGiven p → (k : Linkable p) → KeepsRules l p k → (e x : ℕ) → TellsIn l p k e x →
    (size s : ℕ) (links : List ℕ) → s < 2 ^ 16 → (r : ℕ) (ports : List ℕ) → r < 2 ^ 16 →
    CountAlike (linked l size s links p) (linked l size r ports p)
