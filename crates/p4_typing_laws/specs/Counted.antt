-- The rules count what the meaning says that a passage of a well-typed program gives at most. Read `DigestBound` of
-- `p4_meaning`, `Digests` of `p4_declaration_rules` and `Limits` of `p4_rules` before it.
use Rattle.std.specs.Prelude.{◌≡◌, ℕ, ◌+◌, ◌≤◌, List, length}
use Rattle.p4_tree.specs.Tree.{Program}
use Rattle.p4_meaning.specs.Tables.{Tables}
use Rattle.p4_meaning.specs.Parts.{parts_of}
use Rattle.p4_meaning.specs.Pass.{Registers, Queued, parts_enter, parts_leave}
use Rattle.p4_meaning.specs.DigestBound.{digest_bound}
use Rattle.p4_meaning.specs.Laws.{AreListed}
use Rattle.p4_rules.specs.Limits.{most_of_program}
use Rattle.p4_rules.specs.ProgramRules.{IsWellTyped}
use Rattle.p4_typing_laws.specs.Plain.{HavePlainNames}

-- what the meaning gives at most is what the rules count, which is at most the limit; and so both halves of a passage give
-- at most that many, where tables run actions of their lists
pub record DigestsAreCounted : Type 0 where
  pub bound : (p : Program) → IsWellTyped p → HavePlainNames p.tops → digest_bound (parts_of p) ≡ most_of_program p
  pub limit : (p : Program) → IsWellTyped p → most_of_program p ≤ 20480
  pub passages :
      (p : Program) → IsWellTyped p → HavePlainNames p.tops → (held : Tables) → AreListed (parts_of p) held → (cells : Registers) (port : ℕ) (frame : List ℕ) (q : Queued)
      → length (parts_enter (parts_of p) held cells port frame).digests + length (parts_leave (parts_of p) held cells q).digests ≤ most_of_program p
