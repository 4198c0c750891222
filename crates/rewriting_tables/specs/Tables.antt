-- Tables of a program with other values, each of which may stand for the one before. Read `Rewritten` of `rewritten_programs`
-- before it, `Passages` of `rewriting_passages`, and `Programs` of `p4_tables`.
use Rattle.std.specs.Prelude.{◌≡◌}
use Rattle.std.specs.List.{AllZip}
use Rattle.p4_tree.specs.Tree.{Program}
use Rattle.p4_meaning.specs.Parts.{parts_of}
use Rattle.p4_rules.specs.ProgramRules.{IsWellTyped}
use Rattle.p4_tables.specs.Programs.{state_before}
use Rattle.p4_typing_laws.specs.Plain.{HavePlainNames, HavePlainValues}
use Rattle.rewriting_laws.specs.Standing.{MayStandFor}
use Rattle.rewritten_programs.specs.Rewritten.{ProgramRewritten}
use Rattle.rewriting_passages.specs.Passages.{ActionStands, TableStands}

-- actions and tables stand there by the same numbers, and before anything is loaded tables take and hold the same
pub record SameTables (p q : Program) : Type 0 where
  pub actions : AllZip ActionStands (parts_of p).actions (parts_of q).actions
  pub tables : AllZip TableStands (parts_of p).tables (parts_of q).tables
  pub before : state_before q ≡ state_before p

-- so it is of a well-typed program whose names have no point, as those of texts, and of one with other values
abbrev pub TablesStay : Type 0
TablesStay = (p q : Program) → ProgramRewritten MayStandFor p q → IsWellTyped p → HavePlainNames p.tops → HavePlainValues p.tops → SameTables p q
