-- What a program with two structs has of the one that it is made of. Read `Parted` before it, and `Linkable` of
-- `linked_hosts`.
use Rattle.std.specs.Prelude.{◌≡◌, ℕ, List, Bool, not}
use Rattle.lex_text.specs.Names.{same_text}
use Rattle.p4_tree.specs.Tree.{Program}
use Rattle.p4_meaning.specs.Parts.{parts_of}
use Rattle.p4_rules.specs.Limits.{header_bytes, most_of_program, cells}
use Rattle.p4_rules.specs.ProgramRules.{program_scope, IsWellTyped}
use Rattle.p4_rule_laws.specs.OldPrograms.{OldTops}
use Rattle.p4_printer.specs.CanSpell.{CanSpell}
use Rattle.exit_programs.specs.Programs.{program_without}
use Rattle.exit_programs.specs.Names.{HasGivenNames}
use Rattle.own_programs.specs.OwnPrograms.{HasOwnNames}
use Rattle.linked_hosts.specs.Linkable.{IsGiven}
use Rattle.parted_programs.specs.Parted.{new_metadata, parted}

-- another name than the new struct's
abbrev pub is_other_name : List ℕ → Bool
is_other_name x = not (same_text new_metadata x)

-- a well-typed program without the name of the new struct
pub record CanBeParted (p : Program) : Type 0 where
  pub typed : IsWellTyped p
  pub free : OldTops is_other_name p.tops

-- what is linked asks of it besides
pub record CanBeGiven (p : Program) : Type 0 where
  pub parts : CanBeParted p
  pub names : HasOwnNames p
  pub spelled : CanSpell p

-- with two structs it is one that is linked
abbrev pub PartedIsGiven : Type 0
PartedIsGiven = (p : Program) → CanBeGiven p → IsGiven (parted p)

-- its passages are the same
abbrev pub PartedHasSameParts : Type 0
PartedHasSameParts = (p : Program) → IsWellTyped p → parts_of (parted p) ≡ parts_of p

-- what is counted for a switch's limits is the same
pub record CountsSame (p q : Program) : Type 0 where
  pub bytes : header_bytes (program_scope q) q ≡ header_bytes (program_scope p) p
  pub digests : most_of_program q ≡ most_of_program p
  pub cells : cells q ≡ cells p

abbrev pub PartedCountsSame : Type 0
PartedCountsSame = (p : Program) → CanBeParted p → CountsSame p (parted p)

-- no program without exits has the new name, where the given one has given names
abbrev pub WithoutExitsIsFree : Type 0
WithoutExitsIsFree = (f : Program) → HasGivenNames f → OldTops is_other_name (program_without f).tops
