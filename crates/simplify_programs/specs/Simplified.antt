-- What a program with answers of rules in it has of the given one. Read `Rewritten` of `rewritten_programs` before it,
-- `Passages` of `rewriting_passages`, `Simplified` of `simplify_rules`, `Numbers` of `p4_types` and `CanSpell` of `p4_printer`.
use Rattle.std.specs.Prelude.{◌≡◌, Option}
use Rattle.p4_tree.specs.Tree.{Expr, Program}
use Rattle.p4_rules.specs.Limits.{header_bytes, most_of_program, cells}
use Rattle.p4_rules.specs.ProgramRules.{program_scope, IsWellTyped}
use Rattle.p4_types.specs.Numbers.{Sort, names}
use Rattle.p4_printer.specs.CanSpell.{CanSpell}
use Rattle.p4_typing_laws.specs.Plain.{HavePlainNames, HavePlainValues}
use Rattle.rewriting_laws.specs.Standing.{MayStandFor}
use Rattle.rewritten_programs.specs.Rewritten.{ProgramRewritten}
use Rattle.rewriting_passages.specs.Passages.{ProgramStands}
use Rattle.simplify_rules.specs.Simplified.{IsSimplified}

-- Answers: what may be answered where an expression is offered, an expression or none
pub record IsSimplifiedProgram (Answers : Expr → Option Expr → Type 0) (p q : Program) : Type 0 where
  -- each expression of a control that is a value was gone through, and each part of it was offered once; nothing else is
  -- another
  pub walked : ProgramRewritten (IsSimplified Answers) p q
  -- so each has one in its place that may stand there
  pub stands : ProgramRewritten MayStandFor p q
  pub typed : IsWellTyped q
  -- both halves of a passage are the same, and what of the parts stays is. No name of a text has a point
  pub passages : HavePlainNames p.tops → HavePlainValues p.tops → ProgramStands p q
  -- it can be spelled where the given one can
  pub spelled : CanSpell p → CanSpell q
  -- tables, registers and actions stand there by the same numbers
  pub numbers : (s : Sort) → names s q ≡ names s p
  -- and what a switch holds of it is as much
  pub digests : most_of_program q ≡ most_of_program p
  pub headers : header_bytes (program_scope q) q ≡ header_bytes (program_scope p) p
  pub registers : cells q ≡ cells p
