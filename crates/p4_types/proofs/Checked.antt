-- What the first broken rule says, and that there is none.
use Rattle.std.proofs.Common.{◌≡◌, ℕ, Some, None}
use Rattle.rule_tests.proofs.FirstBroken.{is_first, none_is_fine, fine_unbroken}
use Rattle.p4_tree.specs.Tree.{Program}
use Rattle.p4_statement_rules.specs.Ranks.{rank}
use Rattle.p4_statement_rules.specs.declared.rule.ProgramRule.{ProgramRule}
use Rattle.p4_rules.specs.ProgramRules.{program_tests, BreaksFirst, IsWellTyped, first_fault}

pub no_fault : (p : Program) → first_fault p ≡ None → IsWellTyped p
no_fault p h = fine_unbroken (program_tests p) (none_is_fine rank (program_tests p) h)

pub fault_is_first : (p : Program) (at : ℕ) (rule : ProgramRule) → first_fault p ≡ Some (at, rule) → BreaksFirst rule at p
fault_is_first p at rule h = is_first rank (program_tests p) (at, rule) h
