-- A program that breaks no rule is not refused.
use Rattle.std.proofs.Common.{ℕ}
use Rattle.p4_tree.specs.Tree.{Program}
use Rattle.p4_rules.specs.ProgramRules.{IsWellTyped, BreaksFirst}
use Rattle.p4_statement_rules.specs.declared.rule.ProgramRule.{ProgramRule}

pub breaks_none : (p : Program) (r : ProgramRule) (at : ℕ) → IsWellTyped p → BreaksFirst r at p → ⊥
breaks_none p r at well first = well r at first.broken
