-- Which rules a program breaks, and where. Read `Controls`, `Firsts`, `Mains` and `Limits` before it.
use Rattle.std.specs.Prelude.{ℕ, Option}
use Rattle.rule_tests.specs.Tests.{Tests, both, BreaksAt, IsFirst}
use Rattle.p4_tree.specs.Tree.{Program}
use Rattle.p4_scopes.specs.Scopes.{Scope, core}
use Rattle.p4_statement_rules.specs.Ranks.{rank, first_broken}
use Rattle.p4_statement_rules.specs.declared.rule.ProgramRule.{ProgramRule}
use Rattle.p4_declaration_rules.specs.Controls.{tops_tests}
use Rattle.p4_declaration_rules.specs.Firsts.{first_tops}
use Rattle.p4_rules.specs.Mains.{main_tests}
use Rattle.p4_rules.specs.Limits.{limit_tests}

-- what is in sight behind all declarations, where of those of one name the first counts
abbrev pub program_scope : Program → Scope
program_scope p = first_tops core p.tops

-- what is tested of a program
abbrev pub program_tests : Program → Tests ProgramRule
program_tests p = both (tops_tests p.main core p.tops) (both (main_tests (program_scope p) p) (limit_tests (program_scope p) p))

-- a rule is broken at a place of a program
abbrev pub Breaks : ProgramRule → (at : ℕ) → Program → Type 0
Breaks r p program = BreaksAt r p (program_tests program)

-- no rule is broken anywhere
abbrev pub IsWellTyped : Program → Type 0
IsWellTyped program = (r : ProgramRule) (p : ℕ) → Breaks r p program → ⊥

-- the first broken rule of a program, in the order of its text and at one token in that of the rules
abbrev pub first_fault : Program → Option (ℕ × ProgramRule)
first_fault program = first_broken (program_tests program)

-- the rule is broken at the place, and none is broken before it
abbrev pub BreaksFirst : ProgramRule → (at : ℕ) → Program → Type 0
BreaksFirst r p program = IsFirst rank r p (program_tests program)
