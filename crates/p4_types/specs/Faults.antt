-- Why a program is refused.
use Rattle.std.specs.Prelude.{ℕ}
use Rattle.p4_tree.specs.Tree.{Program}
use Rattle.p4_statement_rules.specs.declared.rule.ProgramRule.{ProgramRule}
use Rattle.p4_rules.specs.ProgramRules.{Breaks, BreaksFirst}
use Rattle.p4_types.specs.declared.fault.ProgramTypeFault.{ProgramTypeFault}
use Rattle.p4_types.specs.declared.fault.ProgramTypeFault.TheVariants.{Type_, NoMemory}

-- of the rules that are broken the first in the text is answered, and of several at one token the first in the order of
-- the rules; want of memory says nothing
abbrev pub HasCause : Program → ProgramTypeFault → Type 0
HasCause program (Type_ at rule) = BreaksFirst rule at program
HasCause program NoMemory = Unit {0}

-- the rule that is answered is broken at that place
abbrev pub AnsweredIsBroken : Type 0
AnsweredIsBroken = (program : Program) (at : ℕ) (rule : ProgramRule) → HasCause program (Type_ at rule) → Breaks rule at program
