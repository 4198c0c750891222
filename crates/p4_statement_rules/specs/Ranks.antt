-- The order of the rules: of several that are broken at one token the first counts.
use Rattle.std.specs.Prelude.{ℕ, Bool, true, Option, Some, None}
use Rattle.rule_tests.specs.Tests as tests
use Rattle.rule_tests.specs.Tests.{Tests}
use Rattle.p4_statement_rules.specs.declared.rule.ProgramRule.{ProgramRule}
use Rattle.p4_statement_rules.specs.declared.rule.ProgramRule.TheVariants.{NameTwice, NoSuchName, WidthDiffers, KindDiffers, NotWritable, WrongPlace, ParserCycle, BadSize, BadMain, KeyKinds, Limit}

-- the number of a rule in this order
abbrev pub rank : ProgramRule → ℕ
rank NameTwice = 0
rank NoSuchName = 1
rank WidthDiffers = 2
rank KindDiffers = 3
rank NotWritable = 4
rank WrongPlace = 5
rank ParserCycle = 6
rank BadSize = 7
rank BadMain = 8
rank KeyKinds = 9
rank Limit = 10

-- what was found first so far, and then what tests find
abbrev pub first_from : Option (ℕ × ProgramRule) → Tests ProgramRule → Option (ℕ × ProgramRule)
first_from = tests.first_from rank

-- the first broken rule of tests
abbrev pub first_broken : Tests ProgramRule → Option (ℕ × ProgramRule)
first_broken = tests.first_broken rank

-- a broken rule comes before what was found first so far
abbrev pub comes_first : Option (ℕ × ProgramRule) → ℕ × ProgramRule → Bool
comes_first None f = true
comes_first (Some g) f = tests.is_before rank f g
