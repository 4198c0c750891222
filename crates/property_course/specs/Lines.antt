-- The lines of refused properties.
use Rattle.std.specs.Prelude.{ℕ, List, codes}
use Rattle.indus_reader.specs.declared.fault.PropertyFault.{PropertyFault}
use Rattle.indus_reader.specs.declared.fault.PropertyFault.TheVariants.{Lex, Syntax, TooDeep, NoMemory}
use Rattle.indus_rules.specs.declared.rule.Rule.{Rule}
use Rattle.indus_rules.specs.declared.rule.Rule.TheVariants as rule
use Rattle.job_course.specs.declared.status.Area.TheVariants as area
use Rattle.job_course.specs.Lines.{memory_line, place_line, word_line, lex_line}

-- why a text is no property; want of memory has another line
abbrev pub fault_line : (name : List ℕ) → PropertyFault → List ℕ
fault_line name (Lex f) = lex_line area.Property name f
fault_line name (Syntax at) = place_line area.Property name (codes "Syntax") at
fault_line name (TooDeep at) = place_line area.Property name (codes "TooDeep") at
fault_line name NoMemory = memory_line

-- the word of a rule of types
abbrev pub rule_word : Rule → List ℕ
rule_word rule.NameTwice = codes "NameTwice"
rule_word rule.NoSuchName = codes "NoSuchName"
rule_word rule.WidthDiffers = codes "WidthDiffers"
rule_word rule.KindDiffers = codes "KindDiffers"
rule_word rule.NotWritable = codes "NotWritable"
rule_word rule.WrongBlock = codes "WrongBlock"
rule_word rule.LoopListChanged = codes "LoopListChanged"
rule_word rule.BadSize = codes "BadSize"

-- a rule that is broken at a place
abbrev pub type_line : (name : List ℕ) (at : ℕ) → Rule → List ℕ
type_line name at r = word_line area.Property name (codes "Type") at (rule_word r)
