-- The lines of refused programs.
use Rattle.std.specs.Prelude.{ℕ, List, codes}
use Rattle.p4_decls.specs.declared.fault.ProgramFault.{ProgramFault}
use Rattle.p4_decls.specs.declared.fault.ProgramFault.TheVariants.{NoMemory, Lex, Syntax, LeftOut, TooDeep}
use Rattle.p4_statement_rules.specs.declared.rule.ProgramRule.{ProgramRule}
use Rattle.p4_statement_rules.specs.declared.rule.ProgramRule.TheVariants as rule
use Rattle.job_course.specs.declared.status.Area.TheVariants as area
use Rattle.job_course.specs.Lines.{memory_line, place_line, word_line, lex_line}

-- why a text is no program; want of memory has another line
abbrev pub fault_line : (name : List ℕ) → ProgramFault → List ℕ
fault_line name (Lex f) = lex_line area.Program name f
fault_line name (Syntax at) = place_line area.Program name (codes "Syntax") at
fault_line name (LeftOut at what) = word_line area.Program name (codes "LeftOut") at what
fault_line name (TooDeep at) = place_line area.Program name (codes "TooDeep") at
fault_line name NoMemory = memory_line

-- the word of a rule of names and types
abbrev pub rule_word : ProgramRule → List ℕ
rule_word rule.NameTwice = codes "NameTwice"
rule_word rule.NoSuchName = codes "NoSuchName"
rule_word rule.WidthDiffers = codes "WidthDiffers"
rule_word rule.KindDiffers = codes "KindDiffers"
rule_word rule.NotWritable = codes "NotWritable"
rule_word rule.WrongPlace = codes "WrongPlace"
rule_word rule.ParserCycle = codes "ParserCycle"
rule_word rule.BadSize = codes "BadSize"
rule_word rule.BadMain = codes "BadMain"
rule_word rule.KeyKinds = codes "KeyKinds"
rule_word rule.Limit = codes "Limit"

-- a rule that is broken at a place
abbrev pub type_line : (name : List ℕ) (at : ℕ) → ProgramRule → List ℕ
type_line name at r = word_line area.Program name (codes "Type") at (rule_word r)
