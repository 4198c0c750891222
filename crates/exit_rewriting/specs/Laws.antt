-- What holds of programs without `exit` and `return` that can be spelled. Read `Programs` and `Names` of `exit_programs`
-- before it, and `CanSpell` of `p4_printer`.
use Rattle.p4_tree.specs.Tree.{Program}
use Rattle.p4_printer.specs.CanSpell.{CanSpell}
use Rattle.exit_programs.specs.Names.{HasPlainNames}
use Rattle.exit_programs.specs.Programs.{program_without}

-- what can be spelled can be so without exits
abbrev pub StaysSpelled : Type 0
StaysSpelled = (p : Program) → CanSpell p → CanSpell (program_without p)

-- no name that is spelled has a point
abbrev pub PlainIfSpelled : Type 0
PlainIfSpelled = (p : Program) → CanSpell p → HasPlainNames p
