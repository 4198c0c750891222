-- What is counted of a program. Read `Limits` of `p4_rules` before it.
use Rattle.std.specs.Prelude.{◌≡◌}
use Rattle.p4_tree.specs.Tree.{Program}
use Rattle.p4_rules.specs.Limits.{header_bytes, most_of_program, cells}
use Rattle.p4_rules.specs.ProgramRules.{program_scope}
use Rattle.p4_types.specs.declared.typed.Counts.{Counts}

-- these are the counts of the program
pub record AreCounts (p : Program) (c : Counts) : Type 0 where
  pub header_bytes : c.header_bytes ≡ header_bytes (program_scope p) p
  pub digest_bound : c.digest_bound ≡ most_of_program p
  pub cells : c.cells ≡ cells p
