-- What is asked of the names of a program. Read `Programs` before it, `OldPrograms` of `p4_rule_laws` and `Plain` of
-- `p4_typing_laws`.
use Rattle.std.specs.Prelude.{codes, ℕ, List, Bool, not}
use Rattle.lex_text.specs.Comments.{begins}
use Rattle.p4_tree.specs.Tree.{Program}
use Rattle.p4_rule_laws.specs.Old.{OldPath}
use Rattle.p4_rule_laws.specs.OldPrograms.{OldTops}
use Rattle.p4_typing_laws.specs.Plain.{is_plain}

-- a name that is not kept for what is added to programs
abbrev pub is_given : List ℕ → Bool
is_given x = not (begins (codes "hydra_") x)

-- no name that a program declares or uses begins with `hydra_`
pub record HasGivenNames (p : Program) : Type 0 where
  pub tops : OldTops is_given p.tops
  pub main : OldPath is_given p.main

-- no name that a program declares or uses has a point
pub record HasPlainNames (p : Program) : Type 0 where
  pub tops : OldTops is_plain p.tops
