-- Linked programs with other values, as rules answer them. Read `Linked` before it, and `Rewritten` of `rewritten_programs`.
use Rattle.std.specs.Prelude.{ℕ, List, Option}
use Rattle.std.specs.List.{AllZip}
use Rattle.indus_tree.specs.Tree.{Property}
use Rattle.p4_tree.specs.Tree.{Program}
use Rattle.network_file.specs.Network.{Network}
use Rattle.rewriting_laws.specs.Standing.{MayStandFor}
use Rattle.rewritten_programs.specs.Rewritten.{ProgramRewritten}
use Rattle.program_linker.specs.Linked.{AreLinked}

-- In the place of each there is one of a linker's: values of its controls may have others in their place, each of which may
-- stand there, and nothing else of it is another. So they are well typed, and passages, tables and registers are the same
pub record AreSimplyLinked (f : Program) (property : Property) (net : Network) (programs : List Program) (rows : List (List ℕ × (List ℕ × Option ℕ))) : Type 0 where
  pub exact : List Program
  pub linked : AreLinked f property net exact rows
  pub stand : AllZip (ProgramRewritten MayStandFor) exact programs

-- where the first programs, with these tables of control variables, are what a property is linked to, so are the second
abbrev pub StayLinked : (before after : List Program) (rows : List (List ℕ × (List ℕ × Option ℕ))) → Type 0
StayLinked before after rows = (f : Program) (property : Property) (net : Network) → AreLinked f property net before rows → AreSimplyLinked f property net after rows
