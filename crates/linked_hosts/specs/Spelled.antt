-- A linked program can be spelled. Read `Linkable` before it, and `Spells` of `linked_programs`.
use Rattle.std.specs.Prelude.{ℕ, ◌<◌, ◌^◌, List}
use Rattle.std.specs.List.{AllByRecursion}
use Rattle.p4_tree.specs.Tree.{Program}
use Rattle.p4_printer.specs.CanSpell.{CanSpell}
use Rattle.linked_programs.specs.Lowered.{Lowered}
use Rattle.linked_programs.specs.Linked.{linked}
use Rattle.linked_programs.specs.Spells.{SpellsLowered}
use Rattle.linked_hosts.specs.Linkable.{IsGiven}

abbrev pub LinkedIsSpelled : Type 0
LinkedIsSpelled = (l : Lowered) (size s : ℕ) (links : List ℕ) (p : Program) → IsGiven p → SpellsLowered l → size < 2 ^ 128 → s < 2 ^ 128 → AllByRecursion (λ n. n < 2 ^ 128) links → CanSpell (linked l size s links p)
