-- What is linked of a program without fault. Read `WrittenNames` of `link_faults` before it, and `Trees` of
-- `tree_linkage`.
use Rattle.std.specs.Prelude.{◌≡◌, None}
use Rattle.p4_tree.specs.Tree.{Program}
use Rattle.p4_rules.specs.ProgramRules.{IsWellTyped}
use Rattle.p4_printer.specs.CanSpell.{CanSpell}
use Rattle.tree_linkage.specs.Trees.{CanLink}
use Rattle.link_faults.specs.WrittenNames.{names_of_program, first_taken}

-- a well-typed program of a text in which no name is taken can be linked: its linked trees are a linkage
abbrev pub NoFaultCanLink : Type 0
NoFaultCanLink = (f : Program) → IsWellTyped f → CanSpell f → first_taken (names_of_program f) ≡ None → CanLink f
