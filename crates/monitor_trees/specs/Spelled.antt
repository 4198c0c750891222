-- The trees of a property can be spelled. Read `Trees` before it, and `Spells` of `linked_programs`.
use Rattle.std.specs.Prelude.{◌≡◌, true}
use Rattle.std.specs.List.{AllByRecursion, list_all}
use Rattle.lex_text.specs.NameToken.{is_name_byte}
use Rattle.p4_meaning.specs.Scope.{Roots}
use Rattle.p4_printer.specs.CanSpell.{CanSpellExpr}
use Rattle.linked_programs.specs.Spells.{AreNames, SpellsLowered}
use Rattle.whole_properties.specs.Whole.{Given, views_in}
use Rattle.whole_properties.specs.Asked.{IsGiven}
use Rattle.monitor_trees.specs.Trees.{trees_of}

-- names that are declared are letters, digits and `_`, as those of a text are; and what header variables read can be
-- spelled, as the fields of a program can that are found under these paths
pub record HasWords (g : Given) : Type 0 where
  pub declared : AllByRecursion (λ d. list_all is_name_byte d.name ≡ true) g.property.decls
  pub views : AllByRecursion CanSpellExpr (views_in g.property.decls)

-- so can the trees, where the parameters' names are names
abbrev pub TreesCanBeSpelled : Type 0
TreesCanBeSpelled = (g : Given) → IsGiven g → HasWords g → (r q : Roots) → AreNames r → AreNames q → SpellsLowered (trees_of g r q)
