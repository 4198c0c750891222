-- The lists of the states at the start, in order of declaration.
use Rattle.std.specs.Prelude.{List, [], ◌∷◌, if◌then◌else◌}
use Rattle.bit_values.specs.Bits.{Word}
use Rattle.indus_tree.specs.Tree.{Decl}
use Rattle.indus_tree.specs.Start.{start_of_decl, sensor_of_decl}
use Rattle.indus_tree.specs.Hops.{same_kind}
use Rattle.indus_tree.specs.declared.tree.DeclKind.{DeclKind}
use Rattle.indus_tree.specs.declared.tree.DeclKind.TheVariants.{Tele, Sensor}
use Rattle.std.specs.Prelude.{Option, Some}

-- one list for each variable of a kind
abbrev pub lists_for : DeclKind → (Option Decl → List Word) → List Decl → List (List Word)
lists_for k f [] = []
lists_for k f (d ∷ ds) = if same_kind k d.kind then f (Some d) ∷ lists_for k f ds else lists_for k f ds

abbrev pub tele_lists : List Decl → List (List Word)
tele_lists = lists_for Tele start_of_decl

abbrev pub sensor_lists : List Decl → List (List Word)
sensor_lists = lists_for Sensor sensor_of_decl
