-- What the rules of types say of the variables that travel.
use Rattle.std.specs.Prelude.{ℕ, ◌≤◌, List, [], ◌∷◌}
use Rattle.indus_tree.specs.Tree.{Shape, one, list, set, dict, Decl}
use Rattle.indus_tree.specs.State.{width_of}
use Rattle.indus_tree.specs.declared.tree.DeclKind.{DeclKind}
use Rattle.indus_tree.specs.declared.tree.DeclKind.TheVariants.{Tele, Sensor, Header, Control}
use Rattle.indus_types.specs.StaticWidths.{IsWidth}

-- a list has room for 1 to 255 items
pub record IsSize (n : ℕ) : Type 0 where
  pub least : 1 ≤ n
  pub most : n ≤ 255

-- a scalar or a list, of a width that a value can have
abbrev pub IsTeleShape : Shape → Type 0
IsTeleShape (one t) = IsWidth (width_of t)
IsTeleShape (list t n) = IsWidth (width_of t) × IsSize n
IsTeleShape (set ks) = ⊥
IsTeleShape (dict ks t) = ⊥

abbrev pub IsTeleDecl : DeclKind → Shape → Type 0
IsTeleDecl Tele s = IsTeleShape s
IsTeleDecl Sensor s = Unit {0}
IsTeleDecl Header s = Unit {0}
IsTeleDecl Control s = Unit {0}

abbrev pub AreTele : List Decl → Type 0
AreTele [] = Unit {0}
AreTele (d ∷ ds) = IsTeleDecl d.kind d.shape × AreTele ds
