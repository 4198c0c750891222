-- The table of a property's names, which it declares once each.
use Rattle.std.specs.Prelude.{◌≡◌, List, [], ◌∷◌, ◌++◌, false, is_some, String}
use Rattle.std.specs.declared.alloc.Global.{Global}
use Rattle.indus_tree.specs.Tree.{Decl, Property}
use Rattle.indus_tree.specs.State.{lookup}
use Rattle.indus_scopes.specs.NameTable.{names_of, texts}
use Rattle.indus_rules.specs.Rules.{IsWellTyped}

-- none of the declarations has the name of one before it
abbrev pub AreNew : (before : List Decl) → List Decl → Type 0
AreNew before [] = Unit {0}
AreNew before (d ∷ ds) = (is_some (lookup before d.name) ≡ false) × AreNew (before ++ d ∷ []) ds

-- a property that breaks no rule, and the table of its names
pub record IsTabled (p : Property) (names : List (String Global)) : Type 0 where
  pub typed : IsWellTyped p
  pub named : texts names ≡ names_of p.decls
