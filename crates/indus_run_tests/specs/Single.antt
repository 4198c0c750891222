-- One declaration or one edition, at the place 7, and the first rule that it breaks.
use Rattle.std.specs.Prelude.{codes, ℕ, [], ◌∷◌, false, Option, Some, None}
use Rattle.indus_tree.specs.Tree.{Shape, Expr, Decl, done}
use Rattle.indus_tree.specs.declared.tree.DeclKind.{DeclKind}
use Rattle.indus_rules.specs.Sites.{decl_sites, property_sites}
use Rattle.indus_rules.specs.Rules.{first}
use Rattle.indus_rules.specs.declared.rule.Rule.{Rule}

abbrev pub declared : DeclKind → Shape → Decl
declared k s = record { at = 7; kind = k; name = codes "x"; shape = s; start = None; path = []; valid = false }

-- with an initial value
abbrev pub started : DeclKind → Shape → Expr → Decl
started k s e = record { at = 7; kind = k; name = codes "x"; shape = s; start = Some e; path = []; valid = false }

abbrev pub first_of : Decl → Option (ℕ × Rule)
first_of d = first (decl_sites [] (d ∷ []))

-- an empty property of an edition
abbrev pub of_edition : ℕ → Option (ℕ × Rule)
of_edition n = first (property_sites (record { at = 7; edition = n; decls = []; init = done; tele = done; check = done }))
