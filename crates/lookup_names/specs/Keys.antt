-- The parts of a lookup's key. Read `Names` before it.
use Rattle.std.specs.Prelude.{ℕ, List, [], ◌∷◌}
use Rattle.indus_tree.specs.Tree.{Shape, one, list, set, dict}
use Rattle.indus_tree.specs.declared.tree.Ty.{Ty}
use Rattle.p4_tree.specs.Tree.{Expr, path}

-- the types of the parts of a key; a scalar has none
abbrev pub key_types : Shape → List Ty
key_types (one t) = []
key_types (list t n) = []
key_types (set ts) = ts
key_types (dict ts t) = ts

-- a variable
abbrev pub variable : (name : List ℕ) → Expr
variable x = path 0 (x ∷ [])
