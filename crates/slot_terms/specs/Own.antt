-- The width that an expression has of its own, known before its slots are. Read `Places` before it.
use Rattle.std.specs.Prelude.{◌≡◌, ℕ, List, Bool}
use Rattle.p4_tree.specs.Tree.{Expr}
use Rattle.p4_meaning.specs.Store.{Store}
use Rattle.p4_meaning.specs.Value.{own_width}
use Rattle.slot_terms.specs.Places.{Places, Shows}

-- in each store that slots can show, the expression has this width of its own
abbrev pub IsOwn : Places → Expr → (n : ℕ) → Type 0
IsOwn m e n = (slots : List ℕ) (valid : List Bool) (s : Store) → Shows m slots valid s → own_width e s ≡ n
