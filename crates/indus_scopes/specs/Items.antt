-- Loops: what is in sight inside one, names that are there again, and the items of the loops around in one table, those
-- of the outermost loop first. Read `Scopes` and `Uses` before it.
use Rattle.std.specs.Prelude.{ℕ, List, [], ◌∷◌, ◌++◌, Bool, true, false, not, ◌&&◌, ◌||◌, Option, Some, None}
use Rattle.lex_text.specs.Names.{same_text}
use Rattle.indus_tree.specs.Tree.{Decl}
use Rattle.indus_scopes.specs.Scopes.{Around, Sight, list_item, role_of}
use Rattle.indus_scopes.specs.Uses.{is_missing}
use Rattle.indus_scopes.specs.declared.kind.Kind.{Kind}
use Rattle.indus_scopes.specs.declared.kind.Kind.TheVariants.{Unknown}

abbrev pub among : List (List ℕ) → List ℕ → Bool
among [] x = false
among (y ∷ ys) x = same_text y x || among ys x

-- a name stands for something already, or is there twice
abbrev pub repeats : Sight → List (List ℕ) → Bool
repeats s [] = false
repeats s (x ∷ xs) = not (is_missing (role_of s x)) || among xs x || repeats s xs

-- what is in sight inside a loop
abbrev pub within : Sight → (names lists : List (List ℕ)) → Sight
within s ns ls = record s { loops = (record { names = ns; lists = ls }) ∷ s.loops }

-- ---- the table

-- the names of the items
abbrev pub item_names : List Around → List (List ℕ)
item_names [] = []
item_names (l ∷ ls) = item_names ls ++ l.names

-- what the items of a loop are
abbrev pub kinds_in : List Decl → (names lists : List (List ℕ)) → List Kind
kinds_in ds [] ls = []
kinds_in ds (n ∷ ns) [] = Unknown ∷ kinds_in ds ns []
kinds_in ds (n ∷ ns) (l ∷ ls) = list_item ds l ∷ kinds_in ds ns ls

-- what the item beside a list is
abbrev pub kind_at : List Decl → Option (List ℕ) → Kind
kind_at ds None = Unknown
kind_at ds (Some l) = list_item ds l

-- what the items are
abbrev pub item_kinds : List Decl → List Around → List Kind
item_kinds ds [] = []
item_kinds ds (l ∷ ls) = item_kinds ds ls ++ kinds_in ds l.names l.lists

-- no name is there twice
abbrev pub distinct : List (List ℕ) → Bool
distinct [] = true
distinct (x ∷ xs) = not (among xs x) && distinct xs
