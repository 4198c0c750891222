-- First words of variables, and their places. Read `Places` of `slot_terms` before it.
use Rattle.std.specs.Prelude.{ℕ, List, [], ◌∷◌, Bool, Option, None}
use Rattle.p4_tree.specs.Tree.{Expr}
use Rattle.p4_tree.specs.declared.statement.PTy.{PTy}
use Rattle.p4_meaning.specs.Store.{Store}
use Rattle.p4_meaning.specs.Statements.{start_of}
use Rattle.slot_terms.specs.Typed.{Typed, Gives}
use Rattle.slot_terms.specs.Places.{Places, Shows, IsAdded}

-- over slots that show a store, a term gives the first word of a variable
abbrev pub Starts : Places → PTy → Option Expr → Typed → Type 0
Starts m ty e t = (slots : List ℕ) (valid : List Bool) (s : Store) → Shows m slots valid s → Gives t slots valid (start_of ty e s)

-- the variable of a name has the next slot, and had no place
abbrev pub IsNew : (m n : Places) → (name : List ℕ) → (width slot : ℕ) → Type 0
IsNew m n x width slot = IsAdded m n (x ∷ []) width None slot
