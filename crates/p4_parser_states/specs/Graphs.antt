-- Graphs: states by their numbers, each with the numbers that follow it.
use Rattle.std.specs.Prelude.{◌≡◌, ◌⊎◌, ℕ, ◌<◌, List, [], ◌∷◌, Bool, true, false, map, length, slice_index_or, Vec}
use Rattle.std.specs.declared.alloc.Global.{Global}
use Rattle.p4_parser_states.specs.Cycles.{Steps}

-- it stands in the list
abbrev pub In : {A : Type 0} → A → List A → Type 0
In a [] = ⊥
In a (x ∷ xs) = (a ≡ x) ⊎ In a xs

-- the second follows the first
abbrev pub Follows : List (List ℕ) → ℕ → ℕ → Type 0
Follows g x y = In y (slice_index_or g x [])

-- what follows is a number of the graph
pub record IsGraph (g : List (List ℕ)) : Type 0 where
  pub within : (x y : ℕ) → Follows g x y → y < length g

-- this says whether it reaches itself
abbrev pub Tells : (ℕ → ℕ → Type 0) → Bool → ℕ → Type 0
Tells R true x = Steps R x x
Tells R false x = Steps R x x → ⊥

-- the graph that lists of numbers hold
abbrev pub graph_of : List (Vec ℕ Global) → List (List ℕ)
graph_of follows = map (λ f. f.items) follows
