-- Cases as lists.
use Rattle.std.proofs.Common.{◌≡◌, ℕ, List, [], ◌∷◌, ◌++◌, map, refl, ap}
use Rattle.linked_halves.specs.ParserStates.{link_case, last_case, link_cases}

pub cases_append : (ports : List ℕ) → map link_case ports ++ last_case ∷ [] ≡ link_cases ports
cases_append [] = refl
cases_append (n ∷ ns) = ap (λ cs. link_case n ∷ cs) (cases_append ns)
