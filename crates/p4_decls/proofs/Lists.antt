-- Lists that are seen as they are.
use Rattle.std.proofs.Common.{◌≡◌, List, map}
use Rattle.std.proofs.lemmas.List.{map-id}

pub same_map : {A : Type 0} (xs : List A) → map (λ x. x) xs ≡ xs
same_map xs = map-id xs

pub ruleset same_maps = (same_map)
