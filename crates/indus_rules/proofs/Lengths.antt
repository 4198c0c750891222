-- As many items as lists are lists of one length.
use Rattle.std.proofs.Common.{◌≡◌, ◌∙◌, ℕ, List, [], ◌∷◌, length, refl, nat_eq}
use Rattle.indus_scopes.proofs.Lengths.{none_some, some_none, both_more}
use Rattle.indus_rules.specs.Rules.{same_count}

pub one_length : (ns ls : List (List ℕ)) → nat_eq (length ns) (length ls) ≡ same_count ns ls
one_length [] [] = refl
one_length [] (l ∷ ls) = none_some (length ls)
one_length (n ∷ ns) [] = some_none (length ns)
one_length (n ∷ ns) (l ∷ ls) = both_more (length ns) (length ls) ∙ one_length ns ls
