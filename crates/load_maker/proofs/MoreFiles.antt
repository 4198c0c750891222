-- One file more.
use Rattle.std.proofs.Common.{◌≡◌, ℕ, ◌+◌, List, [], ◌∷◌, ◌++◌, map, sym, ap, ◌∙◌}
use Rattle.std.specs.Global.{Vec}
use Rattle.std.specs.declared.string.String.{String}
use Rattle.std.specs.declared.alloc.Global.{Global}
use Rattle.std.proofs.lemmas.List.{map_push, append_assoc}
use Rattle.job_course.specs.Output.{file_of, files_of}
use Rattle.load_maker.specs.Numbers.{numbers}
use Rattle.load_maker.proofs.MoreNumbers.{map_more}

pub file_more : (f : ℕ → List ℕ × List ℕ) (n : ℕ) (front : List (List ℕ × List ℕ)) (old new : List (String Global × Vec ℕ)) (x : String Global × Vec ℕ)
    → new ≡ old ++ x ∷ [] → file_of x ≡ f n → files_of old ≡ front ++ map f (numbers n) → files_of new ≡ front ++ map f (numbers (n + 1))
file_more f n front old new x push is before =
    ap files_of push ∙ map_push file_of old x ∙ ap (λ xs. xs ++ file_of x ∷ []) before ∙ ap (λ y. (front ++ map f (numbers n)) ++ y ∷ []) is
    ∙ append_assoc front (map f (numbers n)) (f n ∷ []) ∙ ap (λ xs. front ++ xs) (sym (map_more f n))
