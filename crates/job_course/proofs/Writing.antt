-- Files written one after another.
use Rattle.std.proofs.Common.{◌≡◌, ◌≢◌, ℕ, ◌+◌, ◌<◌, List, [], ◌∷◌, ◌++◌, length, take, Option, Some, None, Ok, Bool, true, false, refl, sym, ◌∙◌, ap, if◌then◌else◌, slice_index_or}
use Rattle.std.specs.Bool.{Decides}
use Rattle.std.specs.Str.{bytes_eq}
use Rattle.std.proofs.lemmas.List.{take_more}
use Rattle.std.proofs.lemmas.Slice.Eq.{bytes_eq-Decides}
use Rattle.outside.specs.Files.{Files, with_file, ToldBoth}
use Rattle.outside.specs.Reading.{Writes}
use Rattle.job_course.specs.Ending.{with_files, HasWritten}

with_files_more : (f : Files) (xs : List (List ℕ × List ℕ)) (e : List ℕ × List ℕ) (name : List ℕ)
    → with_files f (xs ++ e ∷ []) name ≡ with_file (with_files f xs) e.0 e.1 name
with_files_more f [] e name = refl
with_files_more f (x ∷ xs) e name = with_files_more (with_file f x.0 x.1) xs e name

false-ne-true : false ≡ true → ⊥
false-ne-true e = cc

-- what a write leaves under a name is what the list sets there
written_at : (b : Bool) (name other bytes : List ℕ) (old new : Option (List ℕ)) → Decides b (name ≡ other)
    → (other ≡ name → new ≡ Some bytes) → (other ≢ name → new ≡ old) → new ≡ (if b then Some bytes else old)
written_at true name other bytes old new d here others = here (sym (d.0 refl))
written_at false name other bytes old new d here others = others (λ e. absurd (false-ne-true (d.1 (sym e))))

pub written_more : (list : List (List ℕ × List ℕ)) (n : ℕ) (s t u : Option Files) (name bytes : List ℕ)
    → n < length list → slice_index_or list n ([], []) ≡ (name, bytes)
    → HasWritten (take n list) s t → ToldBoth t u (λ f g. Writes f g name bytes (Ok tt)) → HasWritten (take (n + 1) list) s u
written_more list n None None None name bytes lt entry before write = tt
written_more list n None None (Some h) name bytes lt entry before write = write
written_more list n None (Some g) u name bytes lt entry before write = absurd before
written_more list n (Some f) None u name bytes lt entry before write = absurd before
written_more list n (Some f) (Some g) None name bytes lt entry before write = write
written_more list n (Some f) (Some g) (Some h) name bytes lt entry before write = λ other.
    let front = take n list in
    let turn : h other ≡ with_file (with_files f front) name bytes other =
    written_at (bytes_eq name other) name other bytes (with_files f front other) (h other) (bytes_eq-Decides name other)
    (λ e. ap h e ∙ write.here) (λ ne. write.others other ne ∙ before other) in
    let all : take (n + 1) list ≡ front ++ (name, bytes) ∷ [] =
    take_more list n ([], []) lt ∙ ap (λ e. front ++ e ∷ []) entry in
    turn ∙ sym (ap (λ l. with_files f l other) all ∙ with_files_more f front (name, bytes) other)
