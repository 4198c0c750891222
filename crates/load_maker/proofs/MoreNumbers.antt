-- One number more.
use Rattle.std.proofs.Common.{◌≡◌, ℕ, ◌+◌, List, [], ◌∷◌, ◌++◌, Bool, cond, map, refl, ap, ◌∙◌, add-one}
use Rattle.std.specs.List.{flat_map, filter}
use Rattle.std.proofs.lemmas.List.{map_push, append-nil}
use Rattle.std.proofs.lemmas.Grind.{flat_map-append}
use Rattle.std.proofs.lemmas.List.Elements.{filter-append}
use Rattle.serde_json.specs.Data.{Data, Members, put}
use Rattle.load_maker.specs.Numbers.{numbers}
use Rattle.load_maker.specs.Values.{put_all}

pub numbers_none : numbers 0 ≡ []
unfolding numbers
numbers_none = refl

pub numbers_more : (n : ℕ) → numbers (n + 1) ≡ numbers n ++ n ∷ []
unfolding numbers
numbers_more n = ap numbers (add-one n)

pub map_more : {A : Type 0} (f : ℕ → A) (n : ℕ) → map f (numbers (n + 1)) ≡ map f (numbers n) ++ f n ∷ []
map_more f n = ap (map f) (numbers_more n) ∙ map_push f (numbers n) n

pub flat_map_more : {A : Type 0} (f : ℕ → List A) (n : ℕ) → flat_map f (numbers (n + 1)) ≡ flat_map f (numbers n) ++ f n
flat_map_more f n = ap (flat_map f) (numbers_more n) ∙ flat_map-append f (numbers n) (n ∷ []) ∙ ap (λ xs. flat_map f (numbers n) ++ xs) (append-nil (f n))

pub filter_more : (p : ℕ → Bool) (n : ℕ) → filter p (numbers (n + 1)) ≡ filter p (numbers n) ++ cond (p n) (n ∷ []) []
filter_more p n = ap (filter p) (numbers_more n) ∙ filter-append p (numbers n) (n ∷ [])

-- one member more
pub put_none : (name : ℕ → List ℕ) (value : ℕ → Data) (ms : Members) → put_all name value 0 ms ≡ ms
unfolding put_all
put_none name value ms = refl

pub put_more : (name : ℕ → List ℕ) (value : ℕ → Data) (n : ℕ) (ms : Members) → put_all name value (n + 1) ms ≡ put (name n) (value n) (put_all name value n ms)
unfolding put_all
put_more name value n ms = ap (λ k. put_all name value k ms) (add-one n)
