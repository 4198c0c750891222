-- One value more behind those of numbers.
use Rattle.std.proofs.Common.{◌≡◌, ℕ, ◌+◌, List, [], ◌∷◌, ◌++◌, ◌==◌, Bool, true, false, not, cond, map, sym, ap, ◌∙◌, ne_eqb, eq-eqb}
use Rattle.std.specs.List.{filter}
use Rattle.std.proofs.lemmas.List.{map_push, map-append, append_assoc, append-nil}
use Rattle.serde_json.specs.Data.{Data}
use Rattle.serde_json.specs.View.{view}
use Rattle.serde_json.specs.declared.value.Value.{Value}
use Rattle.load_maker.specs.Numbers.{numbers}
use Rattle.load_maker.proofs.MoreNumbers.{map_more, filter_more}

-- a value is pushed
pushed : (old new : List Value) (x : Value) (front back : List Data) (d : Data) → new ≡ old ++ x ∷ [] → view x ≡ d → map view old ≡ front ++ back → map view new ≡ front ++ (back ++ d ∷ [])
pushed old new x front back d push is before =
    ap (map view) push ∙ map_push view old x ∙ ap (λ xs. xs ++ view x ∷ []) before ∙ ap (λ y. (front ++ back) ++ y ∷ []) is ∙ append_assoc front back (d ∷ [])

pub value_more : (f : ℕ → Data) (n : ℕ) (front : List Data) (old new : List Value) (x : Value) → new ≡ old ++ x ∷ [] → view x ≡ f n
    → map view old ≡ front ++ map f (numbers n) → map view new ≡ front ++ map f (numbers (n + 1))
value_more f n front old new x push is before =
    pushed old new x front (map f (numbers n)) (f n) push is before ∙ ap (λ xs. front ++ xs) (sym (map_more f n))

-- those of the numbers but one
abbrev but : ℕ → ℕ → Bool
but i m = not (m == i)

by_test : (f : ℕ → Data) (i n : ℕ) (b : Bool) → (n == i) ≡ b → map f (filter (but i) (numbers (n + 1))) ≡ map f (filter (but i) (numbers n)) ++ map f (cond (not b) (n ∷ []) [])
by_test f i n b e =
    ap (map f) (filter_more (but i) n ∙ ap (λ t. filter (but i) (numbers n) ++ cond (not t) (n ∷ []) []) e)
    ∙ map-append f (filter (but i) (numbers n)) (cond (not b) (n ∷ []) [])

pub other_more : (f : ℕ → Data) (i n : ℕ) (front : List Data) (old new : List Value) (x : Value) → (n ≡ i → ⊥) → new ≡ old ++ x ∷ [] → view x ≡ f n
    → map view old ≡ front ++ map f (filter (λ m. not (m == i)) (numbers n)) → map view new ≡ front ++ map f (filter (λ m. not (m == i)) (numbers (n + 1)))
other_more f i n front old new x other push is before =
    pushed old new x front (map f (filter (but i) (numbers n))) (f n) push is before
    ∙ ap (λ xs. front ++ xs) (sym (by_test f i n false (ne_eqb n i other)))

pub other_past : (f : ℕ → Data) (i n : ℕ) (front : List Data) (old : List Value) → n ≡ i
    → map view old ≡ front ++ map f (filter (λ m. not (m == i)) (numbers n)) → map view old ≡ front ++ map f (filter (λ m. not (m == i)) (numbers (n + 1)))
other_past f i n front old own before =
    before ∙ ap (λ xs. front ++ xs) (sym (by_test f i n true (eq-eqb n i own) ∙ append-nil (map f (filter (but i) (numbers n)))))
