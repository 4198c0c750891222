-- Texts of lists, put element by element. R gives the words of a list, and f those of an element.
use Rattle.std.proofs.Common.{◌≡◌, ℕ, ◌+◌, ◌-◌, ◌<◌, ◌≤◌, List, [], ◌∷◌, ◌++◌, length, get_or, take, drop, sym, ap, ◌∙◌, append_assoc, arith}
use Rattle.std.proofs.lemmas.Grind.{common_steps, take_at_read}
use Rattle.std.proofs.lemmas.List.{append-nil}
use Rattle.lex_words.specs.Seen.{Lexeme}
use Rattle.p4_printer.specs.Layout.{Sheet, written, each_after, separated}
use Rattle.p4_printer.proofs.Texts.{nothing_put, follows}

-- the words of a list with an element more
pub one_more : {A : Type 0} (R : List A → List Lexeme) (f : A → List Lexeme) → R [] ≡ [] → ((x : A) (xs : List A) → R (x ∷ xs) ≡ f x ++ R xs) → (xs : List A) (x : A) → R (xs ++ x ∷ []) ≡ R xs ++ f x
one_more R f nil cons [] x = cons x [] ∙ ap (λ z. f x ++ z) nil ∙ append-nil (f x) ∙ sym (ap (λ z. z ++ f x) nil)
one_more R f nil cons (y ∷ ys) x =
    cons y (ys ++ x ∷ []) ∙ ap (λ z. f y ++ z) (one_more R f nil cons ys x) ∙ sym (append_assoc (f y) (R ys) (f x)) ∙ ap (λ z. z ++ f x) (sym (cons y ys))

-- a loop's step
pub step : {A : Type 0} (R : List A → List Lexeme) (f : A → List Lexeme) → R [] ≡ [] → ((x : A) (xs : List A) → R (x ∷ xs) ≡ f x ++ R xs)
    → (start old new : Sheet) (xs : List A) (x : A) (i : ℕ) → i < length xs → x ≡ get_or xs i x → old ≡ written start (R (take i xs)) → new ≡ written old (f x) → new ≡ written start (R (take (i + 1) xs))
step R f nil cons start old new xs x i lt is p q =
    follows start old new (R (take i xs)) (f x) p q
    ∙ ap (λ z. written start z) (sym (one_more R f nil cons (take i xs) x) ∙ ap R (ap (λ z. take i xs ++ z ∷ []) is ∙ sym (take_at_read xs i x lt).1))

-- a list of no elements, with a mark between each two
pub none_put : {A : Type 0} (mark : Lexeme) (G : List A → List (List Lexeme)) → G [] ≡ [] → (old : Sheet) (xs : List A) → length xs < 1 → old ≡ written old (separated mark (G xs))
none_put mark G nil old [] lt = nothing_put old ∙ ap (λ z. written old (separated mark z)) (sym nil)
none_put mark G nil old (x ∷ xs) lt = absurd (omega arith)

-- a first element, and then the others with a mark before each
pub some_put : {A : Type 0} (mark : Lexeme) (G : List A → List (List Lexeme)) (f : A → List Lexeme) → ((x : A) (xs : List A) → G (x ∷ xs) ≡ f x ∷ G xs)
    → (old one new : Sheet) (xs : List A) (x : A) → 1 ≤ length xs → x ≡ get_or xs 0 x → one ≡ written old (f x)
    → new ≡ written one (each_after mark (G (take (length xs - 1) (drop 1 xs)))) → new ≡ written old (separated mark (G xs))
some_put mark G f cons old one new [] x lt is p q = absurd (omega arith)
some_put mark G f cons old one new (y ∷ ys) x lt is p q =
    let all : take (length (y ∷ ys) - 1) ys ≡ ys = grind (arith, common_steps) in
    follows old one new (f y) (each_after mark (G ys)) (p ∙ ap (λ z. written old (f z)) is) (q ∙ ap (λ z. written one (each_after mark (G z))) all)
    ∙ ap (λ z. written old (separated mark z)) (sym (cons y ys))
