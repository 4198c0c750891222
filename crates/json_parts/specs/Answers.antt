-- What readers answer, and readers one behind the other.
use Rattle.std.specs.Prelude.{◌≡◌, Result, Ok, Err}

-- what is read next, with what was read before; the first fault is the answer
infixl 10 ◌>>=◌
abbrev pub ◌>>=◌ : {E A B : Type 0} → Result A E → (A → Result B E) → Result B E
(Ok x) >>= next = next x
(Err e) >>= next = Err e

-- an answer, with its value seen by `view`, is what a definition gives, unless memory was wanting
abbrev pub GivesUnless : {E X Y : Type 0} → E → (X → Y) → Result X E → Result Y E → Type 0
GivesUnless memory view (Ok x) defined = defined ≡ Ok (view x)
GivesUnless memory view (Err e) defined = (e ≡ memory → ⊥) → defined ≡ Err e

-- an answer with its fault as one of another type
abbrev pub with_fault : {D E X : Type 0} → (D → E) → Result X D → Result X E
with_fault f (Ok x) = Ok x
with_fault f (Err e) = Err (f e)
