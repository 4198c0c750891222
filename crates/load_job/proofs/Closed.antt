-- Courses that ask for no file but those that are there.
use Rattle.std.proofs.Common.{◌≡◌, ℕ, List, None, subst}
use Rattle.outside.specs.Files.{Files}
use Rattle.job_course.specs.Course.{Course}

abbrev pub IsThere : Files → List ℕ → Type 0
IsThere f n = f n ≡ None → ⊥

abbrev pub IsClosed : {J : Type 0} → Files → Course J → Type 0
IsClosed f c = (n : List ℕ) → c.asks f n → IsThere f n

-- a file by another name of the same bytes
pub named : (f : Files) (x n : List ℕ) → IsThere f x → n ≡ x → IsThere f n
named f x n held is none = held (subst (λ (m : List ℕ). f m ≡ None) is none)
