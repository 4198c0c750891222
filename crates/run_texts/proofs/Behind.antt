-- Files behind others.
use Rattle.std.proofs.Common.{◌≡◌, ℕ, List, ◌++◌, ap, ◌∙◌, append_assoc}

abbrev pub Files : Type 0
Files = List (List ℕ × List ℕ)

-- and others behind these
pub then_more : (some one two a b : Files) → one ≡ some ++ a → two ≡ one ++ b → two ≡ some ++ (a ++ b)
then_more some one two a b e f = f ∙ ap (λ (fs : Files). fs ++ b) e ∙ append_assoc some a b
