-- Sums that loops reckon from the left: bits over whole bytes, and digests.
use Rattle.std.proofs.Common.{◌≡◌, ℕ, suc, ◌+◌, ◌<◌, ◌%◌, List, [], ◌∷◌, length, drop, drop-cons, get_or, refl, sym, ap, ◌∙◌, arith}
use Rattle.p4_tree.specs.declared.statement.PTy.{PTy}
use Rattle.p4_scopes.specs.Kinds.{width_in}
use Rattle.p4_scopes.specs.Scopes.{Scope, kind_in}
use Rattle.p4_declaration_rules.specs.Declarations.{bits_over}

twice : (n : ℕ) → (0 + n % 8) % 8 ≡ n % 8
twice n = omega arith

pub bits_at_first : (s : Scope) (fs : List (PTy × List ℕ)) → (0 + bits_over s fs) % 8 ≡ bits_over s fs
bits_at_first s [] = refl
bits_at_first s (f ∷ fs) = twice (width_in (kind_in s f.0) + bits_over s fs)

regroup : (b k r : ℕ) → ((b + k) % 8 + r) % 8 ≡ (b + (k + r) % 8) % 8
regroup b k r = omega arith

-- one field more
pub bits_next : (s : Scope) (fs : List (PTy × List ℕ)) (i b : ℕ) (f : PTy × List ℕ) → i < length fs → f ≡ get_or fs i f
    → ((b + width_in (kind_in s f.0)) % 8 + bits_over s (drop (i + 1) fs)) % 8 ≡ (b + bits_over s (drop i fs)) % 8
bits_next s fs i b f lt is =
    let more : i + 1 ≡ suc i = omega arith in
    let rest : drop i fs ≡ f ∷ drop (i + 1) fs = drop-cons fs i f lt ∙ ap (λ x. x ∷ drop (suc i) fs) (sym is) ∙ ap (λ (m : ℕ). f ∷ drop m fs) (sym more) in
    regroup b (width_in (kind_in s f.0)) (bits_over s (drop (i + 1) fs)) ∙ ap (λ xs. (b + bits_over s xs) % 8) (sym rest)
