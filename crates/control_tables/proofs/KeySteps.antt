-- The keys of the parts that are left.
use Rattle.std.proofs.Common.{◌≡◌, ℕ, zero, suc, ◌+◌, ◌<◌, List, [], ◌∷◌, length, drop, refl, sym, ap, ◌∙◌, arith}
use Rattle.indus_tree.specs.declared.tree.Ty.{Ty}
use Rattle.control_tables.specs.Tables.{key_at, keys_from}

pub next_key : (n k : ℕ) (ts : List Ty) (i : ℕ) → i < length ts → keys_from n k (drop i ts) ≡ key_at n k ∷ keys_from n (k + 1) (drop (i + 1) ts)
next_key n k [] i h = absurd (omega arith)
next_key n k (t ∷ ts) zero h = refl
next_key n k (t ∷ ts) (suc i) h =
    let next : suc i + 1 ≡ suc (i + 1) = omega arith in
    next_key n k ts i (omega arith) ∙ ap (λ (m : ℕ). key_at n k ∷ keys_from n (k + 1) (drop m (t ∷ ts))) (sym next)
