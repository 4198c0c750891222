-- Frames that captures hold.
use Rattle.std.proofs.Common.{nat_lt, ltb-true, ltb-false, ◌≡◌, ℕ, zero, suc, ◌+◌, ◌<◌, ◌≤◌, ◌==◌, List, [], ◌∷◌, length, map, get_or, Bool, true, false, if◌then◌else◌, All, refl, sym, ap, subst, arith}
use Rattle.std.proofs.lemmas.List.Elements.{All-nil, All-cons}
use Rattle.network_run.specs.Network.{Sent}
use Rattle.run_captures.specs.Sorted.{those_at, AreSorted, AreShort}

-- those of a number are among those that were sent
pub those_short : (key : Sent → ℕ) (n : ℕ) (xs : List Sent) → AreShort xs → AreShort (those_at key n xs)
those_short key n [] h = All-nil _
those_short key n (x ∷ xs) h = by (those_short key n xs (λ k d l. h (suc k) d (omega (arith, l)))) (key x == n)
  where
    by : AreShort (those_at key n xs) → (b : Bool) → AreShort (if b then x ∷ those_at key n xs else those_at key n xs)
    by rest true = All-cons (λ (y : Sent). length y.frame ≤ 65791) x (those_at key n xs) (h zero x (omega arith)) rest
    by rest false = rest

-- there is nothing behind the last list
past_last : (ls : List (List Sent)) (p : ℕ) → length ls ≤ p → get_or ls p [] ≡ []
past_last [] p le = refl
past_last (l ∷ ls) zero le = absurd (omega arith)
past_last (l ∷ ls) (suc p) le = past_last ls p (omega arith)

pub lists_short : (key : Sent → ℕ) (count : ℕ) (xs : List Sent) (ls : List (List Sent)) → AreShort xs → AreSorted key count xs ls → (p : ℕ) → AreShort (get_or ls p [])
lists_short key count xs ls h a p = by (nat_lt p count) refl
  where
    by : (b : Bool) → nat_lt p count ≡ b → AreShort (get_or ls p [])
    by true e = subst AreShort (sym (a.each p (omega (arith, ltb-true)))) (those_short key p xs h)
    by false e =
        let size = a.count in
        let over : length ls ≤ p = omega (arith, ltb-false, size) in
        subst AreShort (sym (past_last ls p over)) (All-nil _)
