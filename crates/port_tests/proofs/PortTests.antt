-- Tests of ports. Joining neighbours halves the number of tests and makes them higher by one, so 512 tests that are joined
-- nine times are one.
use Rattle.std.proofs.Common.{◌≡◌, ℕ, zero, suc, ◌+◌, ◌-◌, ◌^◌, ◌≤◌, max, List, [], ◌∷◌, ◌++◌, length, map, refl, ap, ◌∙◌, arith}
use Rattle.std.proofs.lemmas.List.{length-map}
use Rattle.std.proofs.Math.Nat.{le-max_left, le-max_right, max-le, pow-suc}
use Rattle.p4_tree.specs.Tree.{Expr, binary}
use Rattle.p4_tree.specs.View.{expr_of}
use Rattle.p4_tree.specs.declared.statement.Expr as code
use Rattle.p4_tree.specs.declared.statement.Op.TheVariants.{Either}
use Rattle.p4_tree.specs.Height.{highest, expr_height}
use Rattle.linked_halves.specs.Statements.{port_test, joined_pairs, joined, any_of}
use Rattle.port_tests.specs.Laws.{TestsAreLow}

-- the last test, joined to what stands behind it
pub any_of-last : (xs : List code.Expr) (x : code.Expr) (e : Expr) → any_of (map expr_of xs ++ binary 0 Either (expr_of x) e ∷ []) ≡ any_of (map expr_of (xs ++ x ∷ []) ++ e ∷ [])
any_of-last [] x e = refl
any_of-last (y ∷ []) x e = refl
any_of-last (y ∷ z ∷ ys) x e = ap (binary 0 Either (expr_of y)) (any_of-last (z ∷ ys) x e)

-- pairs that are joined once less
pub joined-less : (times : ℕ) (es pairs : List Expr) → (times ≡ 0 → ⊥) → pairs ≡ joined_pairs es → joined (times - 1) pairs ≡ joined times es
joined-less zero es pairs some e = absurd (some refl)
joined-less (suc n) es pairs some e = ap (λ k. joined k pairs) (let less : suc n - 1 ≡ n = omega arith in less) ∙ ap (joined n) e

pairs_few : (n : ℕ) (es : List Expr) → length es ≤ n + n → length (joined_pairs es) ≤ n
pairs_few n [] few = omega arith
pairs_few zero (a ∷ es) few = absurd (omega (arith, few))
pairs_few (suc n) (a ∷ []) few = omega arith
pairs_few (suc n) (a ∷ b ∷ es) few = omega (arith, pairs_few n es (omega (arith, few)))

pairs_low : (h : ℕ) (es : List Expr) → highest expr_height es ≤ h → highest expr_height (joined_pairs es) ≤ suc h
pairs_low h [] low = omega arith
pairs_low h (a ∷ []) low = omega (arith, low)
pairs_low h (a ∷ b ∷ es) low =
    let rest = highest expr_height es in
    let others = max (expr_height b) rest in
    let one : expr_height a ≤ h = omega (arith, low, le-max_left (expr_height a) others) in
    let both : others ≤ h = omega (arith, low, le-max_right (expr_height a) others) in
    let other : expr_height b ≤ h = omega (arith, both, le-max_left (expr_height b) rest) in
    let left : rest ≤ h = omega (arith, both, le-max_right (expr_height b) rest) in
    let pair : max (expr_height a) (expr_height b) ≤ h = max-le one other in
    max-le (omega (arith, pair)) (pairs_low h es left)

joined_few : (times : ℕ) (es : List Expr) → length es ≤ 2 ^ times → length (joined times es) ≤ 1
joined_few zero es few = few
joined_few (suc n) es few = joined_few n (joined_pairs es) (pairs_few (2 ^ n) es (omega (arith, few, pow-suc 2 n)))

joined_low : (times h : ℕ) (es : List Expr) → highest expr_height es ≤ h → highest expr_height (joined times es) ≤ times + h
joined_low zero h es low = omega (arith, low)
joined_low (suc n) h es low = omega (arith, joined_low n (suc h) (joined_pairs es) (pairs_low h es low))

tests_low : (p : List (List ℕ)) (ports : List ℕ) → highest expr_height (map (port_test p) ports) ≤ 2
tests_low p [] = omega arith
tests_low p (n ∷ ns) = max-le (omega arith) (tests_low p ns)

one_low : (h : ℕ) (es : List Expr) → length es ≤ 1 → highest expr_height es ≤ h → 1 ≤ h → expr_height (any_of es) ≤ h
one_low h [] few low high = high
one_low h (a ∷ []) few low high = omega (arith, low, le-max_left (expr_height a) 0)
one_low h (a ∷ b ∷ es) few low high = absurd (omega (arith, few))

pub tests_are_low : TestsAreLow
tests_are_low p ports few =
    let tests = map (port_test p) ports in
    let fits : length tests ≤ 2 ^ 9 = omega (arith, few, length-map ports (port_test p)) in
    one_low 11 (joined 9 tests) (joined_few 9 tests fits) (joined_low 9 2 tests (tests_low p ports)) (omega arith)
