-- Cells that are counted from the left.
use Rattle.std.proofs.Common.{◌≡◌, ℕ, ◌+◌, ◌<◌, ◌≤◌, min, Bool, true, false, nat_lt, List, [], ◌∷◌, refl, ap, sym, ◌∙◌, arith}
use Rattle.std.proofs.Math.Nat.{min-le_right, min-eq_left, min-eq_right}
use Rattle.std.proofs.lemmas.Bool.{ltb-true, ltb-false}
use Rattle.p4_tree.specs.Tree.{Local, Top}
use Rattle.p4_rules.specs.Limits.{add_cells, local_cells, locals_cells, top_cells, tops_cells}

-- what was counted so far, and what is left, is the whole
pub record IsCount (some rest whole : ℕ) : Type 0 where
  pub sum : add_cells some rest ≡ whole
  pub few : some ≤ 18446744073709551615

cut_cells : (a b : ℕ) → add_cells a b ≤ 18446744073709551615
cut_cells a b = min-le_right (a + b) 18446744073709551615

few_locals : (ls : List Local) → locals_cells ls ≤ 18446744073709551615
few_locals [] = omega arith
few_locals (l ∷ ls) = cut_cells (local_cells l) (locals_cells ls)

few_tops : (ts : List Top) → tops_cells ts ≤ 18446744073709551615
few_tops [] = omega arith
few_tops (t ∷ ts) = cut_cells (top_cells t) (tops_cells ts)

at_first : (n : ℕ) → n ≤ 18446744073709551615 → IsCount 0 n n
at_first n h = let e : 0 + n ≡ n = omega arith in record { sum = ap (λ (m : ℕ). min m 18446744073709551615) e ∙ min-eq_left h; few = omega arith }

pub locals_at_first : (ls : List Local) → IsCount 0 (locals_cells ls) (locals_cells ls)
locals_at_first ls = at_first (locals_cells ls) (few_locals ls)

pub tops_at_first : (ts : List Top) → IsCount 0 (tops_cells ts) (tops_cells ts)
tops_at_first ts = at_first (tops_cells ts) (few_tops ts)

add_twice : (a b c : ℕ) → add_cells (add_cells a b) c ≡ add_cells a (add_cells b c)
add_twice a b c = by (nat_lt 18446744073709551615 (a + b)) refl (nat_lt 18446744073709551615 (b + c)) refl
  where
    below : (x y : ℕ) → nat_lt 18446744073709551615 (x + y) ≡ false → add_cells x y ≡ x + y
    below x y h = min-eq_left (ltb-false 18446744073709551615 (x + y) h)

    above : (x y : ℕ) → 18446744073709551615 ≤ x + y → add_cells x y ≡ 18446744073709551615
    above x y h = min-eq_right h

    more : (h : Bool) → nat_lt 18446744073709551615 (b + c) ≡ h → 18446744073709551615 < a + b → 18446744073709551615 ≤ a + add_cells b c
    more true f past =
        let e : add_cells b c ≡ 18446744073709551615 = above b c (let p : 18446744073709551615 < b + c = ltb-true 18446744073709551615 (b + c) f in omega (arith, p)) in
        omega (arith, e)
    more false f past = let e : add_cells b c ≡ b + c = below b c f in omega (arith, e, past)

    by : (g : Bool) → nat_lt 18446744073709551615 (a + b) ≡ g → (h : Bool) → nat_lt 18446744073709551615 (b + c) ≡ h → add_cells (add_cells a b) c ≡ add_cells a (add_cells b c)
    by false e false f =
        let assoc : (a + b) + c ≡ a + (b + c) = omega arith in
        ap (λ (m : ℕ). add_cells m c) (below a b e) ∙ ap (λ (m : ℕ). min m 18446744073709551615) assoc ∙ ap (add_cells a) (sym (below b c f))
    by true e h f =
        let past : 18446744073709551615 < a + b = ltb-true 18446744073709551615 (a + b) e in
        let left : add_cells a b ≡ 18446744073709551615 = above a b (omega (arith, past)) in
        let right : 18446744073709551615 ≤ a + add_cells b c = more h f past in
        ap (λ (m : ℕ). add_cells m c) left ∙ above 18446744073709551615 c (omega arith) ∙ sym (above a (add_cells b c) right)
    by false e true f =
        let past : 18446744073709551615 < b + c = ltb-true 18446744073709551615 (b + c) f in
        let right : add_cells b c ≡ 18446744073709551615 = above b c (omega (arith, past)) in
        let sum : 18446744073709551615 ≤ (a + b) + c = omega (arith, past) in
        ap (λ (m : ℕ). add_cells m c) (below a b e) ∙ above (a + b) c sum ∙ sym (ap (add_cells a) right ∙ above a 18446744073709551615 (omega arith))

-- one more is counted
pub count_next : (some one rest whole : ℕ) → IsCount some (add_cells one rest) whole → IsCount (add_cells some one) rest whole
count_next some one rest whole h = record { sum = add_twice some one rest ∙ h.sum; few = cut_cells some one }

-- nothing is left
pub count_at_last : (some whole : ℕ) → IsCount some 0 whole → some ≡ whole
count_at_last some whole h = let e : some + 0 ≡ some = omega arith in sym (ap (λ (m : ℕ). min m 18446744073709551615) e ∙ min-eq_left h.few) ∙ h.sum
