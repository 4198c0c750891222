-- Sums that stop at the greatest number of 32 bits, reckoned from the left.
use Rattle.std.proofs.Common.{◌≡◌, ℕ, ◌+◌, ◌≤◌, min, List, [], ◌∷◌, ap, sym, ◌∙◌, arith}
use Rattle.std.proofs.Math.Nat.{min-eq_left}
use Rattle.p4_tree.specs.Tree.{Stmts, done, next, Top}
use Rattle.p4_scopes.specs.Scopes.{Scope, add_up}
use Rattle.p4_scopes.proofs.Changes.{cut_sum, add_none, cut_twice}
use Rattle.p4_declaration_rules.specs.Digests.{most_of_stmt, most_of}
use Rattle.p4_declaration_rules.specs.Controls.{after_top, most_of_top, most_of_tops}

-- what was reckoned so far, and what is left, is the whole
pub record IsSum (some rest whole : ℕ) : Type 0 where
  pub sum : add_up some rest ≡ whole
  pub few : some ≤ 4294967295

-- nothing was reckoned so far
pub sum_at_first : (n : ℕ) → n ≤ 4294967295 → IsSum 0 n n
sum_at_first n h = let e : 0 + n ≡ n = omega arith in record { sum = ap (λ (m : ℕ). min m 4294967295) e ∙ min-eq_left h; few = omega arith }

-- one more is reckoned
pub sum_next : (some one rest whole : ℕ) → IsSum some (add_up one rest) whole → IsSum (add_up some one) rest whole
sum_next some one rest whole h = record { sum = cut_twice some one rest ∙ h.sum; few = cut_sum some one }

-- nothing is left
pub sum_at_last : (some whole : ℕ) → IsSum some 0 whole → some ≡ whole
sum_at_last some whole h = sym (add_none some h.few) ∙ h.sum

-- ---- digests

few_of : (s : Scope) (ss : Stmts) → most_of s ss ≤ 4294967295
few_of s done = omega arith
few_of s (next c ss) = cut_sum (most_of_stmt s c) (most_of s ss)

few_of_tops : (main : List (List ℕ)) (s : Scope) (ts : List Top) → most_of_tops main s ts ≤ 4294967295
few_of_tops main s [] = omega arith
few_of_tops main s (t ∷ ts) = cut_sum (most_of_top main s t) (most_of_tops main (after_top s t) ts)

pub most_at_first : (s : Scope) (ss : Stmts) → IsSum 0 (most_of s ss) (most_of s ss)
most_at_first s ss = sum_at_first (most_of s ss) (few_of s ss)

pub tops_at_first : (main : List (List ℕ)) (s : Scope) (ts : List Top) → IsSum 0 (most_of_tops main s ts) (most_of_tops main s ts)
tops_at_first main s ts = sum_at_first (most_of_tops main s ts) (few_of_tops main s ts)
