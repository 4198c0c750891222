-- Tests joined by halves: the fuel doesn't count where it is no less than their number.
use Rattle.std.proofs.Common.{◌≡◌, ℕ, zero, suc, ◌+◌, ◌-◌, ◌/◌, ◌<◌, ◌≤◌, Bool, true, false, refl, sym, ap, ap₂, ◌∙◌, nat_le, arith}
use Rattle.std.proofs.lemmas.Bool.{leb-false, lt-leb, le-leb}
use Rattle.indus_tree.specs.Tree.{Expr, binary}
use Rattle.indus_tree.specs.declared.tree.Op.{Op}
use Rattle.lower_lists.specs.Flat.{halves}

module _ (p : ℕ) (op : Op) (test : ℕ → Expr) where
  abbrev parts : (b : Bool) (fuel first n : ℕ) → Expr
  parts b fuel first n = elim b [ true ↦ test first | false ↦ binary p op (halves p op test fuel first (n / 2)) (halves p op test fuel (first + n / 2) (n - n / 2)) ]

  parted : (b : Bool) (fuel first n : ℕ) → nat_le n 1 ≡ b → halves p op test (suc fuel) first n ≡ parts b fuel first n
  parted b fuel first n e = ap (λ (c : Bool). parts c fuel first n) e

  pub one_left : (fuel first n : ℕ) → n ≤ 1 → halves p op test fuel first n ≡ test first
  one_left zero first n le = refl
  one_left (suc k) first n le = parted true k first n (le-leb n 1 le)

  pub more_left : (k first n : ℕ) → 1 < n → halves p op test (suc k) first n ≡ binary p op (halves p op test k first (n / 2)) (halves p op test k (first + n / 2) (n - n / 2))
  more_left k first n lt = parted false k first n (lt-leb n 1 lt)

  fuels_at : (b : Bool) (k m first n : ℕ) → nat_le n 1 ≡ b
      → (1 < n → (binary p op (halves p op test k first (n / 2)) (halves p op test k (first + n / 2) (n - n / 2))) ≡ binary p op (halves p op test m first (n / 2)) (halves p op test m (first + n / 2) (n - n / 2)))
      → halves p op test (suc k) first n ≡ halves p op test (suc m) first n
  fuels_at true k m first n e same = parted true k first n e ∙ sym (parted true m first n e)
  fuels_at false k m first n e same = parted false k first n e ∙ same (leb-false n 1 e) ∙ sym (parted false m first n e)

  -- any fuel that is enough gives the same
  fuels : (k m first n : ℕ) → n ≤ k → n ≤ m → halves p op test k first n ≡ halves p op test m first n
  fuels zero m first n lk lm = sym (one_left m first n (omega arith))
  fuels (suc k) zero first n lk lm = one_left (suc k) first n (omega arith)
  fuels (suc k) (suc m) first n lk lm =
      fuels_at (nat_le n 1) k m first n refl (λ lt. ap₂ (binary p op) (fuels k m first (n / 2) (omega arith) (omega arith)) (fuels k m (first + n / 2) (n - n / 2) (omega arith) (omega arith)))

  pub halves_one : (first n : ℕ) → n ≤ 1 → halves p op test n first n ≡ test first
  halves_one first n le = one_left n first n le

  pub halves_more : (first n : ℕ) → 1 < n → halves p op test n first n ≡ binary p op (halves p op test (n / 2) first (n / 2)) (halves p op test (n - n / 2) (first + n / 2) (n - n / 2))
  halves_more first zero lt = absurd (omega arith)
  halves_more first (suc k) lt =
      more_left k first (suc k) lt
      ∙ ap₂ (binary p op) (fuels k (suc k / 2) first (suc k / 2) (omega arith) (omega arith)) (fuels k (suc k - suc k / 2) (first + suc k / 2) (suc k - suc k / 2) (omega arith) (omega arith))
