-- The value of tests that are joined by halves, and of a membership and of what a turn tests.
use Rattle.std.proofs.Common.{◌≡◌, ◌⊎◌, inl, inr, ⊎_elim, ℕ, zero, suc, ◌+◌, ◌-◌, ◌/◌, ◌<◌, ◌≤◌, ◌^◌, List, [], ◌∷◌, ◌++◌, length, Bool, true, false, ◌&&◌, ◌||◌, cond, Option, Some, None, refl, sym, ap, ap₂, ◌∙◌, arith, subst, nat_eq, nat_lt, nat_le}
use Rattle.std.proofs.lemmas.Bool.{cases_lt, lt-ltb, le-ltb}
use Rattle.bit_values.specs.Bits.{Word, word}
use Rattle.bit_values.specs.Widths.{bit, sound_width, cast_word}
use Rattle.indus_tree.specs.Tree.{Expr, binary, flag}
use Rattle.indus_tree.specs.Reads.{Seen}
use Rattle.indus_tree.specs.Operators.{operate}
use Rattle.indus_tree.specs.Value.{value_of}
use Rattle.indus_tree.specs.declared.tree.Op.{Op}
use Rattle.indus_tree.specs.declared.tree.Op.TheVariants.{Both, Either}
use Rattle.lower_lists.specs.Flat.{halves, joined}
use Rattle.lower_lists.proofs.Halves.{one_left, more_left}

-- the truth values from the first on, so many
abbrev pub range : (g : Bool → Bool → Bool) (e : Bool) (t : ℕ → Bool) (first n : ℕ) → Bool
range g e t first zero = e
range g e t first (suc n) = g (range g e t first n) (t (first + n))

module _ (g : Bool → Bool → Bool) (e : Bool) (assoc : (a b c : Bool) → g (g a b) c ≡ g a (g b c)) (unit : (a : Bool) → g a e ≡ a) (unit_left : (a : Bool) → g e a ≡ a) where
  range_split : (t : ℕ → Bool) (first a b : ℕ) → range g e t first (a + b) ≡ g (range g e t first a) (range g e t (first + a) b)
  range_split t first a zero = (let s : a + 0 ≡ a = omega arith in ap (range g e t first) s) ∙ sym (unit (range g e t first a))
  range_split t first a (suc b) =
      (let s : a + suc b ≡ suc (a + b) = omega arith in ap (range g e t first) s)
      ∙ ap₂ g (range_split t first a b) (let s : first + (a + b) ≡ first + a + b = omega arith in ap t s)
      ∙ assoc (range g e t first a) (range g e t (first + a) b) (t (first + a + b))

  module _ (s : Seen) (p : ℕ) (op : Op) (combine : (a b : Expr) (w : ℕ) (x y : Bool) → value_of s a 1 ≡ bit x → value_of s b 1 ≡ bit y → value_of s (binary p op a b) w ≡ bit (g x y))
      (test : ℕ → Expr) (t : ℕ → Bool) where
    halves_value : (fuel first n w : ℕ) → 0 < n → n ≤ fuel → ((k v : ℕ) → k < first + n → value_of s (test k) v ≡ bit (t k)) → value_of s (halves p op test fuel first n) w ≡ bit (range g e t first n)
    halves_value zero first n w some le is = absurd (omega arith)
    halves_value (suc fuel) first n w some le is =
        ⊎_elim
        (λ (lt : 1 < n).
        ap (λ (r : Expr). value_of s r w) (more_left p op test fuel first n lt)
        ∙ combine (halves p op test fuel first (n / 2)) (halves p op test fuel (first + n / 2) (n - n / 2)) w (range g e t first (n / 2)) (range g e t (first + n / 2) (n - n / 2))
        (halves_value fuel first (n / 2) 1 (omega arith) (omega arith) (λ k v lk. is k v (omega arith)))
        (halves_value fuel (first + n / 2) (n - n / 2) 1 (omega arith) (omega arith) (λ k v lk. is k v (omega arith)))
        ∙ ap bit (sym (range_split t first (n / 2) (n - n / 2)))
        ∙ (let all : n / 2 + (n - n / 2) ≡ n = omega arith in ap (λ m. bit (range g e t first m)) all))
        (λ (ge : n ≤ 1).
        let one_n : n ≡ 1 = omega arith in
        let here : first + 0 ≡ first = omega arith in
        ap (λ (r : Expr). value_of s r w) (one_left p op test (suc fuel) first n ge)
        ∙ is first w (omega arith)
        ∙ ap bit (sym (ap (range g e t first) one_n ∙ unit_left (t (first + 0)) ∙ ap t here)))
        (cases_lt 1 n)

    pub joined_value : (n w : ℕ) → ((k v : ℕ) → k < n → value_of s (test k) v ≡ bit (t k)) → value_of s (joined p op e test n) w ≡ bit (range g e t 0 n)
    joined_value zero w is = refl
    joined_value (suc n) w is = halves_value (suc n) 0 (suc n) w (omega arith) (omega arith) (λ k v lk. is k v (omega arith))

-- ---- for tests of which one has to hold, and for those of which each has to

or_assoc : (a b c : Bool) → ((a || b) || c) ≡ (a || (b || c))
or_assoc true b c = refl
or_assoc false b c = refl

or_false : (a : Bool) → (a || false) ≡ a
or_false true = refl
or_false false = refl

false_or : (a : Bool) → (false || a) ≡ a
false_or a = refl

and_assoc : (a b c : Bool) → ((a && b) && c) ≡ (a && (b && c))
and_assoc true b c = refl
and_assoc false b c = refl

and_true : (a : Bool) → (a && true) ≡ a
and_true true = refl
and_true false = refl

true_and : (a : Bool) → (true && a) ≡ a
true_and a = refl

either_bits : (x y : Bool) → operate Either (cast_word 1 (bit x)) (cast_word 1 (bit y)) ≡ bit (x || y)
either_bits true true = refl
either_bits true false = refl
either_bits false true = refl
either_bits false false = refl

pub both_bits : (x y : Bool) → operate Both (cast_word 1 (bit x)) (cast_word 1 (bit y)) ≡ bit (x && y)
both_bits true true = refl
both_bits true false = refl
both_bits false true = refl
both_bits false false = refl

pub both_is : (s : Seen) (p : ℕ) (a b : Expr) (w : ℕ) (x y : Bool) → value_of s a 1 ≡ bit x → value_of s b 1 ≡ bit y → value_of s (binary p Both a b) w ≡ bit (x && y)
both_is s p a b w x y e f = ap₂ (λ (v u : Word). operate Both (cast_word 1 v) (cast_word 1 u)) e f ∙ both_bits x y

either_is : (s : Seen) (p : ℕ) (a b : Expr) (w : ℕ) (x y : Bool) → value_of s a 1 ≡ bit x → value_of s b 1 ≡ bit y → value_of s (binary p Either a b) w ≡ bit (x || y)
either_is s p a b w x y e f = ap₂ (λ (v u : Word). operate Either (cast_word 1 v) (cast_word 1 u)) e f ∙ either_bits x y

-- one of the tests holds
abbrev pub any : (t : ℕ → Bool) (n : ℕ) → Bool
any t n = range ◌||◌ false t 0 n

-- each test holds
abbrev pub every : (t : ℕ → Bool) (n : ℕ) → Bool
every t n = range ◌&&◌ true t 0 n

pub any_value : (s : Seen) (p : ℕ) (test : ℕ → Expr) (t : ℕ → Bool) (n w : ℕ) → ((k v : ℕ) → k < n → value_of s (test k) v ≡ bit (t k)) → value_of s (joined p Either false test n) w ≡ bit (any t n)
any_value s p test t n w is = joined_value ◌||◌ false or_assoc or_false false_or s p Either (either_is s p) test t n w is

pub every_value : (s : Seen) (p : ℕ) (test : ℕ → Expr) (t : ℕ → Bool) (n w : ℕ) → ((k v : ℕ) → k < n → value_of s (test k) v ≡ bit (t k)) → value_of s (joined p Both true test n) w ≡ bit (every t n)
every_value s p test t n w is = joined_value ◌&&◌ true and_assoc and_true true_and s p Both (both_is s p) test t n w is
