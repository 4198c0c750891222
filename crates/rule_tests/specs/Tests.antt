-- What is tested of a tree, from left to right: each test has its place, its rule, and whether that is broken there.
use Rattle.std.specs.Prelude.{◌≡◌, ◌⊎◌, ℕ, Bool, true, false, ◌&&◌, ◌||◌, nat_eq, nat_lt, Option, Some, None, if◌then◌else◌}

-- tests, from left to right
pub data Tests (R : Type 0) : Type 0 where
  fine : Tests R
  test : (at : ℕ) (rule : R) (broken : Bool) → Tests R
  both : (first second : Tests R) → Tests R

-- the rule is broken at the place
abbrev pub BreaksAt : {R : Type 0} → R → (at : ℕ) → Tests R → Type 0
BreaksAt r p fine = ⊥
BreaksAt r p (test q s b) = (q ≡ p) × (s ≡ r) × (b ≡ true)
BreaksAt r p (both a b) = BreaksAt r p a ⊎ BreaksAt r p b

-- no test is broken, test by test
abbrev pub IsFine : {R : Type 0} → Tests R → Type 0
IsFine fine = Unit {0}
IsFine (test q s b) = b ≡ false
IsFine (both a b) = IsFine a × IsFine b

-- rank: the number of a rule in the order of the language's rules
module _ {R : Type 0} (rank : R → ℕ) where
  -- a broken rule comes before another: its place is further left, or it is at the same place and its rank is lower
  abbrev pub is_before : ℕ × R → ℕ × R → Bool
  is_before f g = nat_lt f.0 g.0 || (nat_eq f.0 g.0 && nat_lt (rank f.1) (rank g.1))

  -- what was found first so far, and one broken rule more
  abbrev pub earlier : Option (ℕ × R) → ℕ × R → Option (ℕ × R)
  earlier None f = Some f
  earlier (Some g) f = if is_before f g then Some f else Some g

  -- what was found first so far, and then what tests find
  abbrev pub first_from : Option (ℕ × R) → Tests R → Option (ℕ × R)
  first_from found fine = found
  first_from found (test p r b) = if b then earlier found (p, r) else found
  first_from found (both a b) = first_from (first_from found a) b

  -- the first broken rule, in whatever order the tests stand
  abbrev pub first_broken : Tests R → Option (ℕ × R)
  first_broken tests = first_from None tests

  -- the rule is broken at the place, and no broken rule comes before it
  pub record IsFirst (r : R) (at : ℕ) (tests : Tests R) : Type 0 where
    pub broken : BreaksAt r at tests
    pub least : (s : R) (q : ℕ) → BreaksAt s q tests → is_before (q, s) (at, r) ≡ false
