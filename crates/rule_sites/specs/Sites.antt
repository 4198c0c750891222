-- Rules that are broken at places of a tree. The tree is laid out as sites, from left to right, and each rule is a
-- test of a site.
use Rattle.std.specs.Prelude.{◌≡◌, ◌⊎◌, ℕ, List, [], ◌∷◌, Bool, true, false, Option, Some, None, if◌then◌else◌}

-- sites, from left to right
pub data Sites (S : Type 0) : Type 0 where
  nowhere : Sites S
  here : S → Sites S
  both : Sites S → Sites S → Sites S

-- the first answer, where there is one
abbrev pub or_else : {A : Type 0} → Option A → Option A → Option A
or_else (Some a) b = Some a
or_else None b = b

-- a rule at a place
abbrev pub at_place : {R : Type 0} → ℕ → Option R → Option (ℕ × R)
at_place p None = None
at_place p (Some r) = Some (p, r)

module _ (R S : Type 0) (place_of : S → ℕ) (broken : R → S → Bool) where
  -- the rule is broken at a site that stands at the place
  abbrev pub BreaksAt : R → (at : ℕ) → Sites S → Type 0
  BreaksAt r p nowhere = ⊥
  BreaksAt r p (here s) = (place_of s ≡ p) × (broken r s ≡ true)
  BreaksAt r p (both a b) = BreaksAt r p a ⊎ BreaksAt r p b

  -- no rule is broken at any of the sites, site by site
  abbrev pub AllFine : Sites S → Type 0
  AllFine nowhere = Unit {0}
  AllFine (here s) = (r : R) → broken r s ≡ false
  AllFine (both a b) = AllFine a × AllFine b

  -- the first rule of a list that is broken at a site
  abbrev pub first_rule : List R → S → Option R
  first_rule [] s = None
  first_rule (r ∷ rs) s = if broken r s then Some r else first_rule rs s

  -- the first broken rule of a list at the first site that breaks one, with the site's place
  abbrev pub first_broken : List R → Sites S → Option (ℕ × R)
  first_broken rs nowhere = None
  first_broken rs (here s) = at_place (place_of s) (first_rule rs s)
  first_broken rs (both a b) = or_else (first_broken rs a) (first_broken rs b)
