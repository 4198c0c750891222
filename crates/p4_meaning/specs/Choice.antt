-- Which entry a table chooses for its keys: the one of the longest prefix, or in a table with a ternary key that of the
-- greatest priority. Read `Value` before it.
use Rattle.std.specs.Prelude.{◌≡◌, ℕ, ◌-◌, ◌/◌, ◌^◌, ◌≤◌, List, [], ◌∷◌, Bool, true, false, ◌&&◌, max, Option, Some, None, if◌then◌else◌, nat_eq, nat_lt, bit_and}
use Rattle.std.specs.List.{AllByRecursion, Contains}
use Rattle.bit_values.specs.Bits.{Word}

-- what an entry asks of a key: a number, the first bits of one, or the bits of one under a mask
pub data Match : Type 0 where
  exact : (value : Word) → Match
  lpm : (value : Word) (length : ℕ) → Match
  ternary : (value mask : Word) → Match

-- an entry: what it asks of each key, and the action that it runs with these arguments
pub record Entry : Type 0 where
  pub keys : List Match
  pub action : List ℕ
  pub args : List Word
  pub priority : ℕ

-- a key is what an entry asks for
abbrev pub fits_key : Match → Word → Bool
fits_key (exact v) k = nat_eq v.value k.value
fits_key (lpm v n) k = nat_eq (v.value / 2 ^ (k.width - n)) (k.value / 2 ^ (k.width - n))
fits_key (ternary v m) k = nat_eq (bit_and v.value m.value) (bit_and k.value m.value)

-- all keys are, one by one
abbrev pub fits_keys : List Match → List Word → Bool
fits_keys [] [] = true
fits_keys [] (k ∷ ks) = false
fits_keys (m ∷ ms) [] = false
fits_keys (m ∷ ms) (k ∷ ks) = fits_key m k && fits_keys ms ks

-- the bits of an entry's prefix, which stands at one key at most
abbrev pub prefix_of : List Match → ℕ
prefix_of [] = 0
prefix_of (lpm v n ∷ ms) = max n (prefix_of ms)
prefix_of (m ∷ ms) = prefix_of ms

-- what decides between entries that fit: with a ternary key the priority, and else the prefix
abbrev pub rank_of : (has_ternary : Bool) → Entry → ℕ
rank_of has_ternary e = if has_ternary then e.priority else prefix_of e.keys

-- the entry is chosen: it is one of the entries, it fits, and none that fits has a higher rank
pub record IsChosen (has_ternary : Bool) (entries : List Entry) (keys : List Word) (e : Entry) : Type 0 where
  pub listed : Contains entries e
  pub fits : fits_keys e.keys keys ≡ true
  pub highest : AllByRecursion (λ f. fits_keys f.keys keys ≡ true → rank_of has_ternary f ≤ rank_of has_ternary e) entries

-- what a table chooses: an entry that is chosen, or none where no entry fits
abbrev pub IsChoice : (has_ternary : Bool) (entries : List Entry) (keys : List Word) → Option Entry → Type 0
IsChoice t entries keys None = AllByRecursion (λ f. fits_keys f.keys keys ≡ false) entries
IsChoice t entries keys (Some e) = IsChosen t entries keys e

-- the higher of two entries, and the first of two with one rank
abbrev pub higher : (has_ternary : Bool) → Entry → Option Entry → Entry
higher t e None = e
higher t e (Some f) = if nat_lt (rank_of t e) (rank_of t f) then f else e

-- the entry that one walk over all entries finds
abbrev pub choice_of : (has_ternary : Bool) → List Entry → List Word → Option Entry
choice_of t [] keys = None
choice_of t (e ∷ es) keys = if fits_keys e.keys keys then Some (higher t e (choice_of t es keys)) else choice_of t es keys
