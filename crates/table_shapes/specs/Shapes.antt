-- What tables take: how their keys are matched, and the actions of their lists, by number. Read `Entries` after it.
use Rattle.std.specs.Prelude.{ℕ, List, [], ◌∷◌, Bool, true, false, ◌&&◌, ◌||◌, nat_eq, nat_le, if◌then◌else◌, Option, Some, None}
use Rattle.bit_values.specs.Bits.{Word}
use Rattle.p4_meaning.specs.Choice.{Match, exact, lpm, ternary}
use Rattle.table_shapes.specs.declared.shape.KeyKind.{KeyKind}
use Rattle.table_shapes.specs.declared.shape.KeyKind.TheVariants.{Exact, Lpm, Ternary}
use Rattle.table_shapes.specs.declared.shape.KeyShape.{KeyShape}
use Rattle.value_shapes.specs.declared.values.ValueShape.{ValueShape}

-- an action of a table's list: its number, and what its parameters hold
pub record ActionShape : Type 0 where
  pub number : ℕ
  pub params : List ValueShape

-- what a table takes: its keys, the actions of its list, and of the default that is written the number of its action, its
-- words and whether it is `const`
pub record Shape : Type 0 where
  pub keys : List KeyShape
  pub actions : List ActionShape
  pub written : ℕ
  pub written_args : List Word
  pub fixed : Bool

-- ---- keys

abbrev pub is_ternary : KeyKind → Bool
is_ternary Exact = false
is_ternary Lpm = false
is_ternary Ternary = true

abbrev pub is_lpm : KeyKind → Bool
is_lpm Exact = false
is_lpm Lpm = true
is_lpm Ternary = false

abbrev pub is_exact : KeyKind → Bool
is_exact Exact = true
is_exact Lpm = false
is_exact Ternary = false

-- some key is matched under a mask
abbrev pub has_ternary : List KeyShape → Bool
has_ternary [] = false
has_ternary (k ∷ ks) = is_ternary k.kind || has_ternary ks

-- some key is matched by its first bits
abbrev pub has_lpm : List KeyShape → Bool
has_lpm [] = false
has_lpm (k ∷ ks) = is_lpm k.kind || has_lpm ks

-- two keys are matched by their first bits
abbrev pub has_two_prefixes : List KeyShape → Bool
has_two_prefixes [] = false
has_two_prefixes (k ∷ ks) = (is_lpm k.kind && has_lpm ks) || has_two_prefixes ks

-- what is asked of a key is of its kind and its width, and a prefix is no longer than the key
abbrev pub is_for_key : KeyShape → Match → Bool
is_for_key k (exact v) = is_exact k.kind && nat_eq v.width k.value.width
is_for_key k (lpm v n) = is_lpm k.kind && nat_eq v.width k.value.width && nat_le n k.value.width
is_for_key k (ternary v m) = is_ternary k.kind && nat_eq v.width k.value.width && nat_eq m.width k.value.width

-- all are, one by one
abbrev pub are_for_keys : List KeyShape → List Match → Bool
are_for_keys [] [] = true
are_for_keys [] (m ∷ ms) = false
are_for_keys (k ∷ ks) [] = false
are_for_keys (k ∷ ks) (m ∷ ms) = is_for_key k m && are_for_keys ks ms

-- ---- actions

-- the action of a number is one of these
abbrev pub has_action : List ActionShape → ℕ → Bool
has_action [] n = false
has_action (a ∷ as') n = nat_eq a.number n || has_action as' n

-- what the parameters of the action of a number hold, where it is one of these
abbrev pub params_in : List ActionShape → ℕ → Option (List ValueShape)
params_in [] n = None
params_in (a ∷ as') n = if nat_eq a.number n then Some a.params else params_in as' n

-- words have the widths of these values, one by one; a truth value is one bit
abbrev pub have_widths : List ValueShape → List Word → Bool
have_widths [] [] = true
have_widths [] (w ∷ ws) = false
have_widths (v ∷ vs) [] = false
have_widths (v ∷ vs) (w ∷ ws) = nat_eq w.width v.width && have_widths vs ws

-- the action of a number is one of these, and these words have the widths of its parameters
abbrev pub takes : List ActionShape → ℕ → List Word → Bool
takes [] n ws = false
takes (a ∷ as') n ws = if nat_eq a.number n then have_widths a.params ws else takes as' n ws
