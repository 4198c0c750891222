-- Two lists that are walked together, of which one ends first.
use Rattle.std.proofs.Common.{◌≡◌, ℕ, zero, suc, ◌<◌, List, [], ◌∷◌, length, map, drop, false, Option, None, refl, arith}
use Rattle.bit_values.specs.Bits.{Word}
use Rattle.p4_meaning.specs.Choice.{fits_keys}
use Rattle.table_entries.specs.declared.entry.Match as code_match
use Rattle.table_shapes.specs.declared.shape.KeyKind.{KeyKind}
use Rattle.table_shapes.specs.declared.shape.KeyKind.TheVariants.{Exact, Lpm, Ternary}
use Rattle.table_shapes.specs.declared.shape.KeyShape.{KeyShape}
use Rattle.table_shapes.specs.Shapes.{are_for_keys, have_widths}
use Rattle.table_entries.specs.Entries.{same_keys}
use Rattle.table_entries.specs.Signs.{wanted, by_kind, packed_behind}
use Rattle.table_entries.specs.View.{match_of}

-- matches are left, and no keys
pub no_keys : (ms : List code_match.Match) (i : ℕ) → i < length ms → fits_keys (map match_of (drop i ms)) [] ≡ false
no_keys [] i lt = absurd (omega arith)
no_keys (m ∷ ms) zero lt = refl
no_keys (m ∷ ms) (suc i) lt = no_keys ms i (omega arith)

-- keys are left, and no matches
pub no_matches : (ks : List Word) (n : ℕ) → n < length ks → fits_keys [] (drop n ks) ≡ false
no_matches [] n lt = absurd (omega arith)
no_matches (k ∷ ks) zero lt = refl
no_matches (k ∷ ks) (suc n) lt = no_matches ks n (omega arith)

-- keys of a table are left, and no words
pub no_kinds : (ks : List KeyShape) (i : ℕ) → i < length ks → have_widths (map (λ (k : KeyShape). k.value) (drop i ks)) [] ≡ false
no_kinds [] i lt = absurd (omega arith)
no_kinds (k ∷ ks) zero lt = refl
no_kinds (k ∷ ks) (suc i) lt = no_kinds ks i (omega arith)

-- keys of a table are left, and no matches
pub none_asked : (ks : List KeyShape) (i : ℕ) → i < length ks → are_for_keys (drop i ks) [] ≡ false
none_asked [] i lt = absurd (omega arith)
none_asked (k ∷ ks) zero lt = refl
none_asked (k ∷ ks) (suc i) lt = none_asked ks i (omega arith)

-- matches are left, and no keys of a table
pub none_wanted : (ms : List code_match.Match) (i : ℕ) → i < length ms → are_for_keys [] (map match_of (drop i ms)) ≡ false
none_wanted [] i lt = absurd (omega arith)
none_wanted (m ∷ ms) zero lt = refl
none_wanted (m ∷ ms) (suc i) lt = none_wanted ms i (omega arith)

-- matches are left on the left, or on the right
pub more_left : (ms : List code_match.Match) (i : ℕ) → i < length ms → same_keys (map match_of (drop i ms)) [] ≡ false
more_left [] i lt = absurd (omega arith)
more_left (m ∷ ms) zero lt = refl
more_left (m ∷ ms) (suc i) lt = more_left ms i (omega arith)

pub more_right : (ms : List code_match.Match) (i : ℕ) → i < length ms → same_keys [] (map match_of (drop i ms)) ≡ false
more_right [] i lt = absurd (omega arith)
more_right (m ∷ ms) zero lt = refl
more_right (m ∷ ms) (suc i) lt = more_right ms i (omega arith)

-- nothing is wanted for no keys
pub nothing_wanted : (ks : List KeyShape) (n : ℕ) → wanted ks n [] ≡ []
nothing_wanted [] n = refl
nothing_wanted (k ∷ ks) n = refl

-- nor are they one number
pub nothing_packed : (ks : List KeyShape) (i n c : ℕ) → i < length ks → packed_behind (drop i ks) (wanted (drop i ks) n []) c ≡ None
nothing_packed [] i n c lt = absurd (omega arith)
nothing_packed (k ∷ ks) zero n c lt = go k.kind
  where
    go : (j : KeyKind) → by_kind j None None ≡ None
    go Exact = refl
    go Lpm = refl
    go Ternary = refl
nothing_packed (k ∷ ks) (suc i) n c lt = nothing_packed ks i n c (omega arith)
