-- One byte, some bits of which are written anew.
use Rattle.std.proofs.Common.{◌≡◌, ◌≢◌, ◌⊎◌, inl, inr, ⊎_elim, ℕ, ◌+◌, ◌-◌, ◌*◌, ◌/◌, ◌%◌, ◌^◌, ◌<◌, ◌≤◌, length, List, sym, ap, ap₂, ◌∙◌, arith, bit_and, bit_or, max, min, w8}
use Rattle.std.specs.Prelude.{slice_set, slice_index}
use Rattle.std.specs.Int.{bit_at, bit_not}
use Rattle.std.proofs.lemmas.Bool.{cases_eq, cases_lt}
use Rattle.std.proofs.lemmas.List.{get_or-set_same, get_or-set_other}
use Rattle.std.proofs.lemmas.Nat.{pow_pos}
use Rattle.std.proofs.lemmas.Nat.Bits.{bit_at_and, bit_at_or, bit_at_not, bit_at_ones, bit_at_ones_above, bit_at_above, bit_at_cat_low, bit_at_cat_high, bit_at-zero, bit_at-lt, ones_shr}
use Rattle.bit_values.specs.Bits.{cast, shr}
use Rattle.bit_values.specs.Bytes.{bit_in, HoldsAt, SameOutside}
use Rattle.bit_values.proofs.BitsLemmas.{bit_at-cast_low, bit_at-shr, cast-lt}

-- a number moved up in a byte
module _ (n low j : ℕ) (in_byte : j < 8) where
  pub moved_below : j < low → bit_at (n * 2 ^ low % 2 ^ 8) j ≡ 0
  moved_below lt = bit_at-cast_low 8 (n * 2 ^ low) j in_byte ∙ ap (λ x. bit_at x j) (let e : n * 2 ^ low ≡ n * 2 ^ low + 0 = omega arith in e) ∙ bit_at_cat_low n low 0 j lt ∙ bit_at-zero j

  pub moved_above : low ≤ j → bit_at (n * 2 ^ low % 2 ^ 8) j ≡ bit_at n (j - low)
  moved_above le = bit_at-cast_low 8 (n * 2 ^ low) j in_byte ∙ ap (λ x. bit_at x j) (let e : n * 2 ^ low ≡ n * 2 ^ low + 0 = omega arith in e) ∙ bit_at_cat_high n low 0 j (pow_pos low) le

pub ones_are : (w : ℕ) → w ≤ 8 → 255 / 2 ^ (8 - w) ≡ 2 ^ w - 1
ones_are w le =
    let small : 8 - w ≤ 8 = omega (arith, le) in
    let back : 8 - (8 - w) ≡ w = omega (arith, le) in
    ones_shr 8 (8 - w) small ∙ ap (λ k. 2 ^ k - 1) back

-- the mask of w bits from low on, and the byte o with these bits of p
abbrev pub part_mask : (w low : ℕ) → ℕ
part_mask w low = 255 / 2 ^ (8 - w) * 2 ^ low % 2 ^ 8

abbrev pub with_part : (o p w low : ℕ) → ℕ
with_part o p w low = bit_or (bit_and o (bit_not w8 (part_mask w low))) (p * 2 ^ low % 2 ^ 8)

module _ (o p w low : ℕ) (fits : p < 2 ^ w) (room : low + w ≤ 8) where
  bit_is : (j : ℕ) → j < 8 → bit_at (with_part o p w low) j ≡ max (min (bit_at o j) (1 - bit_at (part_mask w low) j)) (bit_at (p * 2 ^ low % 2 ^ 8) j)
  bit_is j lt =
      bit_at_or (bit_and o (bit_not w8 (part_mask w low))) (p * 2 ^ low % 2 ^ 8) j
      ∙ ap (λ x. max x (bit_at (p * 2 ^ low % 2 ^ 8) j))
      (bit_at_and o (bit_not w8 (part_mask w low)) j ∙ ap (min (bit_at o j)) (bit_at_not w8 (part_mask w low) j (cast-lt 8 (255 / 2 ^ (8 - w) * 2 ^ low)) lt))

  pub bit_inside : (j : ℕ) → low ≤ j → j < low + w → bit_at (with_part o p w low) j ≡ bit_at p (j - low)
  bit_inside j le lt =
      let in_byte : j < 8 = omega (arith, lt, room) in
      let masked : bit_at (part_mask w low) j ≡ 1 = moved_above (255 / 2 ^ (8 - w)) low j in_byte le ∙ ap (λ n. bit_at n (j - low)) (ones_are w (omega (arith, room))) ∙ bit_at_ones w (j - low) (omega (arith, le, lt)) in
      omega (arith, bit_is j in_byte, masked, moved_above p low j in_byte le)

  pub bit_outside : (j : ℕ) → j < 8 → (j < low) ⊎ (low + w ≤ j) → bit_at (with_part o p w low) j ≡ bit_at o j
  bit_outside j in_byte out = ⊎_elim
      (λ (lt : j < low). omega (arith, bit_is j in_byte, moved_below (255 / 2 ^ (8 - w)) low j in_byte lt, moved_below p low j in_byte lt, bit_at-lt o j))
      (λ (le : low + w ≤ j).
      let masked : bit_at (part_mask w low) j ≡ 0 = moved_above (255 / 2 ^ (8 - w)) low j in_byte (omega (arith, le)) ∙ ap (λ n. bit_at n (j - low)) (ones_are w (omega (arith, room))) ∙ bit_at_ones_above w (j - low) (omega (arith, le)) in
      let other : bit_at (p * 2 ^ low % 2 ^ 8) j ≡ 0 = moved_above p low j in_byte (omega (arith, le)) ∙ bit_at_above p w (j - low) fits (omega (arith, le)) in
      omega (arith, bit_is j in_byte, masked, other, bit_at-lt o j))
      out

-- bytes, one of which has the part
module _ (bytes : List ℕ) (at w p : ℕ) (wide : 1 ≤ w) (one : at % 8 + w ≤ 8) (within : at + w ≤ 8 * length bytes) (fits : p < 2 ^ w) where
  abbrev pub bytes_with : List ℕ
  bytes_with = slice_set bytes (at / 8) (with_part (slice_index bytes (at / 8)) p w (8 - at % 8 - w))

  there : slice_index bytes_with (at / 8) ≡ with_part (slice_index bytes (at / 8)) p w (8 - at % 8 - w)
  there = get_or-set_same bytes (at / 8) (with_part (slice_index bytes (at / 8)) p w (8 - at % 8 - w)) 0 (omega (arith, within, wide))

  pub part_held : HoldsAt bytes_with at w p
  part_held i lt =
      let byte : (at + i) / 8 ≡ at / 8 = omega (arith, one, lt) in
      let place : 7 - (at + i) % 8 ≡ 8 - at % 8 - w + (w - 1 - i) = omega (arith, one, lt) in
      let back : 8 - at % 8 - w + (w - 1 - i) - (8 - at % 8 - w) ≡ w - 1 - i = omega arith in
      ap₂ bit_at (ap (slice_index bytes_with) byte ∙ there) place
      ∙ bit_inside (slice_index bytes (at / 8)) p w (8 - at % 8 - w) fits (omega (arith, one)) (8 - at % 8 - w + (w - 1 - i)) (omega arith) (omega (arith, lt))
      ∙ ap (bit_at p) back

  same_bit : (k : ℕ) → (k / 8 ≡ at / 8 → (7 - k % 8 < 8 - at % 8 - w) ⊎ (8 - at % 8 - w + w ≤ 7 - k % 8)) → bit_in bytes_with k ≡ bit_in bytes k
  same_bit k out = ⊎_elim
      (λ (e : k / 8 ≡ at / 8).
      ap (λ n. bit_at n (7 - k % 8)) (ap (slice_index bytes_with) e ∙ there)
      ∙ bit_outside (slice_index bytes (at / 8)) p w (8 - at % 8 - w) fits (omega (arith, one)) (7 - k % 8) (omega arith) (out e)
      ∙ ap (λ n. bit_at n (7 - k % 8)) (ap (slice_index bytes) (sym e)))
      (λ (ne : k / 8 ≢ at / 8). ap (λ n. bit_at n (7 - k % 8)) (get_or-set_other bytes (at / 8) (k / 8) (with_part (slice_index bytes (at / 8)) p w (8 - at % 8 - w)) 0 ne))
      (cases_eq (k / 8) (at / 8))

  pub part_others : SameOutside bytes bytes_with at w
  part_others = record {
    before = λ k lt. same_bit k (λ e. inr (omega (arith, one, lt, e)));
    behind = λ k le. same_bit k (λ e. inl (omega (arith, one, le, e)));
  }

-- one part more of a number: behind it only the `low` lowest bits are still to be written
pub part_more :
    (old new : List ℕ) (at width end w low part number : ℕ) → end + (low + w) ≡ at + width → low + w ≤ width
    → SameOutside old new end w → HoldsAt new end w part → part ≡ cast w (shr number low)
    → ((k : ℕ) → k < width - (low + w) → bit_in old (at + k) ≡ bit_at number (width - 1 - k))
    → (k : ℕ) → k < width - low → bit_in new (at + k) ≡ bit_at number (width - 1 - k)
part_more old new at width end w low part number ends few same holds is written k lt = ⊎_elim
    (λ (h : k < width - (low + w)). same.before (at + k) (omega (arith, h, ends, few)) ∙ written k h)
    (λ (h : width - (low + w) ≤ k).
    let i : ℕ = k - (width - (low + w)) in
    let place : at + k ≡ end + i = omega (arith, h, ends, few) in
    let in_part : i < w = omega (arith, h, lt, few) in
    let bit : low + (w - 1 - i) ≡ width - 1 - k = omega (arith, h, lt, few) in
    ap (bit_in new) place ∙ holds i in_part ∙ ap (λ n. bit_at n (w - 1 - i)) is
    ∙ bit_at-cast_low w (shr number low) (w - 1 - i) (omega (arith, in_part)) ∙ bit_at-shr number low (w - 1 - i) ∙ ap (bit_at number) bit)
    (cases_lt k (width - (low + w)))
