-- Bits of one byte, and numbers joined.
use Rattle.std.proofs.Common.{◌≡◌, ℕ, ◌<◌, ◌≤◌, ◌+◌, ◌-◌, ◌*◌, ◌/◌, ◌%◌, ◌^◌, length, length-take, take, drop, List, sym, ap, ap₂, ◌∙◌, arith, bit_and}
use Rattle.std.specs.Prelude.{slice_index}
use Rattle.std.specs.Int.{bit_at}
use Rattle.std.proofs.lemmas.Nat.{and_mask}
use Rattle.std.proofs.lemmas.Nat.Bits.{ones_shr}
use Rattle.bit_values.specs.Bits.{cast, shr, concat}
use Rattle.bit_values.specs.Bytes.{bits_of, number_at, HoldsAt}
use Rattle.bit_values.proofs.BitsLemmas.{bit_at-cast_low, bit_at-shr, cast-lt}
use Rattle.bit_values.proofs.BitListsLemmas.{AreBits-take, AreBits-drop, number_of-lt}
use Rattle.bit_values.proofs.BytesLemmas.{number_at_held, number_at-add, AreBits-bits_of}
use Rattle.slot_terms.proofs.MaskedLemmas.{powers}

pub cut_byte : (b s w : ℕ) → w ≤ 8 → bit_and (b / 2 ^ s) (255 / 2 ^ (8 - w)) ≡ cast w (shr b s)
cut_byte b s w le =
    let small : 8 - w ≤ 8 = omega (arith, le) in
    let back : 8 - (8 - w) ≡ w = omega (arith, le) in
    ap (bit_and (b / 2 ^ s)) (ones_shr 8 (8 - w) small ∙ ap (λ k. 2 ^ k - 1) back) ∙ and_mask (b / 2 ^ s) w

pub part_holds : (frame : List ℕ) (at w : ℕ) → 1 ≤ w → at % 8 + w ≤ 8 → HoldsAt frame at w (cast w (shr (slice_index frame (at / 8)) (8 - at % 8 - w)))
part_holds frame at w wide one i lt =
    let b : ℕ = slice_index frame (at / 8) in
    let s : ℕ = 8 - at % 8 - w in
    let byte : (at + i) / 8 ≡ at / 8 = omega (arith, one, lt) in
    let place : 7 - (at + i) % 8 ≡ s + (w - 1 - i) = omega (arith, one, lt) in
    let low : w - 1 - i < w = omega (arith, wide) in
    ap₂ bit_at (ap (slice_index frame) byte) place ∙ sym (bit_at-cast_low w (shr b s) (w - 1 - i) low ∙ bit_at-shr b s (w - 1 - i))

pub part_is : (frame : List ℕ) (at w : ℕ) → 1 ≤ w → at % 8 + w ≤ 8 → at + w ≤ 8 * length frame → number_at frame at w ≡ cast w (shr (slice_index frame (at / 8)) (8 - at % 8 - w))
part_is frame at w wide one within = number_at_held frame at w (cast w (shr (slice_index frame (at / 8)) (8 - at % 8 - w))) within (cast-lt w (shr (slice_index frame (at / 8)) (8 - at % 8 - w))) (part_holds frame at w wide one)

-- a number of so many bits is below their power
pub number_at-lt : (frame : List ℕ) (at w : ℕ) → number_at frame at w < 2 ^ w
number_at-lt frame at w =
    let l : List ℕ = drop at (bits_of frame) in
    let short : length (take w l) ≤ w = omega (arith, length-take w l) in
    omega (arith, number_of-lt (take w l) (AreBits-take w l (AreBits-drop at (bits_of frame) (AreBits-bits_of frame))), powers (length (take w l)) w short)

pub more_at : (frame : List ℕ) (at w v end a b : ℕ) → at + (w + v) ≤ 8 * length frame → end ≡ at + w → a ≡ number_at frame at w → b ≡ number_at frame end v → concat a v b ≡ number_at frame at (w + v)
more_at frame at w v end a b within e ea eb =
    ap₂ (λ x y. concat x v y) ea (eb ∙ ap (λ k. number_at frame k v) e) ∙ sym (number_at-add frame at w v within)
