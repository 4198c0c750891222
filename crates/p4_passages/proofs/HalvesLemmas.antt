-- The bits of a frame from a place on.
use Rattle.std.proofs.Common.{◌≡◌, ℕ, zero, suc, ◌+◌, ◌*◌, ◌/◌, ◌%◌, List, [], ◌∷◌, length, drop, refl, sym, ap, ap₂, ◌∙◌, arith}
use Rattle.std.proofs.lemmas.List.{drop-drop}
use Rattle.bit_values.specs.Bytes.{bits_of}

drop_none : (n : ℕ) → drop n (let l : List ℕ = [] in l) ≡ []
drop_none zero = refl
drop_none (suc n) = refl

bits_of-drop : (k : ℕ) (frame : List ℕ) → bits_of (drop k frame) ≡ drop (8 * k) (bits_of frame)
bits_of-drop zero frame = refl
bits_of-drop (suc k) [] = sym (drop_none (8 * suc k))
bits_of-drop (suc k) (b ∷ bs) =
    let e : 8 * suc k ≡ suc (suc (suc (suc (suc (suc (suc (suc (8 * k)))))))) = omega arith in
    bits_of-drop k bs ∙ sym (ap (λ n. drop n (bits_of (b ∷ bs))) e)

-- the bits from a place on, from its byte on
pub rest_bits : (frame : List ℕ) (at : ℕ) → drop (at % 8) (bits_of (drop (at / 8) frame)) ≡ drop at (bits_of frame)
rest_bits frame at =
    let e : 8 * (at / 8) + at % 8 ≡ at = omega arith in
    ap (drop (at % 8)) (bits_of-drop (at / 8) frame) ∙ drop-drop (at % 8) (8 * (at / 8)) (bits_of frame) ∙ ap (λ n. drop n (bits_of frame)) e
