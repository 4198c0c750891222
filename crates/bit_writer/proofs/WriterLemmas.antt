-- Bits that make whole bytes.
use Rattle.std.proofs.Common.{◌≡◌, ℕ, zero, suc, ◌+◌, ◌-◌, ◌<◌, ◌≤◌, ◌^◌, List, [], ◌∷◌, ◌++◌, length, drop, refl, sym, ap, ap₂, ◌∙◌, arith, append_assoc, append-nil}
use Rattle.std.proofs.Common.{Option, Some, None}
use Rattle.std.specs.Int.{bit_at}
use Rattle.std.proofs.Math.Nat.{mod-eq_of_lt}
use Rattle.std.proofs.lemmas.Nat.Bits.{bit_at-lt, bit_at_lowest}
use Rattle.bit_values.specs.Bits.{Word}
use Rattle.bit_values.specs.BitLists.{number_bits, number_of}
use Rattle.bit_values.specs.Bytes.{bits_of}
use Rattle.bit_values.proofs.BitListsLemmas.{number_back, length-number_bits}
use Rattle.bit_values.proofs.BytesLemmas.{bits_of-append}
use Rattle.bit_writer.specs.Bytes.{bytes_of}
use Rattle.bit_writer.specs.Pieces.{part_width, part_bits}

-- fewer than eight bits are no byte
bytes_of-few : (bs : List ℕ) → length bs ≤ 7 → bytes_of bs ≡ []
bytes_of-few [] le = refl
bytes_of-few (a ∷ []) le = refl
bytes_of-few (a ∷ b ∷ []) le = refl
bytes_of-few (a ∷ b ∷ c ∷ []) le = refl
bytes_of-few (a ∷ b ∷ c ∷ d ∷ []) le = refl
bytes_of-few (a ∷ b ∷ c ∷ d ∷ e ∷ []) le = refl
bytes_of-few (a ∷ b ∷ c ∷ d ∷ e ∷ f ∷ []) le = refl
bytes_of-few (a ∷ b ∷ c ∷ d ∷ e ∷ f ∷ g ∷ []) le = refl
bytes_of-few (a ∷ b ∷ c ∷ d ∷ e ∷ f ∷ g ∷ h ∷ rest) le = absurd (omega arith)

bytes_of-append : (bytes tail : List ℕ) → bytes_of (bits_of bytes ++ tail) ≡ bytes_of (bits_of bytes) ++ bytes_of tail
bytes_of-append [] tail = refl
bytes_of-append (b ∷ bs) tail = ap (λ l. number_of (number_bits 8 b) ∷ l) (bytes_of-append bs tail)

-- a part that is no byte adds none
pub bytes_of-part : (bytes part : List ℕ) → length part ≤ 7 → bytes_of (bits_of bytes) ≡ bytes → bytes ≡ bytes_of (bits_of bytes ++ part)
bytes_of-part bytes part le whole =
    sym (bytes_of-append bytes part ∙ ap (λ l. bytes_of (bits_of bytes) ++ l) (bytes_of-few part le) ∙ append-nil (bytes_of (bits_of bytes)) ∙ whole)

-- one byte more
pub bytes_of-more : (bytes : List ℕ) (b : ℕ) → b < 2 ^ 8 → bytes_of (bits_of bytes) ≡ bytes → bytes_of (bits_of (bytes ++ b ∷ [])) ≡ bytes ++ b ∷ []
bytes_of-more bytes b lt whole =
    ap bytes_of (bits_of-append bytes (b ∷ []))
    ∙ bytes_of-append bytes (bits_of (b ∷ []))
    ∙ ap₂ (λ (l : List ℕ) (n : ℕ). l ++ n ∷ []) whole (number_back 8 b lt)

-- the bits of bytes, where the last byte was a part
pub bits_of-more : (bytes part bit : List ℕ) (b w : ℕ) → w ≡ 8 → number_bits w b ≡ part ++ bit → bits_of (bytes ++ b ∷ []) ++ [] ≡ (bits_of bytes ++ part) ++ bit
bits_of-more bytes part bit b w eight is =
    append-nil (bits_of (bytes ++ b ∷ []))
    ∙ bits_of-append bytes (b ∷ [])
    ∙ ap (λ l. bits_of bytes ++ l) (append-nil (number_bits 8 b) ∙ ap (λ n. number_bits n b) (sym eight) ∙ is)
    ∙ sym (append_assoc (bits_of bytes) part bit)

-- the bits of a byte and of what is behind it, but for the first few
pub rest_of_byte : (k b : ℕ) (l : List ℕ) → k ≤ 7 → drop k (number_bits 8 b ++ l) ≡ number_bits (8 - k) b ++ l
rest_of_byte zero b l le = refl
rest_of_byte (suc zero) b l le = refl
rest_of_byte (suc (suc zero)) b l le = refl
rest_of_byte (suc (suc (suc zero))) b l le = refl
rest_of_byte (suc (suc (suc (suc zero)))) b l le = refl
rest_of_byte (suc (suc (suc (suc (suc zero))))) b l le = refl
rest_of_byte (suc (suc (suc (suc (suc (suc zero)))))) b l le = refl
rest_of_byte (suc (suc (suc (suc (suc (suc (suc zero))))))) b l le = refl
rest_of_byte (suc (suc (suc (suc (suc (suc (suc (suc n)))))))) b l le = absurd (omega arith)

-- the next bit of a number
pub bits_step : (v w i : ℕ) → i < w → number_bits (w - i) v ≡ number_bits 1 (bit_at v (w - 1 - i)) ++ number_bits (w - (i + 1)) v
bits_step v w i lt =
    let e : w - i ≡ suc (w - (i + 1)) = omega arith in
    let k : w - (i + 1) ≡ w - 1 - i = omega arith in
    let low : bit_at (bit_at v (w - 1 - i)) 0 ≡ bit_at v (w - 1 - i) = bit_at_lowest (bit_at v (w - 1 - i)) ∙ mod-eq_of_lt (bit_at-lt v (w - 1 - i)) in
    ap (λ n. number_bits n v) e
    ∙ ap (λ b. b ∷ number_bits (w - (i + 1)) v) (ap (bit_at v) k ∙ sym low)

-- one bit more of a number is written
pub bits_more : (new old all : List ℕ) (v w i b : ℕ) → i < w → b ≡ bit_at v (w - 1 - i) → new ≡ old ++ number_bits 1 b → old ++ number_bits (w - i) v ≡ all → new ++ number_bits (w - (i + 1)) v ≡ all
bits_more new old all v w i b lt bit more inv =
    ap (λ l. l ++ number_bits (w - (i + 1)) v) (more ∙ ap (λ n. old ++ number_bits 1 n) bit)
    ∙ append_assoc old (number_bits 1 (bit_at v (w - 1 - i))) (number_bits (w - (i + 1)) v)
    ∙ ap (λ l. old ++ l) (sym (bits_step v w i lt))
    ∙ inv

-- a part is as long as it is wide
pub part_length : (p : Option Word) → length (part_bits p) ≡ part_width p
part_length None = refl
part_length (Some w) = length-number_bits w.width w.value
