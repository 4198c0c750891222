-- Bytes behind other bits, and the whole bytes of bits.
use Rattle.std.proofs.Common.{◌≡◌, ℕ, zero, suc, ◌+◌, ◌-◌, ◌*◌, ◌/◌, ◌%◌, ◌<◌, ◌≤◌, List, [], ◌∷◌, ◌++◌, length, length-take, length-drop, take, drop, get_or, refl, sym, ap, ap₂, ◌∙◌, append_assoc, arith, Fits, w8}
use Rattle.std.specs.Prelude.{slice_index_or}
use Rattle.std.proofs.Math.Seq.{take-add}
use Rattle.std.proofs.lemmas.List.{append-nil, drop_more, take_all}
use Rattle.bit_values.specs.BitLists.{number_bits}
use Rattle.bit_values.specs.Bytes.{AreBytes, bits_of}
use Rattle.bit_values.proofs.BitListsLemmas.{number_back}
use Rattle.bit_values.proofs.BytesLemmas.{bits_of-append, bits_of-take}
use Rattle.bit_writer.specs.Bytes.{bytes_of}
use Rattle.bit_writer.proofs.WriterLemmas.{bytes_of-part, rest_of_byte}

pub are_bytes : (bs : List ℕ) → ((i : ℕ) → Fits w8 (slice_index_or bs i 0)) → AreBytes bs
are_bytes [] h = tt
are_bytes (b ∷ bs) h = (let first : Fits w8 b = h 0 in omega (arith, first), are_bytes bs (λ i. h (suc i)))

bytes_back : (bs : List ℕ) → AreBytes bs → bytes_of (bits_of bs) ≡ bs
bytes_back [] h = refl
bytes_back (b ∷ bs) h = ap₂ (λ x (l : List ℕ). x ∷ l) (number_back 8 b h.0) (bytes_back bs h.1)

front_bytes : (n : ℕ) (bs : List ℕ) → AreBytes bs → AreBytes (take n bs)
front_bytes zero bs h = tt
front_bytes (suc n) [] h = tt
front_bytes (suc n) (b ∷ bs) h = (h.0, front_bytes n bs h.1)

-- the whole bytes of the first bits of some bytes are the first ones of them
pub whole_bytes : (bs : List ℕ) (end : ℕ) → AreBytes bs → take (end / 8) bs ≡ bytes_of (take end (bits_of bs))
whole_bytes bs end are =
    let k : ℕ = end / 8 in
    let j : ℕ = end % 8 in
    let parts : end ≡ 8 * k + j = omega arith in
    let part : List ℕ = take j (drop (8 * k) (bits_of bs)) in
    let few : length part ≤ 7 = omega (arith, length-take j (drop (8 * k) (bits_of bs))) in
    bytes_of-part (take k bs) part few (bytes_back (take k bs) (front_bytes k bs are))
    ∙ ap (λ l. bytes_of (l ++ part)) (bits_of-take k bs)
    ∙ ap bytes_of (sym (take-add (8 * k) j (bits_of bs)) ∙ ap (λ n. take n (bits_of bs)) (sym parts))

-- no bytes behind bits
pub none_behind : (front rest : List ℕ) (skip : ℕ) → length rest ≡ 0 → front ++ drop skip (bits_of rest) ≡ front
none_behind front [] zero e = append-nil front
none_behind front [] (suc k) e = append-nil front
none_behind front (b ∷ rest) skip e = absurd (omega (arith, e))

-- bytes that are copied behind whole bytes
pub copied :
    (old new bytes : List ℕ) (at : ℕ) → at % 8 ≡ 0 → take (at / 8 + length bytes) new ≡ take (at / 8) old ++ bytes → take (at + 8 * length bytes) (bits_of new) ≡ take at (bits_of old) ++ bits_of bytes
copied old new bytes at whole e =
    let all : at + 8 * length bytes ≡ 8 * (at / 8 + length bytes) = omega (arith, whole) in
    let front : 8 * (at / 8) ≡ at = omega (arith, whole) in
    ap (λ n. take n (bits_of new)) all
    ∙ sym (bits_of-take (at / 8 + length bytes) new)
    ∙ ap bits_of e
    ∙ bits_of-append (take (at / 8) old) bytes
    ∙ ap (λ l. l ++ bits_of bytes) (bits_of-take (at / 8) old ∙ ap (λ n. take n (bits_of old)) front)

-- one byte more behind bits
pub byte_more :
    (bytes : List ℕ) (i b : ℕ) (before after all : List ℕ) → i < length bytes → b ≡ get_or bytes i 0 → after ≡ before ++ number_bits 8 b → before ++ bits_of (drop i bytes) ≡ all → after ++ bits_of (drop (i + 1) bytes) ≡ all
byte_more bytes i b before after all lt is more so_far =
    let left : drop i bytes ≡ b ∷ drop (i + 1) bytes = drop_more bytes i 0 lt ∙ ap (λ x. x ∷ drop (i + 1) bytes) (sym is) in
    ap (λ l. l ++ bits_of (drop (i + 1) bytes)) more
    ∙ append_assoc before (number_bits 8 b) (bits_of (drop (i + 1) bytes))
    ∙ ap (λ l. before ++ bits_of l) (sym left)
    ∙ so_far

-- bits that are left of bytes, the first of which is written by itself
pub rest_written :
    (front middle bits rest : List ℕ) (skip : ℕ) → skip ≤ 7 → 0 < length rest → middle ≡ front ++ number_bits (8 - skip) (get_or rest 0 0) → bits ≡ middle ++ bits_of (take (length rest - 1) (drop 1 rest)) → bits ≡ front ++ drop skip (bits_of rest)
rest_written front middle bits rest skip few some first behind =
    let all : rest ≡ get_or rest 0 0 ∷ drop 1 rest = drop_more rest 0 0 some in
    behind
    ∙ ap (λ l. middle ++ bits_of l) (take_all (length rest - 1) (drop 1 rest) (omega (arith, length-drop 1 rest)))
    ∙ ap (λ l. l ++ bits_of (drop 1 rest)) first
    ∙ append_assoc front (number_bits (8 - skip) (get_or rest 0 0)) (bits_of (drop 1 rest))
    ∙ ap (λ l. front ++ l) (sym (rest_of_byte skip (get_or rest 0 0) (bits_of (drop 1 rest)) few))
    ∙ ap (λ l. front ++ drop skip (bits_of l)) (sym all)
