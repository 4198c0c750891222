-- The one's complement sum of bits that come piece by piece.
use Rattle.std.proofs.Common.{◌≡◌, ℕ, ◌+◌, ◌-◌, ◌*◌, ◌/◌, ◌%◌, ◌^◌, ◌<◌, ◌≤◌, List, [], ◌∷◌, ◌++◌, length, append_assoc, append-nil, refl, sym, ap, ◌∙◌, subst, arith}
use Rattle.std.proofs.Math.Nat.{div-lt_iff_lt-mul, mod-eq_of_lt}
use Rattle.std.proofs.lemmas.Nat.{pow-add, pow_pos}
use Rattle.bit_values.specs.Bits.{cast, concat, shr}
use Rattle.bit_values.specs.BitLists.{number_bits}
use Rattle.bit_values.proofs.BitsLemmas.{bit_at-cast_low}
use Rattle.bit_values.proofs.BitListsLemmas.{number_of-number_bits, number_bits-concat, number_bits-parts, number_bits_same, length-number_bits}
use Rattle.bit_writer.specs.Bytes.{bytes_of}
use Rattle.bit_writer.proofs.WriterLemmas.{bytes_of-part}
use Rattle.p4_meaning.specs.Checksum.{ones_sum, bytes_sum}
use Rattle.slot_controls.specs.Sums.{sum_behind, checksum_behind}

-- the first byte of bits
byte_first : (a : ℕ) (more : List ℕ) → bytes_of (number_bits 8 a ++ more) ≡ a % 256 ∷ bytes_of more
byte_first a more = ap (λ b. b ∷ bytes_of more) (number_of-number_bits 8 a)

-- fewer than eight bits are no byte
few_bytes : (bits : List ℕ) → length bits ≤ 7 → bytes_of bits ≡ []
few_bytes bits le = sym (bytes_of-part [] bits le refl)

-- the low bits of a number are those of what it is cut to
bits_cut : (k n : ℕ) → number_bits k (cast k n) ≡ number_bits k n
bits_cut k n = number_bits_same k (cast k n) n (λ i lt. bit_at-cast_low k n i lt)

-- ---- more bits

-- bits behind those that are left
pub bits_more : (sum part count k v : ℕ) (more : List ℕ) → v < 2 ^ k → sum_behind sum (concat part k v) (count + k) more ≡ sum_behind sum part count (number_bits k v ++ more)
bits_more sum part count k v more lt = ap (λ bits. bytes_sum sum (bytes_of bits)) (ap (λ bits. bits ++ more) (number_bits-concat count k part v lt) ∙ append_assoc (number_bits count part) (number_bits k v) more)

two_bytes : (n : ℕ) → n < 2 ^ 16 → 256 * (n / 2 ^ 8 % 256) + n % 256 ≡ n
two_bytes n lt = omega (arith, lt)

-- sixteen bits are a number more
pub whole_more : (sum n : ℕ) (more : List ℕ) → n < 2 ^ 16 → sum_behind (ones_sum sum n) 0 0 more ≡ sum_behind sum n 16 more
whole_more sum n more lt =
    let bits : number_bits 16 n ++ more ≡ number_bits 8 (shr n 8) ++ (number_bits 8 n ++ more) = ap (λ bs. bs ++ more) (number_bits-parts 8 8 n) ∙ append_assoc (number_bits 8 (shr n 8)) (number_bits 8 n) more in
    let bytes : bytes_of (number_bits 16 n ++ more) ≡ shr n 8 % 256 ∷ (n % 256 ∷ bytes_of more) = ap bytes_of bits ∙ byte_first (shr n 8) (number_bits 8 n ++ more) ∙ ap (λ l. shr n 8 % 256 ∷ l) (byte_first n more) in
    sym (ap (bytes_sum sum) bytes ∙ ap (λ m. bytes_sum (ones_sum sum m) (bytes_of more)) (two_bytes n lt))

-- the highest bits of those that are left of a word come first
pub word_less : (k left n : ℕ) (more : List ℕ) → number_bits k (cast k (shr n left)) ++ (number_bits left n ++ more) ≡ number_bits (k + left) n ++ more
word_less k left n more = ap (λ bs. bs ++ (number_bits left n ++ more)) (bits_cut k (shr n left)) ∙ sym (append_assoc (number_bits k (shr n left)) (number_bits left n) more) ∙ sym (ap (λ bs. bs ++ more) (number_bits-parts k left n))

-- ---- the end

-- bits that are no byte count nothing
pub few_left : (sum part count : ℕ) → count < 8 → checksum_behind sum part count ≡ 65535 - sum
few_left sum part count lt =
    let short : length (number_bits count part ++ []) ≤ 7 = omega (arith, lt, length-number_bits count part, ap length (append-nil (number_bits count part))) in
    ap (λ bs. 65535 - bytes_sum sum bs) (few_bytes (number_bits count part ++ []) short)

-- the highest bits of so many
pub shr_below : (n j : ℕ) → n < 2 ^ (8 + j) → shr n j < 256
shr_below n j lt = (div-lt_iff_lt-mul {k = 2 ^ j} {x = n} {y = 256} (pow_pos j)).1 (subst (λ m. n < m) (pow-add 2 8 j) lt)

-- a byte is followed by 0
pub byte_left : (sum part j : ℕ) → j < 8 → part < 2 ^ (8 + j) → checksum_behind sum part (8 + j) ≡ 65535 - ones_sum sum (256 * shr part j)
byte_left sum part j lt low =
    let short : length (number_bits j part ++ []) ≤ 7 = omega (arith, lt, length-number_bits j part, ap length (append-nil (number_bits j part))) in
    let bits : number_bits (8 + j) part ++ [] ≡ number_bits 8 (shr part j) ++ (number_bits j part ++ []) = ap (λ bs. bs ++ []) (number_bits-parts 8 j part) ∙ append_assoc (number_bits 8 (shr part j)) (number_bits j part) [] in
    let high : shr part j < 256 = shr_below part j low in
    let bytes : bytes_of (number_bits (8 + j) part ++ []) ≡ shr part j ∷ [] =
    ap bytes_of bits ∙ byte_first (shr part j) (number_bits j part ++ []) ∙ ap (λ l. shr part j % 256 ∷ l) (few_bytes (number_bits j part ++ []) short) ∙ ap (λ b. b ∷ []) (mod-eq_of_lt high) in
    ap (λ bs. 65535 - bytes_sum sum bs) bytes
