-- Words in fields as the bits of a header, and whole bytes of bits.
use Rattle.std.proofs.Common.{◌≡◌, ℕ, zero, suc, ◌+◌, ◌*◌, ◌^◌, ◌<◌, List, [], ◌∷◌, ◌++◌, length, take, drop, refl, sym, ap, ap₂, ◌∙◌, append_assoc, length-append, arith}
use Rattle.std.proofs.Math.Seq.{take-append_seam, drop-append_seam}
use Rattle.bit_values.specs.Bits.{Word, word, cast}
use Rattle.bit_values.specs.BitLists.{AreBits, number_bits, number_of}
use Rattle.bit_values.specs.Bytes.{bits_of}
use Rattle.bit_values.proofs.BitsLemmas.{cast_of_small}
use Rattle.bit_values.proofs.BitListsLemmas.{AreBits-append, AreBits-number_bits, length-number_bits, number_back, bits_back}
use Rattle.bit_writer.specs.Bytes.{words_bits, bytes_of}
use Rattle.p4_meaning.specs.Store.{Store, set_value}
use Rattle.p4_meaning.specs.Parsing.{Field, Reading, width_sum, field_taken, fields_taken, fields_bits}
use Rattle.monitor_laws.specs.Telemetry.{AreFor, HasWords}
use Rattle.monitor_laws.proofs.Fields.{fill}

-- ---- whole bytes

-- eight bits, and again eight, and so on
abbrev pub IsWhole : List ℕ → Type 0
IsWhole [] = Unit {0}
IsWhole (a ∷ b ∷ c ∷ d ∷ e ∷ f ∷ g ∷ h ∷ rest) = AreBits (a ∷ b ∷ c ∷ d ∷ e ∷ f ∷ g ∷ h ∷ []) × IsWhole rest
IsWhole _ = ⊥

pub bytes_of-append : (xs ys : List ℕ) → IsWhole xs → bytes_of (xs ++ ys) ≡ bytes_of xs ++ bytes_of ys
bytes_of-append [] ys w = refl
bytes_of-append (a ∷ b ∷ c ∷ d ∷ e ∷ f ∷ g ∷ h ∷ rest) ys w =
    ap (λ (l : List ℕ). number_of (a ∷ b ∷ c ∷ d ∷ e ∷ f ∷ g ∷ h ∷ []) ∷ l) (bytes_of-append rest ys w.1)
bytes_of-append (a ∷ []) ys w = absurd w
bytes_of-append (a ∷ b ∷ []) ys w = absurd w
bytes_of-append (a ∷ b ∷ c ∷ []) ys w = absurd w
bytes_of-append (a ∷ b ∷ c ∷ d ∷ []) ys w = absurd w
bytes_of-append (a ∷ b ∷ c ∷ d ∷ e ∷ []) ys w = absurd w
bytes_of-append (a ∷ b ∷ c ∷ d ∷ e ∷ f ∷ []) ys w = absurd w
bytes_of-append (a ∷ b ∷ c ∷ d ∷ e ∷ f ∷ g ∷ []) ys w = absurd w

-- whole bytes of bits are the bits of those bytes
pub bits_of_bytes : (bs : List ℕ) → IsWhole bs → bits_of (bytes_of bs) ≡ bs
bits_of_bytes [] w = refl
bits_of_bytes (a ∷ b ∷ c ∷ d ∷ e ∷ f ∷ g ∷ h ∷ rest) w =
    ap₂ (λ (x y : List ℕ). x ++ y) (bits_back (a ∷ b ∷ c ∷ d ∷ e ∷ f ∷ g ∷ h ∷ []) w.0) (bits_of_bytes rest w.1)
bits_of_bytes (a ∷ []) w = absurd w
bits_of_bytes (a ∷ b ∷ []) w = absurd w
bits_of_bytes (a ∷ b ∷ c ∷ []) w = absurd w
bits_of_bytes (a ∷ b ∷ c ∷ d ∷ []) w = absurd w
bits_of_bytes (a ∷ b ∷ c ∷ d ∷ e ∷ []) w = absurd w
bits_of_bytes (a ∷ b ∷ c ∷ d ∷ e ∷ f ∷ []) w = absurd w
bits_of_bytes (a ∷ b ∷ c ∷ d ∷ e ∷ f ∷ g ∷ []) w = absurd w

-- a byte's bits stand in front of whole bytes
pub whole_byte : (v : ℕ) (rest : List ℕ) → IsWhole rest → IsWhole (number_bits 8 v ++ rest)
whole_byte v rest h = (AreBits-number_bits 8 v, h)

-- ---- words in fields

pub length-words : (fs : List Field) (ws : List Word) → AreFor fs ws → length (words_bits ws) ≡ width_sum fs
length-words [] [] h = refl
length-words [] (w ∷ ws) h = absurd h
length-words (f ∷ fs) [] h = absurd h
length-words (f ∷ fs) (w ∷ ws) h =
    length-append (number_bits w.width w.value) (words_bits ws)
    ∙ ap₂ (λ (a b : ℕ). a + b) (length-number_bits w.width w.value ∙ h.0) (length-words fs ws h.2)

take_word : (w : Word) (rest : List ℕ) → take w.width (number_bits w.width w.value ++ rest) ≡ number_bits w.width w.value
take_word w rest =
    ap (λ n. take n (number_bits w.width w.value ++ rest)) (sym (length-number_bits w.width w.value))
    ∙ take-append_seam (number_bits w.width w.value) rest

drop_word : (w : Word) (rest : List ℕ) → drop w.width (number_bits w.width w.value ++ rest) ≡ rest
drop_word w rest =
    ap (λ n. drop n (number_bits w.width w.value ++ rest)) (sym (length-number_bits w.width w.value))
    ∙ drop-append_seam (number_bits w.width w.value) rest

abbrev pub reading_at : Store → List ℕ → Reading
reading_at s rest = record { store = s; rest = rest }

-- a field takes the word that stands before the rest
word_taken : (p : List (List ℕ)) (f : Field) (w : Word) (s : Store) (rest : List ℕ) → w.width ≡ f.width → w.value < 2 ^ w.width → field_taken p f (reading_at s (number_bits w.width w.value ++ rest)) ≡ reading_at (set_value s (p ++ f.name ∷ []) w) rest
word_taken p f w s rest e lt =
    let bits : List ℕ = number_bits w.width w.value ++ rest in
    ap (λ n. reading_at (set_value s (p ++ f.name ∷ []) (word n (number_of (take n bits)))) (drop n bits)) (sym e)
    ∙ ap₂ (λ (v : ℕ) (l : List ℕ). reading_at (set_value s (p ++ f.name ∷ []) (word w.width v)) l)
    (ap number_of (take_word w rest) ∙ number_back w.width w.value lt)
    (drop_word w rest)

-- the fields of a header take the words that stand before the rest
pub words_taken : (p : List (List ℕ)) (fs : List Field) (ws : List Word) (s : Store) (rest : List ℕ) → AreFor fs ws → fields_taken p fs (reading_at s (words_bits ws ++ rest)) ≡ reading_at (fill p fs ws s) rest
words_taken p [] [] s rest h = refl
words_taken p [] (w ∷ ws) s rest h = absurd h
words_taken p (f ∷ fs) [] s rest h = absurd h
words_taken p (f ∷ fs) (w ∷ ws) s rest h =
    ap (λ (l : List ℕ). fields_taken p fs (field_taken p f (reading_at s l))) (append_assoc (number_bits w.width w.value) (words_bits ws) rest)
    ∙ ap (fields_taken p fs) (word_taken p f w s (words_bits ws ++ rest) h.0 h.1)
    ∙ words_taken p fs ws (set_value s (p ++ f.name ∷ []) w) rest h.2

-- the words in the fields of a header are what the deparser writes
pub words_written : (p : List (List ℕ)) (fs : List Field) (ws : List Word) (s : Store) → AreFor fs ws → HasWords p fs ws s → fields_bits p fs s ≡ words_bits ws
words_written p [] [] s h k = refl
words_written p [] (w ∷ ws) s h k = absurd h
words_written p (f ∷ fs) [] s h k = absurd h
words_written p (f ∷ fs) (w ∷ ws) s h k =
    ap₂ (λ (a b : List ℕ). a ++ b)
    (ap (λ (v : Word). number_bits f.width (cast f.width v.value)) k.0
    ∙ ap (λ n. number_bits n (cast n w.value)) (sym h.0)
    ∙ ap (number_bits w.width) (cast_of_small w.width w.value h.1))
    (words_written p fs ws s h.2 k.1)

-- words are bits
AreBits-words : (ws : List Word) → AreBits (words_bits ws)
AreBits-words [] = tt
AreBits-words (w ∷ ws) = AreBits-append (number_bits w.width w.value) (words_bits ws) (AreBits-number_bits w.width w.value) (AreBits-words ws)

-- bits are whole bytes where there are eight a byte
pub whole_bits : (n : ℕ) (bs : List ℕ) → AreBits bs → length bs ≡ n * 8 → IsWhole bs
whole_bits n [] h e = tt
whole_bits zero (a ∷ bs) h e = absurd (omega (arith, e))
whole_bits (suc n) (a ∷ b ∷ c ∷ d ∷ e ∷ f ∷ g ∷ i ∷ rest) h l =
    ((h.0, (h.1.0, (h.1.1.0, (h.1.1.1.0, (h.1.1.1.1.0, (h.1.1.1.1.1.0, (h.1.1.1.1.1.1.0, (h.1.1.1.1.1.1.1.0, tt)))))))), whole_bits n rest h.1.1.1.1.1.1.1.1 (omega (arith, l)))
whole_bits (suc n) (a ∷ []) h l = absurd (omega (arith, l))
whole_bits (suc n) (a ∷ b ∷ []) h l = absurd (omega (arith, l))
whole_bits (suc n) (a ∷ b ∷ c ∷ []) h l = absurd (omega (arith, l))
whole_bits (suc n) (a ∷ b ∷ c ∷ d ∷ []) h l = absurd (omega (arith, l))
whole_bits (suc n) (a ∷ b ∷ c ∷ d ∷ e ∷ []) h l = absurd (omega (arith, l))
whole_bits (suc n) (a ∷ b ∷ c ∷ d ∷ e ∷ f ∷ []) h l = absurd (omega (arith, l))
whole_bits (suc n) (a ∷ b ∷ c ∷ d ∷ e ∷ f ∷ g ∷ []) h l = absurd (omega (arith, l))

-- words that fill whole bytes
pub whole_words : (n : ℕ) (fs : List Field) (ws : List Word) → AreFor fs ws → width_sum fs ≡ n * 8 → IsWhole (words_bits ws)
whole_words n fs ws h e = whole_bits n (words_bits ws) (AreBits-words ws) (length-words fs ws h ∙ e)

-- so many bytes
pub length-bytes : (n : ℕ) (bs : List ℕ) → IsWhole bs → length bs ≡ n * 8 → length (bytes_of bs) ≡ n
length-bytes zero [] h e = refl
length-bytes (suc n) [] h e = absurd (omega (arith, e))
length-bytes zero (a ∷ bs) h e = absurd (omega (arith, e))
length-bytes (suc n) (a ∷ b ∷ c ∷ d ∷ e ∷ f ∷ g ∷ i ∷ rest) h l = ap suc (length-bytes n rest h.1 (omega (arith, l)))
length-bytes (suc n) (a ∷ []) h l = absurd h
length-bytes (suc n) (a ∷ b ∷ []) h l = absurd h
length-bytes (suc n) (a ∷ b ∷ c ∷ []) h l = absurd h
length-bytes (suc n) (a ∷ b ∷ c ∷ d ∷ []) h l = absurd h
length-bytes (suc n) (a ∷ b ∷ c ∷ d ∷ e ∷ []) h l = absurd h
length-bytes (suc n) (a ∷ b ∷ c ∷ d ∷ e ∷ f ∷ []) h l = absurd h
length-bytes (suc n) (a ∷ b ∷ c ∷ d ∷ e ∷ f ∷ g ∷ []) h l = absurd h
