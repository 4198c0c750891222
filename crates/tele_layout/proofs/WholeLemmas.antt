-- Whole telemetry: its bits and its bytes.
use Rattle.std.proofs.Common.{Fits, w8, ◌≡◌, ℕ, zero, suc, ◌+◌, ◌-◌, ◌*◌, ◌<◌, ◌≤◌, List, [], ◌∷◌, ◌++◌, Bool, true, false, cond, Option, Some, None, length, take, drop, replicate, refl, sym, ap, ap₂, ◌∙◌, arith, append_assoc, length-append, length-drop}
use Rattle.std.specs.Prelude.{slice_index_or, nat_eq, Result, Ok, Err, IfOk, IfSome}
use Rattle.std.proofs.lemmas.List.{drop_at, length-replicate, take_all, take-append-drop}
use Rattle.bit_values.specs.Bits.{Word}
use Rattle.bit_values.specs.BitLists.{AreBits, number_bits, number_of}
use Rattle.bit_values.specs.Bytes.{AreBytes, bits_of}
use Rattle.bit_values.proofs.BitListsLemmas.{AreBits-append, AreBits-drop, AreBits-number_bits, AreBits-zeros, bits_back, number_back, length-number_bits}
use Rattle.bit_values.proofs.BytesLemmas.{AreBits-bits_of, length-bits_of}
use Rattle.bit_writer.specs.Bytes.{bytes_of}
use Rattle.tele_layout.specs.Telemetry.{numbers_bits, list_bits, slot_bits, whole_bytes, filled}
use Rattle.tele_layout.specs.Layouts.{slots_length, slots_bits, layout_bits, layout_bytes, lists_of, lists_in, FitSlots, IsLayout}
use Rattle.indus_values.specs.declared.state.TeleState.{TeleState}
use Rattle.tele_layout.specs.Reading.{slots_in}
use Rattle.tele_layout.specs.declared.slots.Slot.{Slot}
use Rattle.tele_layout.specs.declared.slots.Layout.{Layout}
use Rattle.tele_layout.proofs.BackLemmas.{take_at, length-slots_bits, slots_back}
use Rattle.tele_layout.proofs.SoundLemmas.{front_back, slots_sound}

-- ---- bytes and bits

pub bytes_back : (bs : List ℕ) → AreBytes bs → bytes_of (bits_of bs) ≡ bs
bytes_back [] h = refl
bytes_back (b ∷ bs) h = ap₂ (λ x (l : List ℕ). x ∷ l) (number_back 8 b h.0) (bytes_back bs h.1)

pub bits_of-bytes_of : (k : ℕ) (bs : List ℕ) → AreBits bs → length bs ≡ 8 * k → bits_of (bytes_of bs) ≡ bs
bits_of-bytes_of k [] are e = refl
bits_of-bytes_of k (a ∷ []) are e = absurd (omega arith)
bits_of-bytes_of k (a ∷ b ∷ []) are e = absurd (omega arith)
bits_of-bytes_of k (a ∷ b ∷ c ∷ []) are e = absurd (omega arith)
bits_of-bytes_of k (a ∷ b ∷ c ∷ d ∷ []) are e = absurd (omega arith)
bits_of-bytes_of k (a ∷ b ∷ c ∷ d ∷ f ∷ []) are e = absurd (omega arith)
bits_of-bytes_of k (a ∷ b ∷ c ∷ d ∷ f ∷ g ∷ []) are e = absurd (omega arith)
bits_of-bytes_of k (a ∷ b ∷ c ∷ d ∷ f ∷ g ∷ h ∷ []) are e = absurd (omega arith)
bits_of-bytes_of zero (a ∷ b ∷ c ∷ d ∷ f ∷ g ∷ h ∷ i ∷ rest) are e = absurd (omega arith)
bits_of-bytes_of (suc k) (a ∷ b ∷ c ∷ d ∷ f ∷ g ∷ h ∷ i ∷ rest) are e =
    ap₂ (λ (x y : List ℕ). x ++ y)
    (bits_back (a ∷ b ∷ c ∷ d ∷ f ∷ g ∷ h ∷ i ∷ []) (are.0, (are.1.0, (are.1.1.0, (are.1.1.1.0, (are.1.1.1.1.0, (are.1.1.1.1.1.0, (are.1.1.1.1.1.1.0, (are.1.1.1.1.1.1.1.0, tt)))))))))
    (bits_of-bytes_of k rest are.1.1.1.1.1.1.1.1 (omega arith))

pub are_bytes : (bs : List ℕ) → ((i : ℕ) → Fits w8 (slice_index_or bs i 0)) → AreBytes bs
are_bytes [] h = tt
are_bytes (b ∷ bs) h = (let first : Fits w8 b = h 0 in omega (arith, first), are_bytes bs (λ i. h (suc i)))

-- ---- the bits of a layout

AreBits-numbers_bits : (w : ℕ) (vs : List Word) → AreBits (numbers_bits w vs)
AreBits-numbers_bits w [] = tt
AreBits-numbers_bits w (v ∷ vs) = AreBits-append (number_bits w v.value) (numbers_bits w vs) (AreBits-number_bits w v.value) (AreBits-numbers_bits w vs)

are_bits_at : (b : Bool) (w count : ℕ) (vs : List Word) → AreBits (cond b (numbers_bits w vs) (list_bits w count vs))
are_bits_at true w count vs = AreBits-numbers_bits w vs
are_bits_at false w count vs =
    let zeros : List ℕ = replicate ((count - length vs) * w) 0 in
    AreBits-append (number_bits 8 (length vs)) (numbers_bits w vs ++ zeros) (AreBits-number_bits 8 (length vs))
    (AreBits-append (numbers_bits w vs) zeros (AreBits-numbers_bits w vs) (AreBits-zeros ((count - length vs) * w)))

AreBits-slots_bits : (ss : List Slot) (t : List (List Word)) → AreBits (slots_bits ss t)
AreBits-slots_bits [] t = tt
AreBits-slots_bits (s ∷ ss) [] = tt
AreBits-slots_bits (s ∷ ss) (vs ∷ t) = AreBits-append (slot_bits s.width s.count vs) (slots_bits ss t) (are_bits_at (nat_eq s.count 0) s.width s.count vs) (AreBits-slots_bits ss t)

pub length-layout_bits : (l : Layout) (t : List (List Word)) → FitSlots l.slots.items t → length (layout_bits l t) ≡ 8 + slots_length l.slots.items
length-layout_bits l t fit = omega (arith, length-slots_bits l.slots.items t fit)

pub filled_is : (l : Layout) (t : List (List Word)) → IsLayout l → FitSlots l.slots.items t
    → filled (layout_bits l t) ≡ number_bits 8 l.first ++ (slots_bits l.slots.items t ++ replicate (8 * l.bytes - (8 + slots_length l.slots.items)) 0)
filled_is l t is fit =
    let long = length-layout_bits l t fit in
    let whole = is.whole in
    let n : 8 * whole_bytes (length (layout_bits l t)) - length (layout_bits l t) ≡ 8 * l.bytes - (8 + slots_length l.slots.items) = omega (arith, long, whole) in
    ap (λ k. layout_bits l t ++ replicate k 0) n

-- the telemetry has so many bits, and is made of bits
pub record AreFilled (l : Layout) (t : List (List Word)) : Type 0 where
  pub are : AreBits (filled (layout_bits l t))
  pub long : length (filled (layout_bits l t)) ≡ 8 * l.bytes

pub are_filled : (l : Layout) (t : List (List Word)) → IsLayout l → FitSlots l.slots.items t → AreFilled l t
are_filled l t is fit =
    let bits : List ℕ = layout_bits l t in
    let n : ℕ = 8 * whole_bytes (length bits) - length bits in
    let long = length-layout_bits l t fit in
    let whole = is.whole in
    record {
      are = AreBits-append bits (replicate n 0) (AreBits-append (number_bits 8 l.first) (slots_bits l.slots.items t) (AreBits-number_bits 8 l.first) (AreBits-slots_bits l.slots.items t)) (AreBits-zeros n);
      long = length-append bits (replicate n 0) ∙ ap (λ k. length bits + k) (length-replicate n 0) ∙ omega (arith, long, whole);
    }

-- the bits of a state's bytes
pub bits_of-layout_bytes : (l : Layout) (t : List (List Word)) → IsLayout l → FitSlots l.slots.items t → bits_of (layout_bytes l t) ≡ filled (layout_bits l t)
bits_of-layout_bytes l t is fit = let f = are_filled l t is fit in bits_of-bytes_of l.bytes (filled (layout_bits l t)) f.are f.long

pub length-layout_bytes : (l : Layout) (t : List (List Word)) → IsLayout l → FitSlots l.slots.items t → length (layout_bytes l t) ≡ l.bytes
length-layout_bytes l t is fit =
    let f = are_filled l t is fit in
    let same = ap length (bits_of-layout_bytes l t is fit) in
    omega (arith, f.long, same, length-bits_of (layout_bytes l t))

-- ---- writing

-- the three writes together
pub write_whole : (l : Layout) (t : List (List Word)) (first second : List ℕ) (buf : List ℕ) (end unused : ℕ) → IsLayout l → FitSlots l.slots.items t → AreBytes buf → length buf ≡ l.bytes
    → take 8 first ≡ number_bits 8 l.first → end ≡ 8 + slots_length l.slots.items → take end second ≡ take 8 first ++ slots_bits l.slots.items t
    → unused ≡ 8 * l.bytes - end → take (end + unused) (bits_of buf) ≡ take end second ++ replicate unused 0 → buf ≡ layout_bytes l t
write_whole l t first second buf end unused is fit are long mark ends slots rest zeros =
    let whole = is.whole in
    let n : unused ≡ 8 * l.bytes - (8 + slots_length l.slots.items) = omega arith in
    let all : length (bits_of buf) ≤ end + unused = omega (arith, length-bits_of buf, whole) in
    sym (bytes_back buf are)
    ∙ ap bytes_of
    (sym (take_all (end + unused) (bits_of buf) all) ∙ zeros
    ∙ ap (λ (x : List ℕ). x ++ replicate unused 0) (slots ∙ ap (λ (x : List ℕ). x ++ slots_bits l.slots.items t) mark)
    ∙ append_assoc (number_bits 8 l.first) (slots_bits l.slots.items t) (replicate unused 0)
    ∙ ap (λ k. number_bits 8 l.first ++ (slots_bits l.slots.items t ++ replicate k 0)) n
    ∙ sym (filled_is l t is fit))

-- ---- reading

-- a state that was read has these bytes
pub record IsFound (l : Layout) (buf : List ℕ) (t : List (List Word)) : Type 0 where
  pub fit : FitSlots l.slots.items t
  pub bytes : layout_bytes l t ≡ buf

pub tele_found : (l : Layout) (buf : List ℕ) (t : List (List Word)) → IsLayout l → AreBytes buf → length buf ≡ l.bytes → number_of (take 8 (bits_of buf)) ≡ l.first
    → slots_in l.slots.items (drop 8 (bits_of buf)) ≡ Some t → IsFound l buf t
tele_found l buf t is are long mark found =
    let bits : List ℕ = bits_of buf in
    let n : ℕ = 8 * l.bytes - (8 + slots_length l.slots.items) in
    let whole = is.whole in
    let are_bits : AreBits bits = AreBits-bits_of buf in
    let r = slots_sound 8 l.slots.items n (drop 8 bits) t is.placed (AreBits-drop 8 bits are_bits) (omega (arith, length-drop 8 bits, length-bits_of buf, whole)) found in
    let enough : 8 ≤ length bits = omega (arith, length-bits_of buf, whole) in
    record {
      fit = r.fit;
      bytes =
          ap bytes_of
          (filled_is l t is r.fit
          ∙ ap₂ (λ (a b : List ℕ). a ++ b) (ap (number_bits 8) (sym mark) ∙ front_back 8 bits are_bits enough) r.bits
          ∙ take-append-drop 8 bits)
          ∙ bytes_back buf are;
    }

-- the bits of bytes that a state has
bits_are : (l : Layout) (buf : List ℕ) (t : List (List Word)) → IsLayout l → FitSlots l.slots.items t → layout_bytes l t ≡ buf
    → bits_of buf ≡ number_bits 8 l.first ++ (slots_bits l.slots.items t ++ replicate (8 * l.bytes - (8 + slots_length l.slots.items)) 0)
bits_are l buf t is fit e = ap bits_of (sym e) ∙ bits_of-layout_bytes l t is fit ∙ filled_is l t is fit

-- they begin as the layout says
pub tele_mark : (l : Layout) (buf : List ℕ) (t : List (List Word)) → IsLayout l → l.first < 256 → FitSlots l.slots.items t → layout_bytes l t ≡ buf → number_of (take 8 (bits_of buf)) ≡ l.first
tele_mark l buf t is low fit e =
    let rest : List ℕ = slots_bits l.slots.items t ++ replicate (8 * l.bytes - (8 + slots_length l.slots.items)) 0 in
    ap (λ (x : List ℕ). number_of (take 8 x)) (bits_are l buf t is fit e)
    ∙ ap number_of (take_at 8 (number_bits 8 l.first) rest (length-number_bits 8 l.first)) ∙ number_back 8 l.first low

-- and the state is read
pub tele_only : (l : Layout) (buf : List ℕ) (t : List (List Word)) → IsLayout l → FitSlots l.slots.items t → layout_bytes l t ≡ buf → slots_in l.slots.items (drop 8 (bits_of buf)) ≡ Some t
tele_only l buf t is fit e =
    let n : ℕ = 8 * l.bytes - (8 + slots_length l.slots.items) in
    let rest : List ℕ = slots_bits l.slots.items t ++ replicate n 0 in
    ap (λ (x : List ℕ). slots_in l.slots.items (drop 8 x)) (bits_are l buf t is fit e)
    ∙ ap (slots_in l.slots.items) (drop_at (number_bits 8 l.first) rest 8 (length-number_bits 8 l.first))
    ∙ slots_back 8 l.slots.items t n is.placed fit

-- what reading the variables says of the whole
pub found_if : {E : Type 0} → (l : Layout) (buf : List ℕ) (slots : List Slot) (r : Result (Option TeleState) E) → IsLayout l → AreBytes buf → length buf ≡ l.bytes → number_of (take 8 (bits_of buf)) ≡ l.first
    → slots ≡ l.slots.items → IfOk r (λ o. lists_in o ≡ slots_in slots (drop 8 (bits_of buf)))
    → IfOk r (λ o. IfSome o (λ t. FitSlots l.slots.items (lists_of t) × (layout_bytes l (lists_of t) ≡ buf)))
found_if l buf slots (Err e) is are long mark same read = tt
found_if l buf slots (Ok None) is are long mark same read = tt
found_if l buf slots (Ok (Some t)) is are long mark same read =
    let f = tele_found l buf (lists_of t) is are long mark (ap (λ (ss : List Slot). slots_in ss (drop 8 (bits_of buf))) (sym same) ∙ sym read) in
    (f.fit, f.bytes)

pub only_if : {E : Type 0} → (l : Layout) (buf : List ℕ) (slots : List Slot) (r : Result (Option TeleState) E) → IsLayout l
    → slots ≡ l.slots.items → IfOk r (λ o. lists_in o ≡ slots_in slots (drop 8 (bits_of buf)))
    → IfOk r (λ o. (t : List (List Word)) → FitSlots l.slots.items t → layout_bytes l t ≡ buf → lists_in o ≡ Some t)
only_if l buf slots (Err e) is same read = tt
only_if l buf slots (Ok o) is same read = λ t fit e.
    read ∙ ap (λ (ss : List Slot). slots_in ss (drop 8 (bits_of buf))) same ∙ tele_only l buf t is fit e
