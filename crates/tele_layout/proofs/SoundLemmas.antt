-- Values that are read have the bits from which they were read.
use Rattle.std.proofs.Common.{◌≡◌, ℕ, zero, suc, ◌+◌, ◌-◌, ◌*◌, ◌<◌, ◌≤◌, ◌^◌, List, [], ◌∷◌, ◌++◌, Bool, true, false, cond, Option, Some, None, length, take, drop, replicate, refl, sym, ap, ap₂, ◌∙◌, arith, subst, append_assoc, length-drop}
use Rattle.std.specs.Prelude.{◌&&◌, MatchBool, nat_eq, nat_le}
use Rattle.std.specs.List.{All}
use Rattle.std.proofs.lemmas.Bool.{leb-true}
use Rattle.std.proofs.lemmas.Bool.Decides.{Decides-eqb}
use Rattle.std.proofs.lemmas.List.{length-take-le, take-append-drop}
use Rattle.std.proofs.lemmas.List.Elements.{All-cons, All-nil}
use Rattle.std.proofs.Math.Seq.{take-add}
use Rattle.bit_values.specs.Bits.{Word, word}
use Rattle.bit_values.specs.BitLists.{AreBits, number_bits, number_of}
use Rattle.bit_values.proofs.BitListsLemmas.{AreBits-take, AreBits-drop, bits_back, number_of-lt}
use Rattle.indus_tree.specs.Shapes.{HasWidth}
use Rattle.tele_layout.specs.Telemetry.{numbers_bits, list_bits, slot_bits}
use Rattle.tele_layout.specs.Layouts.{slot_length, slots_length, slots_bits, FitSlots, IsSlot, ArePlaced}
use Rattle.tele_layout.specs.Reading.{all_zero, words_in, list_in, slot_in, with_first, slots_in}
use Rattle.tele_layout.specs.declared.slots.Slot.{Slot}
use Rattle.tele_layout.proofs.WritingLemmas.{sound_is, all_items}

two_hold : (b c : Bool) → (b && c) ≡ true → (b ≡ true) × (c ≡ true)
two_hold true true e = (refl, refl)
two_hold true false e = absurd (let h : false ≡ true = e in cc)
two_hold false c e = absurd (let h : false ≡ true = e in cc)

-- ---- zeros

pub zeros_back : (bs : List ℕ) → all_zero bs ≡ true → replicate (length bs) 0 ≡ bs
zeros_back [] e = refl
zeros_back (b ∷ bs) e =
    let h = two_hold (nat_eq b 0) (all_zero bs) e in
    ap₂ (λ x (l : List ℕ). x ∷ l) (sym ((Decides-eqb b 0).0 h.0)) (zeros_back bs h.1)

zeros_front : (n : ℕ) (bs : List ℕ) → n ≤ length bs → all_zero (take n bs) ≡ true → replicate n 0 ≡ take n bs
zeros_front n bs le e = ap (λ k. replicate k 0) (sym (length-take-le n bs le)) ∙ zeros_back (take n bs) e

-- ---- numbers

-- a number that was read has its bits, and is in range
pub front_back : (w : ℕ) (bs : List ℕ) → AreBits bs → w ≤ length bs → number_bits w (number_of (take w bs)) ≡ take w bs
front_back w bs are le = ap (λ k. number_bits k (number_of (take w bs))) (sym (length-take-le w bs le)) ∙ bits_back (take w bs) (AreBits-take w bs are)

front_low : (w : ℕ) (bs : List ℕ) → AreBits bs → w ≤ length bs → number_of (take w bs) < 2 ^ w
front_low w bs are le = let P : ℕ → Type 0 = λ k. number_of (take w bs) < 2 ^ k in subst P (length-take-le w bs le) (number_of-lt (take w bs) (AreBits-take w bs are))

pub words_sound : (w n : ℕ) (bs : List ℕ) → AreBits bs → n * w ≤ length bs → numbers_bits w (words_in w n bs) ≡ take (n * w) bs
words_sound w zero bs are le = let z : 0 ≡ 0 * w = omega arith in ap (λ k. take k bs) z
words_sound w (suc n) bs are le =
    let sum : w + n * w ≡ suc n * w = omega arith in
    ap₂ (λ (a b : List ℕ). a ++ b) (front_back w bs are (omega arith)) (words_sound w n (drop w bs) (AreBits-drop w bs are) (omega (arith, length-drop w bs)))
    ∙ sym (take-add w (n * w) bs) ∙ ap (λ k. take k bs) sum

pub length-words_in : (w n : ℕ) (bs : List ℕ) → length (words_in w n bs) ≡ n
length-words_in w zero bs = refl
length-words_in w (suc n) bs = ap suc (length-words_in w n (drop w bs))

pub words_fit : (w n : ℕ) (bs : List ℕ) → 1 ≤ w → w ≤ 128 → AreBits bs → n * w ≤ length bs → All (HasWidth w) (words_in w n bs)
words_fit w zero bs wide narrow are le = All-nil (HasWidth w)
words_fit w (suc n) bs wide narrow are le =
    let same = sym (sound_is w wide narrow) in
    let P : ℕ → Type 0 = λ k. number_of (take w bs) < 2 ^ k in
    let first : HasWidth w (word w (number_of (take w bs))) = record { width = same; in_range = subst P same (front_low w bs are (omega arith)) } in
    All-cons (HasWidth w) (word w (number_of (take w bs))) (words_in w n (drop w bs)) first (words_fit w n (drop w bs) wide narrow (AreBits-drop w bs are) (omega (arith, length-drop w bs)))

-- ---- a variable

-- the bits of a variable are those from which its values were read, and the values fit
pub record IsSlotRead (b : Bool) (w count : ℕ) (bs : List ℕ) (vs : List Word) : Type 0 where
  pub bits : cond b (numbers_bits w vs) (list_bits w count vs) ≡ take (cond b w (8 + count * w)) bs
  pub used : MatchBool b (length vs ≡ 1) (length vs ≤ count)
  pub words : All (HasWidth w) vs

if_some : {X : Type 0} (b : Bool) (x y : X) → cond b (Some x) None ≡ Some y → (b ≡ true) × (x ≡ y)
if_some true x y e = (refl, cc)
if_some false x y e = absurd (let h : None ≡ Some y = e in cc)

list_read : (w count : ℕ) (bs : List ℕ) → 1 ≤ w → w ≤ 128 → AreBits bs → 8 + count * w ≤ length bs → number_of (take 8 bs) ≤ count
    → all_zero (take ((count - number_of (take 8 bs)) * w) (drop (number_of (take 8 bs) * w) (drop 8 bs))) ≡ true
    → IsSlotRead false w count bs (words_in w (number_of (take 8 bs)) (drop 8 bs))
list_read w count bs wide narrow are le low zeros =
    let n : ℕ = number_of (take 8 bs) in
    let rest : List ℕ = drop 8 bs in
    let vs : List Word = words_in w n rest in
    let unused : ℕ = (count - n) * w in
    let all : n * w + unused ≡ count * w = all_items w count n low in
    let room : count * w ≤ length rest = omega (arith, length-drop 8 bs) in
    let long : length vs ≡ n = length-words_in w n rest in
    let back : replicate unused 0 ≡ take unused (drop (n * w) rest) = zeros_front unused (drop (n * w) rest) (omega (arith, length-drop (n * w) rest)) zeros in
    record {
      bits =
          ap (λ k. number_bits 8 k ++ (numbers_bits w vs ++ replicate ((count - k) * w) 0)) long
          ∙ ap₂ (λ (a b : List ℕ). a ++ b) (front_back 8 bs are (omega arith))
          (ap₂ (λ (a b : List ℕ). a ++ b) (words_sound w n rest (AreBits-drop 8 bs are) (omega arith)) back ∙ sym (take-add (n * w) unused rest) ∙ ap (λ k. take k rest) all)
          ∙ sym (take-add 8 (count * w) bs);
      used = omega arith;
      words = words_fit w n rest wide narrow (AreBits-drop 8 bs are) (omega arith);
    }

slot_sound_at : (b : Bool) (w count : ℕ) (bs : List ℕ) (vs : List Word) → 1 ≤ w → w ≤ 128 → AreBits bs → cond b w (8 + count * w) ≤ length bs
    → cond b (Some (words_in w 1 bs)) (list_in w count (number_of (take 8 bs)) (drop 8 bs)) ≡ Some vs → IsSlotRead b w count bs vs
slot_sound_at true w count bs vs wide narrow are le e =
    let same : words_in w 1 bs ≡ vs = cc in
    let one : 1 * w ≡ w = omega arith in
    let read : IsSlotRead true w count bs (words_in w 1 bs) = record {
      bits = words_sound w 1 bs are (omega arith) ∙ ap (λ k. take k bs) one;
      used = refl;
      words = words_fit w 1 bs wide narrow are (omega arith);
    } in
    subst (IsSlotRead true w count bs) same read
slot_sound_at false w count bs vs wide narrow are le e =
    let n : ℕ = number_of (take 8 bs) in
    let zeros : Bool = all_zero (take ((count - n) * w) (drop (n * w) (drop 8 bs))) in
    let t = if_some (nat_le n count && zeros) (words_in w n (drop 8 bs)) vs e in
    let h = two_hold (nat_le n count) zeros t.0 in
    subst (IsSlotRead false w count bs) t.1 (list_read w count bs wide narrow are le (leb-true n count h.0) h.1)

-- ---- all variables

pub record AreRead (ss : List Slot) (n : ℕ) (bs : List ℕ) (t : List (List Word)) : Type 0 where
  pub bits : slots_bits ss t ++ replicate n 0 ≡ bs
  pub fit : FitSlots ss t

parts_of : (o : Option (List Word)) (p : Option (List (List Word))) (t : List (List Word)) → with_first o p ≡ Some t → (vs : List Word) × (us : List (List Word)) × (o ≡ Some vs) × (p ≡ Some us) × (vs ∷ us ≡ t)
parts_of None p t e = absurd (let h : None ≡ Some t = e in cc)
parts_of (Some vs) None t e = absurd (let h : None ≡ Some t = e in cc)
parts_of (Some vs) (Some us) t e = (vs, us, refl, refl, (let h : Some (vs ∷ us) ≡ Some t = e in cc))

pub slots_sound : (at : ℕ) (ss : List Slot) (n : ℕ) (bs : List ℕ) (t : List (List Word)) → ArePlaced at ss → AreBits bs → length bs ≡ slots_length ss + n → slots_in ss bs ≡ Some t → AreRead ss n bs t
slots_sound at [] n bs t placed are long e =
    let empty : List (List Word) = [] in
    let s = if_some (all_zero bs) empty t e in
    let same : n ≡ length bs = omega arith in
    let read : AreRead [] n bs [] = record { bits = ap (λ k. replicate k 0) same ∙ zeros_back bs s.0; fit = tt } in
    subst (AreRead [] n bs) s.1 read
slots_sound at (s ∷ ss) n bs t placed are long e =
    let size : ℕ = slot_length s.width s.count in
    let p = parts_of (slot_in s bs) (slots_in ss (drop size bs)) t e in
    let is : IsSlot at s = placed.0 in
    let here = slot_sound_at (nat_eq s.count 0) s.width s.count bs p.0 is.wide is.narrow are (omega arith) p.2 in
    let rest = slots_sound (at + size) ss n (drop size bs) p.1 placed.1 (AreBits-drop size bs are) (omega (arith, length-drop size bs)) p.3 in
    let read : AreRead (s ∷ ss) n bs (p.0 ∷ p.1) = record {
      bits = append_assoc (slot_bits s.width s.count p.0) (slots_bits ss p.1) (replicate n 0) ∙ ap₂ (λ (a b : List ℕ). a ++ b) here.bits rest.bits ∙ take-append-drop size bs;
      fit = (record { used = here.used; words = here.words }, rest.fit);
    } in
    subst (AreRead (s ∷ ss) n bs) p.4 read
