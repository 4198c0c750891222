-- Values that were written are read back.
use Rattle.std.proofs.Common.{◌≡◌, ℕ, zero, suc, ◌+◌, ◌-◌, ◌*◌, ◌<◌, ◌≤◌, ◌^◌, List, [], ◌∷◌, ◌++◌, Bool, true, false, cond, Some, None, length, take, drop, replicate, refl, sym, ap, ap₂, ◌∙◌, arith, subst, append_assoc, length-append}
use Rattle.std.specs.Prelude.{◌&&◌, MatchBool, nat_eq}
use Rattle.std.specs.List.{All}
use Rattle.std.proofs.lemmas.Bool.{le-leb}
use Rattle.std.proofs.lemmas.List.{drop_at, length-replicate}
use Rattle.std.proofs.lemmas.List.Elements.{All-rest}
use Rattle.std.proofs.Math.Seq.{take-append_seam}
use Rattle.bit_values.specs.Bits.{Word, word}
use Rattle.bit_values.specs.BitLists.{number_bits, number_of}
use Rattle.bit_values.proofs.BitListsLemmas.{number_back, length-number_bits}
use Rattle.indus_tree.specs.Shapes.{HasWidth}
use Rattle.tele_layout.specs.Telemetry.{numbers_bits, list_bits, slot_bits}
use Rattle.tele_layout.specs.Layouts.{slot_length, slots_length, slots_bits, FitsSlot, FitSlots, IsSlot, ArePlaced}
use Rattle.tele_layout.specs.Reading.{all_zero, words_in, list_in, slot_in, with_first, slots_in}
use Rattle.tele_layout.specs.declared.slots.Slot.{Slot}
use Rattle.tele_layout.proofs.WritingLemmas.{sound_is, all_items}

pub take_at : (n : ℕ) (a b : List ℕ) → length a ≡ n → take n (a ++ b) ≡ a
take_at n a b e = ap (λ k. take k (a ++ b)) (sym e) ∙ take-append_seam a b

pub zeros_are : (n : ℕ) → all_zero (replicate n 0) ≡ true
zeros_are zero = refl
zeros_are (suc n) = zeros_are n

pub length-numbers_bits : (w : ℕ) (vs : List Word) → length (numbers_bits w vs) ≡ length vs * w
length-numbers_bits w [] = omega arith
length-numbers_bits w (v ∷ vs) = omega (arith, length-append (number_bits w v.value) (numbers_bits w vs), length-number_bits w v.value, length-numbers_bits w vs)

-- the first of some words, and the others
pub record HasFirst (w : ℕ) (v : Word) (vs : List Word) : Type 0 where
  pub width : v.width ≡ w
  pub in_range : v.value < 2 ^ w
  pub others : All (HasWidth w) vs

pub first_of_words : (w : ℕ) (v : Word) (vs : List Word) → 1 ≤ w → w ≤ 128 → All (HasWidth w) (v ∷ vs) → HasFirst w v vs
first_of_words w v vs wide narrow h =
    let lt : 0 < suc (length vs) = omega arith in
    let first : HasWidth w v = h 0 v lt in
    let same = sound_is w wide narrow in
    record {
      width = first.width ∙ same;
      in_range = let P : ℕ → Type 0 = λ k. v.value < 2 ^ k in subst P same first.in_range;
      others = All-rest (HasWidth w) v vs (v ∷ vs) refl h;
    }

word_is : (w : ℕ) (v : Word) (rest : List ℕ) → v.width ≡ w → v.value < 2 ^ w → word w (number_of (take w (number_bits w v.value ++ rest))) ≡ v
word_is w v rest e lt =
    ap (word w) (ap number_of (take_at w (number_bits w v.value) rest (length-number_bits w v.value)) ∙ number_back w v.value lt)
    ∙ ap (λ n. word n v.value) (sym e)

pub words_back : (w : ℕ) (vs : List Word) (rest : List ℕ) → 1 ≤ w → w ≤ 128 → All (HasWidth w) vs → words_in w (length vs) (numbers_bits w vs ++ rest) ≡ vs
words_back w [] rest wide narrow h = refl
words_back w (v ∷ vs) rest wide narrow h =
    let f = first_of_words w v vs wide narrow h in
    let bits : List ℕ = number_bits w v.value in
    let left : List ℕ = numbers_bits w vs ++ rest in
    ap (λ (l : List ℕ). word w (number_of (take w l)) ∷ words_in w (length vs) (drop w l)) (append_assoc bits (numbers_bits w vs) rest)
    ∙ ap₂ (λ (x : Word) (l : List ℕ). x ∷ words_in w (length vs) l) (word_is w v left f.width f.in_range) (drop_at bits left w (length-number_bits w v.value))
    ∙ ap (λ (l : List Word). v ∷ l) (words_back w vs rest wide narrow f.others)

-- the items of a list, whose unused bits are 0
items_back : (w count : ℕ) (vs : List Word) (rest : List ℕ) → 1 ≤ w → w ≤ 128 → length vs ≤ count → All (HasWidth w) vs
    → list_in w count (length vs) ((numbers_bits w vs ++ replicate ((count - length vs) * w) 0) ++ rest) ≡ Some vs
items_back w count vs rest wide narrow le h =
    let bits : List ℕ = numbers_bits w vs in
    let n : ℕ = (count - length vs) * w in
    let left : List ℕ = replicate n 0 ++ rest in
    let unused : take n (drop (length vs * w) (bits ++ left)) ≡ replicate n 0 =
    ap (take n) (drop_at bits left (length vs * w) (length-numbers_bits w vs)) ∙ take_at n (replicate n 0) rest (length-replicate n 0) in
    ap (list_in w count (length vs)) (append_assoc bits (replicate n 0) rest)
    ∙ ap₂ (λ a b. cond (a && b) (Some (words_in w (length vs) (bits ++ left))) None) (le-leb (length vs) count le) (ap all_zero unused ∙ zeros_are n)
    ∙ ap Some (words_back w vs left wide narrow h)

-- a scalar or a list, as its count tells
slot_back_at : (b : Bool) (w count : ℕ) (vs : List Word) (rest : List ℕ) → 1 ≤ w → w ≤ 128 → count ≤ 255 → MatchBool b (length vs ≡ 1) (length vs ≤ count) → All (HasWidth w) vs
    → (let bits : List ℕ = cond b (numbers_bits w vs) (list_bits w count vs) ++ rest in cond b (Some (words_in w 1 bits)) (list_in w count (number_of (take 8 bits)) (drop 8 bits)) ≡ Some vs)
slot_back_at true w count vs rest wide narrow small one h =
    ap (λ n. Some (words_in w n (numbers_bits w vs ++ rest))) (sym one) ∙ ap Some (words_back w vs rest wide narrow h)
slot_back_at false w count vs rest wide narrow small le h =
    let head : List ℕ = number_bits 8 (length vs) in
    let items : List ℕ = numbers_bits w vs ++ replicate ((count - length vs) * w) 0 in
    ap (λ (bits : List ℕ). list_in w count (number_of (take 8 bits)) (drop 8 bits)) (append_assoc head items rest)
    ∙ ap₂ (λ n (l : List ℕ). list_in w count n l)
    (ap number_of (take_at 8 head (items ++ rest) (length-number_bits 8 (length vs))) ∙ number_back 8 (length vs) (omega arith))
    (drop_at head (items ++ rest) 8 (length-number_bits 8 (length vs)))
    ∙ items_back w count vs rest wide narrow le h

pub slot_back : (at : ℕ) (s : Slot) (vs : List Word) (rest : List ℕ) → IsSlot at s → FitsSlot s vs → slot_in s (slot_bits s.width s.count vs ++ rest) ≡ Some vs
slot_back at s vs rest is fits = slot_back_at (nat_eq s.count 0) s.width s.count vs rest is.wide is.narrow is.small fits.used fits.words

-- ---- how many bits there are

length_at : (b : Bool) (w count : ℕ) (vs : List Word) → MatchBool b (length vs ≡ 1) (length vs ≤ count)
    → length (cond b (numbers_bits w vs) (list_bits w count vs)) ≡ cond b w (8 + count * w)
length_at true w count vs one = length-numbers_bits w vs ∙ ap (λ n. n * w) one ∙ (let e : 1 * w ≡ w = omega arith in e)
length_at false w count vs le =
    let all = all_items w count (length vs) le in
    let zeros : List ℕ = replicate ((count - length vs) * w) 0 in
    omega (arith, all, length-append (number_bits 8 (length vs)) (numbers_bits w vs ++ zeros), length-append (numbers_bits w vs) zeros, length-number_bits 8 (length vs), length-numbers_bits w vs, length-replicate {A = ℕ} ((count - length vs) * w) 0)

pub length-slot_bits : (s : Slot) (vs : List Word) → FitsSlot s vs → length (slot_bits s.width s.count vs) ≡ slot_length s.width s.count
length-slot_bits s vs fits = length_at (nat_eq s.count 0) s.width s.count vs fits.used

pub length-slots_bits : (ss : List Slot) (t : List (List Word)) → FitSlots ss t → length (slots_bits ss t) ≡ slots_length ss
length-slots_bits [] [] h = refl
length-slots_bits [] (vs ∷ t) h = absurd h
length-slots_bits (s ∷ ss) [] h = absurd h
length-slots_bits (s ∷ ss) (vs ∷ t) h = omega (arith, length-append (slot_bits s.width s.count vs) (slots_bits ss t), length-slot_bits s vs h.0, length-slots_bits ss t h.1)

-- ---- all variables

pub slots_back : (at : ℕ) (ss : List Slot) (t : List (List Word)) (n : ℕ) → ArePlaced at ss → FitSlots ss t → slots_in ss (slots_bits ss t ++ replicate n 0) ≡ Some t
slots_back at [] [] n placed h = ap (λ b. cond b (Some []) None) (zeros_are n)
slots_back at [] (vs ∷ t) n placed h = absurd h
slots_back at (s ∷ ss) [] n placed h = absurd h
slots_back at (s ∷ ss) (vs ∷ t) n placed h =
    let bits : List ℕ = slot_bits s.width s.count vs in
    let rest : List ℕ = slots_bits ss t ++ replicate n 0 in
    ap (λ (l : List ℕ). with_first (slot_in s l) (slots_in ss (drop (slot_length s.width s.count) l))) (append_assoc bits (slots_bits ss t) (replicate n 0))
    ∙ ap₂ with_first (slot_back at s vs rest placed.0 h.0)
    (ap (slots_in ss) (drop_at bits rest (slot_length s.width s.count) (length-slot_bits s vs h.0)) ∙ slots_back (at + slot_length s.width s.count) ss t n placed.1 h.1)
