-- Steps of reading: what is read so far, and what is left.
use Rattle.std.proofs.Common.{◌≡◌, ℕ, zero, suc, ◌+◌, ◌-◌, ◌*◌, ◌<◌, ◌≤◌, List, [], ◌∷◌, ◌++◌, Bool, true, false, cond, Option, Some, None, take, drop, map, refl, sym, ap, ap₂, ◌∙◌, arith, subst, append_assoc, append-nil}
use Rattle.std.specs.Prelude.{◌&&◌, nat_eq}
use Rattle.std.proofs.lemmas.List.{drop-drop, map-append}
use Rattle.bit_values.specs.Bits.{Word, word}
use Rattle.bit_values.specs.BitLists.{number_bits, number_of}
use Rattle.std.proofs.Math.Nat.{mod-eq_of_lt}
use Rattle.std.proofs.lemmas.Nat.Bits.{bit_at_lowest}
use Rattle.indus_values.specs.View.{Cells, cells_of}
use Rattle.tele_layout.specs.Layouts.{slot_length, slots_length, IsSlot, ArePlaced}
use Rattle.tele_layout.specs.Reading.{all_zero, words_in, slot_in, with_first, slots_in, behind}
use Rattle.tele_layout.specs.declared.slots.Slot.{Slot}

-- ---- zeros

front_zero : (n v : ℕ) (l rest : List ℕ) → 0 < n → v < 2 → l ≡ number_bits 1 v ++ rest → all_zero (take n l) ≡ (nat_eq v 0 && all_zero (take (n - 1) rest))
front_zero zero v l rest pos low e = absurd (omega arith)
front_zero (suc n) v l rest pos low e =
    let same : n ≡ suc n - 1 = omega arith in
    ap (λ (bs : List ℕ). all_zero (take (suc n) bs)) e
    ∙ ap₂ (λ b m. nat_eq b 0 && all_zero (take m rest)) (bit_at_lowest v ∙ mod-eq_of_lt low) same

-- the next bit decides, or those behind it
pub next_zero : (bits : List ℕ) (at count i v : ℕ) → i < count → v < 2 → drop (at + i) bits ≡ number_bits 1 v ++ drop (at + i + 1) bits
    → all_zero (take (count - i) (drop (at + i) bits)) ≡ (nat_eq v 0 && all_zero (take (count - (i + 1)) (drop (at + (i + 1)) bits)))
next_zero bits at count i v lt low left =
    let n : count - i - 1 ≡ count - (i + 1) = omega arith in
    let place : at + i + 1 ≡ at + (i + 1) = omega arith in
    front_zero (count - i) v (drop (at + i) bits) (drop (at + i + 1) bits) (omega arith) low left
    ∙ ap₂ (λ m k. nat_eq v 0 && all_zero (take m (drop k bits))) n place

-- ---- numbers

-- numbers are being read: those that were, and those that are left
pub record Taking (w at count : ℕ) (bits : List ℕ) (i next : ℕ) (numbers : List Word) : Type 0 where
  pub place : next ≡ at + i * w
  pub read : numbers ++ words_in w (count - i) (drop next bits) ≡ words_in w count (drop at bits)

first_in : (w n : ℕ) (bits : List ℕ) → 0 < n → words_in w n bits ≡ word w (number_of (take w bits)) ∷ words_in w (n - 1) (drop w bits)
first_in w zero bits pos = absurd (omega arith)
first_in w (suc n) bits pos = let same : n ≡ suc n - 1 = omega arith in ap (λ k. word w (number_of (take w bits)) ∷ words_in w k (drop w bits)) same

pub take_start : (w at count : ℕ) (bits : List ℕ) (numbers : List Word) → numbers ≡ [] → Taking w at count bits 0 at numbers
take_start w at count bits numbers e =
    let n : count - 0 ≡ count = omega arith in
    record { place = omega arith; read = ap₂ (λ (l : List Word) k. l ++ words_in w k (drop at bits)) e n }

pub take_more : (w at count : ℕ) (bits : List ℕ) (i next : ℕ) (numbers new : List Word) (v : Word) → i < count → v ≡ word w (number_of (take w (drop next bits))) → new ≡ numbers ++ v ∷ []
    → Taking w at count bits i next numbers → Taking w at count bits (i + 1) (next + w) new
take_more w at count bits i next numbers new v lt is pushed t =
    let n : count - i - 1 ≡ count - (i + 1) = omega arith in
    let place : next + w ≡ at + (i + 1) * w = omega (arith, t.place) in
    let rest : List Word = words_in w (count - (i + 1)) (drop (next + w) bits) in
    let open_ : words_in w (count - i) (drop next bits) ≡ v ∷ rest =
    first_in w (count - i) (drop next bits) (omega arith)
    ∙ ap₂ (λ (x : Word) (l : List Word). x ∷ l) (sym is) (ap₂ (λ k (l : List ℕ). words_in w k l) n (drop-drop w next bits)) in
    record {
      place = place;
      read = ap (λ l. l ++ rest) pushed ∙ append_assoc numbers (v ∷ []) rest ∙ ap (λ l. numbers ++ l) (sym open_) ∙ t.read;
    }

pub take_end : (w at count : ℕ) (bits : List ℕ) (i next : ℕ) (numbers : List Word) → count ≤ i → Taking w at count bits i next numbers → numbers ≡ words_in w count (drop at bits)
take_end w at count bits i next numbers le t =
    let n : count - i ≡ 0 = omega arith in
    sym (ap (λ k. numbers ++ words_in w k (drop next bits)) n ∙ append-nil numbers) ∙ t.read

-- where the next number stands
pub take_within : (w at count : ℕ) (bits : List ℕ) (i next : ℕ) (numbers : List Word) (n : ℕ) → i < count → at + count * w ≤ n → Taking w at count bits i next numbers → next + w ≤ n
take_within w at count bits i next numbers n lt le t =
    let sum : count ≡ i + 1 + (count - (i + 1)) = omega arith in
    let all : count * w ≡ i * w + w + (count - (i + 1)) * w = ap (λ k. k * w) sum ∙ grind arith in
    omega (arith, t.place, all)

-- ---- variables

behind_none : (vs : List (List Word)) → behind vs None ≡ None
behind_none vs = refl

behind_start : (o : Option (List (List Word))) → behind [] o ≡ o
behind_start None = refl
behind_start (Some t) = refl

behind_more : (ts : List (List Word)) (vs : List Word) (o : Option (List (List Word))) → behind (ts ++ vs ∷ []) o ≡ behind ts (with_first (Some vs) o)
behind_more ts vs None = refl
behind_more ts vs (Some t) = ap Some (append_assoc ts (vs ∷ []) t)

-- variables are being read: those that were, and those that are left
pub record TakingSlots (bits : List ℕ) (slots : List Slot) (end : ℕ) (left : List Slot) (lists : List Cells) : Type 0 where
  pub placed : ArePlaced end left
  pub room : end + slots_length left ≡ 8 + slots_length slots
  pub read : behind (map cells_of lists) (slots_in left (drop end bits)) ≡ slots_in slots (drop 8 bits)

pub slots_start : (bits : List ℕ) (slots : List Slot) (lists : List Cells) → ArePlaced 8 slots → lists ≡ [] → TakingSlots bits slots 8 slots lists
slots_start bits slots lists placed e =
    record { placed = placed; room = refl; read = ap (λ (ls : List Cells). behind (map cells_of ls) (slots_in slots (drop 8 bits))) e ∙ behind_start (slots_in slots (drop 8 bits)) }

pub record IsNextRead (bits : List ℕ) (slots : List Slot) (end : ℕ) (s : Slot) : Type 0 where
  pub placed : IsSlot s.at s
  pub within : s.at + slot_length s.width s.count ≤ 8 + slots_length slots
  pub begins : s.at ≡ end

pub slots_next : (bits : List ℕ) (slots : List Slot) (end : ℕ) (s : Slot) (left : List Slot) (lists : List Cells) → TakingSlots bits slots end (s ∷ left) lists → IsNextRead bits slots end s
slots_next bits slots end s left lists t =
    let here : IsSlot end s = t.placed.0 in
    let begins : s.at ≡ end = here.begins in
    let room : end + (slot_length s.width s.count + slots_length left) ≡ 8 + slots_length slots = t.room in
    record { placed = record { begins = refl; wide = here.wide; narrow = here.narrow; small = here.small }; within = omega arith; begins = begins }

-- a variable that holds no values
pub slots_none : (bits : List ℕ) (slots : List Slot) (end : ℕ) (s : Slot) (left : List Slot) (lists : List Cells) → TakingSlots bits slots end (s ∷ left) lists
    → None ≡ slot_in s (drop s.at bits) → None ≡ slots_in slots (drop 8 bits)
slots_none bits slots end s left lists t none =
    let here : IsSlot end s = t.placed.0 in
    ap (λ (o : Option (List Word)). behind (map cells_of lists) (with_first o (slots_in left (drop (slot_length s.width s.count) (drop end bits))))) (none ∙ ap (λ k. slot_in s (drop k bits)) here.begins)
    ∙ t.read

pub slots_more : (bits : List ℕ) (slots : List Slot) (end after : ℕ) (s : Slot) (left : List Slot) (lists new : List Cells) (vs : Cells) → TakingSlots bits slots end (s ∷ left) lists
    → Some vs.items ≡ slot_in s (drop s.at bits) → after ≡ end + slot_length s.width s.count → new ≡ lists ++ vs ∷ [] → TakingSlots bits slots after left new
slots_more bits slots end after s left lists new vs t some ends pushed =
    let here : IsSlot end s = t.placed.0 in
    let room : end + (slot_length s.width s.count + slots_length left) ≡ 8 + slots_length slots = t.room in
    let rest : Option (List (List Word)) = slots_in left (drop after bits) in
    let ts : List (List Word) = map cells_of lists in
    record {
      placed = let P : ℕ → Type 0 = λ k. ArePlaced k left in subst P (sym ends) t.placed.1;
      room = omega arith;
      read =
          ap (λ (ls : List Cells). behind (map cells_of ls) rest) pushed
          ∙ ap (λ (l : List (List Word)). behind l rest) (map-append cells_of lists (vs ∷ []))
          ∙ behind_more ts vs.items rest
          ∙ ap₂ (λ (o : Option (List Word)) (l : List ℕ). behind ts (with_first o (slots_in left l)))
          (some ∙ ap (λ k. slot_in s (drop k bits)) here.begins)
          (ap (λ k. drop k bits) ends ∙ sym (drop-drop (slot_length s.width s.count) end bits))
          ∙ t.read;
    }

end_in : (b : Bool) (ts : List (List Word)) → behind ts (cond b (Some []) None) ≡ cond b (Some ts) None
end_in true ts = ap Some (append-nil ts)
end_in false ts = refl

-- only zeros may stand behind the last variable
pub slots_end : (bits : List ℕ) (slots : List Slot) (end : ℕ) (left : List Slot) (lists : List Cells) (b : Bool) → TakingSlots bits slots end left lists → left ≡ []
    → b ≡ all_zero (drop end bits) → cond b (Some (map cells_of lists)) None ≡ slots_in slots (drop 8 bits)
slots_end bits slots end left lists b t none zeros =
    sym (end_in b (map cells_of lists))
    ∙ ap (λ c. behind (map cells_of lists) (cond c (Some []) None)) zeros
    ∙ ap (λ (ss : List Slot). behind (map cells_of lists) (slots_in ss (drop end bits))) (sym none)
    ∙ t.read
