-- Bits that are written one behind the other: what is written grows by what was left.
use Rattle.std.proofs.Common.{◌≡◌, ℕ, zero, suc, ◌+◌, ◌-◌, ◌*◌, ◌<◌, ◌≤◌, List, [], ◌∷◌, ◌++◌, length, take, drop, get_or, replicate, cond, Bool, true, false, ◌⊎◌, inl, inr, refl, sym, ap, ap₂, ◌∙◌, arith, subst, append_assoc, append-nil, drop-cons}
use Rattle.std.specs.Prelude.{MatchBool, nat_eq}
use Rattle.std.specs.List.{All}
use Rattle.std.proofs.lemmas.Bool.{le-leb}
use Rattle.std.proofs.lemmas.Bool.Decides.{Decides-eqb}
use Rattle.std.proofs.lemmas.List.{replicate_more}
use Rattle.std.proofs.lemmas.List.Elements.{All-rest}
use Rattle.bit_values.specs.Bits.{Word}
use Rattle.bit_values.specs.Widths.{sound_width}
use Rattle.bit_values.specs.BitLists.{number_bits}
use Rattle.bit_values.proofs.BitListsLemmas.{number_bits-zero}
use Rattle.indus_tree.specs.Shapes.{HasWidth}
use Rattle.tele_layout.specs.Telemetry.{numbers_bits, slot_bits}
use Rattle.tele_layout.specs.Layouts.{slot_length, slots_length, slots_bits, IsUsed, FitsSlot, FitSlots, IsSlot, ArePlaced}
use Rattle.tele_layout.specs.declared.slots.Slot.{Slot}

-- a width that is one stays
pub sound_is : (w : ℕ) → 1 ≤ w → w ≤ 128 → sound_width w ≡ w
sound_is zero wide narrow = absurd (omega arith)
sound_is (suc w) wide narrow = ap (λ b. cond b (suc w) 128) (le-leb (suc w) 128 narrow)

-- what is left of a list begins with the item at this place
pub left_is : {X : Type 0} → (xs : List X) (i : ℕ) (v : X) → i < length xs → v ≡ get_or xs i v → drop i xs ≡ v ∷ drop (i + 1) xs
left_is xs i v lt is =
    let one : suc i ≡ i + 1 = omega arith in
    drop-cons xs i v lt ∙ ap₂ (λ y n. y ∷ drop n xs) (sym is) one

-- numbers are being written up to `last`: those that are left
pub record Putting (w last : ℕ) (whole : List ℕ) (end : ℕ) (bits : List ℕ) (left : List Word) : Type 0 where
  pub room : end + length left * w ≡ last
  pub grown : take end bits ++ numbers_bits w left ≡ whole
  pub words : All (HasWidth w) left

-- the first of some words of a width
pub first_word : (w : ℕ) (v : Word) (vs : List Word) → 1 ≤ w → w ≤ 128 → All (HasWidth w) (v ∷ vs) → v.width ≡ w
first_word w v vs wide narrow h = let lt : 0 < suc (length vs) = omega arith in (h 0 v lt).width ∙ sound_is w wide narrow

-- the number that is next
pub record IsNext (w last : ℕ) (end : ℕ) (v : Word) : Type 0 where
  pub width : v.width ≡ w
  pub within : end + w ≤ last

pub next_number : (w last : ℕ) (whole : List ℕ) (end : ℕ) (bits : List ℕ) (v : Word) (left : List Word) → 1 ≤ w → w ≤ 128
    → Putting w last whole end bits (v ∷ left) → IsNext w last end v
next_number w last whole end bits v left wide narrow p =
    let room : end + suc (length left) * w ≡ last = p.room in
    record { width = first_word w v left wide narrow p.words; within = omega arith }

pub put_number : (w last : ℕ) (whole : List ℕ) (end : ℕ) (bits new : List ℕ) (v : Word) (left : List Word) → 1 ≤ w → w ≤ 128
    → Putting w last whole end bits (v ∷ left) → take (end + v.width) new ≡ take end bits ++ number_bits v.width v.value → Putting w last whole (end + w) new left
put_number w last whole end bits new v left wide narrow p put =
    let n = next_number w last whole end bits v left wide narrow p in
    let room : end + suc (length left) * w ≡ last = p.room in
    let wrote : take (end + w) new ≡ take end bits ++ number_bits w v.value = ap (λ k. take (end + k) new) (sym n.width) ∙ put ∙ ap (λ k. take end bits ++ number_bits k v.value) n.width in
    record {
      room = omega arith;
      grown = ap (λ l. l ++ numbers_bits w left) wrote ∙ append_assoc (take end bits) (number_bits w v.value) (numbers_bits w left) ∙ p.grown;
      words = All-rest (HasWidth w) v left (v ∷ left) refl p.words;
    }

-- one more bit that is 0
pub put_zero : (at i : ℕ) (old bits new : List ℕ) → take (at + i) bits ≡ take at old ++ replicate i 0
    → take (at + i + 1) new ≡ take (at + i) bits ++ number_bits 1 0 → take (at + (i + 1)) new ≡ take at old ++ replicate (i + 1) 0
put_zero at i old bits new so_far put =
    let n : at + (i + 1) ≡ at + i + 1 = omega arith in
    ap (λ k. take k new) n ∙ put ∙ ap₂ (λ (a b : List ℕ). a ++ b) so_far (number_bits-zero 1)
    ∙ append_assoc (take at old) (replicate i 0) (replicate 1 0) ∙ ap (λ l. take at old ++ l) (replicate_more i 0)

-- ---- slots

equal_at : (a b : ℕ) (t : Bool) → nat_eq a b ≡ t → (a ≡ b → ⊥) → t ≡ false
equal_at a b true e h = absurd (h ((Decides-eqb a b).0 e))
equal_at a b false e h = refl

pub is_zero : (n : ℕ) → n ≡ 0 → nat_eq n 0 ≡ true
is_zero n e = (Decides-eqb n 0).1 e

pub is_more : (n : ℕ) → (n ≡ 0 → ⊥) → nat_eq n 0 ≡ false
is_more n h = equal_at n 0 (nat_eq n 0) refl h

-- what a list takes, and how many items it can hold
pub list_length : (w count : ℕ) → (count ≡ 0 → ⊥) → slot_length w count ≡ 8 + count * w
list_length w count h = ap (λ b. cond b w (8 + count * w)) (is_more count h)

pub list_used : (count used : ℕ) → (count ≡ 0 → ⊥) → IsUsed count used → used ≤ count
list_used count used h u = let P : Bool → Type 0 = λ b. MatchBool b (used ≡ 1) (used ≤ count) in subst P (is_more count h) u

pub scalar_used : (count used : ℕ) → count ≡ 0 → IsUsed count used → used ≡ 1
scalar_used count used h u = let P : Bool → Type 0 = λ b. MatchBool b (used ≡ 1) (used ≤ count) in subst P (is_zero count h) u

-- used and unused items are all items
pub all_items : (w count used : ℕ) → used ≤ count → used * w + (count - used) * w ≡ count * w
all_items w count used le =
    let sum : used + (count - used) ≡ count = omega arith in
    grind (arith, sum)

-- where a list ends
pub list_end : (w count used at : ℕ) → (count ≡ 0 → ⊥) → IsUsed count used → at + 8 + used * w + (count - used) * w ≡ at + slot_length w count
list_end w count used at h u =
    let all = all_items w count used (list_used count used h u) in
    let long = list_length w count h in
    omega (arith, all, long)

-- variables are being written up to `last`: those that are left
pub record PuttingSlots (last : ℕ) (whole : List ℕ) (end : ℕ) (bits : List ℕ) (slots : List Slot) (lists : List (List Word)) : Type 0 where
  pub placed : ArePlaced end slots
  pub room : end + slots_length slots ≡ last
  pub grown : take end bits ++ slots_bits slots lists ≡ whole
  pub fit : FitSlots slots lists

-- the variable that is next
pub record IsNextSlot (last : ℕ) (s : Slot) (vs : List Word) : Type 0 where
  pub placed : IsSlot s.at s
  pub within : s.at + slot_length s.width s.count ≤ last
  pub fits : FitsSlot s vs

pub next_slot : (last : ℕ) (whole : List ℕ) (end : ℕ) (bits : List ℕ) (s : Slot) (slots : List Slot) (vs : List Word) (lists : List (List Word))
    → PuttingSlots last whole end bits (s ∷ slots) (vs ∷ lists) → IsNextSlot last s vs
next_slot last whole end bits s slots vs lists p =
    let here : IsSlot end s = p.placed.0 in
    let room : end + (slot_length s.width s.count + slots_length slots) ≡ last = p.room in
    let begins : s.at ≡ end = here.begins in
    record {
      placed = record { begins = refl; wide = here.wide; narrow = here.narrow; small = here.small };
      within = omega arith;
      fits = p.fit.0;
    }

pub put_next : (last : ℕ) (whole : List ℕ) (end after : ℕ) (bits new : List ℕ) (s : Slot) (slots : List Slot) (vs : List Word) (lists : List (List Word))
    → PuttingSlots last whole end bits (s ∷ slots) (vs ∷ lists) → after ≡ s.at + slot_length s.width s.count
    → take after new ≡ take s.at bits ++ slot_bits s.width s.count vs → PuttingSlots last whole after new slots lists
put_next last whole end after bits new s slots vs lists p ends put =
    let here : IsSlot end s = p.placed.0 in
    let begins : s.at ≡ end = here.begins in
    let room : end + (slot_length s.width s.count + slots_length slots) ≡ last = p.room in
    let place : end + slot_length s.width s.count ≡ after = omega arith in
    record {
      placed = let P : ℕ → Type 0 = λ n. ArePlaced n slots in subst P place p.placed.1;
      room = omega arith;
      grown =
          ap (λ l. l ++ slots_bits slots lists) (put ∙ ap (λ n. take n bits ++ slot_bits s.width s.count vs) begins)
          ∙ append_assoc (take end bits) (slot_bits s.width s.count vs) (slots_bits slots lists) ∙ p.grown;
      fit = p.fit.1;
    }

-- where one of both lists is at its end the other is
pub no_more : (last : ℕ) (whole : List ℕ) (end : ℕ) (bits : List ℕ) (slots : List Slot) (lists : List (List Word))
    → PuttingSlots last whole end bits slots lists → (slots ≡ []) ⊎ (lists ≡ []) → (end ≡ last) × (take end bits ≡ whole)
no_more last whole end bits [] [] p h = (let room : end + 0 ≡ last = p.room in omega arith, sym (append-nil (take end bits)) ∙ p.grown)
no_more last whole end bits [] (vs ∷ lists) p h = absurd p.fit
no_more last whole end bits (s ∷ slots) [] p h = absurd p.fit
no_more last whole end bits (s ∷ slots) (vs ∷ lists) p (inl e) = absurd (let c : s ∷ slots ≡ [] = e in cc)
no_more last whole end bits (s ∷ slots) (vs ∷ lists) p (inr e) = absurd (let c : vs ∷ lists ≡ [] = e in cc)

-- before the first variable
pub begin : (bits : List ℕ) (slots left : List Slot) (lists : List (List Word)) → ArePlaced 8 slots → FitSlots slots lists → left ≡ slots
    → PuttingSlots (8 + slots_length slots) (take 8 bits ++ slots_bits slots lists) 8 bits left lists
begin bits slots left lists placed fit e =
    let P : List Slot → Type 0 = λ ss. PuttingSlots (8 + slots_length slots) (take 8 bits ++ slots_bits slots lists) 8 bits ss lists in
    subst P (sym e) (record { placed = placed; room = refl; grown = refl; fit = fit })
