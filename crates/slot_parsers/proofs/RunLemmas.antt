-- The turns of a parser, one by one.
use Rattle.std.proofs.Common.{◌≡◌, ℕ, suc, ◌+◌, ◌-◌, ◌*◌, ◌<◌, ◌≤◌, List, [], ◌∷◌, ◌++◌, map, length, take, drop, replicate, length-drop, Bool, true, false, if◌then◌else◌, Option, sym, ap, ap₂, ◌∙◌, arith}
use Rattle.std.specs.Prelude.{slice_set, nat_lt}
use Rattle.std.proofs.lemmas.List.{length-map, drop-drop, take_all, take_more_set, take-replicate, replicate_more}
use Rattle.bit_values.specs.Bytes.{bits_of}
use Rattle.bit_values.proofs.BytesLemmas.{length-bits_of}
use Rattle.p4_meaning.specs.Parsing.{PacketTooShort}
use Rattle.slot_terms.specs.States.{State}
use Rattle.slot_packets.specs.Fields.{take_fields, widths_sum}
use Rattle.slot_places.specs.HeaderSlots.{HeaderSlots}
use Rattle.slot_parsers.specs.ParserCodes.{StateCode, SlotReading, Stepped, on, halt, taken, SlotEnd, SlotTurn, ends, leads, on_turn, turns}
use Rattle.slot_parsers.specs.Code.{IsSlotTurn, state_in, reading_at}
use Rattle.slot_parsers.specs.declared.codes.StateCode as code_state

-- one state more
pub one_more : (hs : List HeaderSlots) (cs : List StateCode) (k m : ℕ) (ps left : List Bool) (x y : Option ℕ) (r q : SlotReading) (t : SlotTurn) → k ≡ suc m → IsSlotTurn hs cs ps x r t left → t ≡ leads y q → turns hs cs m left y q ≡ turns hs cs k ps x r
one_more hs cs k m ps left x y r q t e turn led =
    sym (turn m ∙ ap (λ t. on_turn t (turns hs cs m left)) led) ∙ ap (λ j. turns hs cs j ps x r) (sym e)

-- the last state
pub ends_now : (hs : List HeaderSlots) (cs : List StateCode) (k m : ℕ) (ps left : List Bool) (x : Option ℕ) (r : SlotReading) (t : SlotTurn) (f : SlotEnd) → k ≡ suc m → IsSlotTurn hs cs ps x r t left → t ≡ ends f → f ≡ turns hs cs k ps x r
ends_now hs cs k m ps left x r t f e turn end =
    sym (turn m ∙ ap (λ t. on_turn t (turns hs cs m left)) end) ∙ ap (λ j. turns hs cs j ps x r) (sym e)

-- no flag is set at first
pub run_starts :
    (hs : List HeaderSlots) (cs : List code_state.StateCode) (x : Option ℕ) (ps : List Bool) (n : ℕ) (r : SlotReading) → ps ≡ replicate n false → n ≡ length (map state_in cs)
    → turns hs (map state_in cs) (length cs + 1) ps x r ≡ turns hs (map state_in cs) (suc (length (map state_in cs))) (replicate (length (map state_in cs)) false) x r
run_starts hs cs x ps n r e many =
    let count : length cs + 1 ≡ suc (length (map state_in cs)) = omega (arith, length-map cs state_in) in
    ap (λ k. turns hs (map state_in cs) k ps x r) count
    ∙ ap (λ l. turns hs (map state_in cs) (suc (length (map state_in cs))) l x r) (e ∙ ap (λ k. replicate k false) many)

-- ---- flags that are cleared

pub cleared_more : (ps : List Bool) (i : ℕ) → i < length ps → take i ps ≡ replicate i false → take (i + 1) (slice_set ps i false) ≡ replicate (i + 1) false
cleared_more ps i lt e = take_more_set ps i false lt ∙ ap (λ l. l ++ false ∷ []) e ∙ replicate_more i false

pub all_cleared : (ps : List Bool) (i n : ℕ) → n ≤ i → length ps ≡ n → take i ps ≡ replicate i false → ps ≡ replicate n false
all_cleared ps i n le long e =
    let whole : take i ps ≡ ps = take_all i ps (omega (arith, le, long)) in
    sym (take_all n ps (omega (arith, long))) ∙ sym (ap (take n) whole) ∙ ap (take n) e ∙ take-replicate n i false le

-- ---- the extract

-- how many bits are left
rest_left : (frame : List ℕ) (at : ℕ) → length (drop at (bits_of frame)) ≡ 8 * length frame - at
rest_left frame at = length-drop at (bits_of frame) ∙ ap (λ k. k - at) (length-bits_of frame)

abbrev taken_if : Bool → HeaderSlots → ℕ → SlotReading → Stepped
taken_if b h n r =
    if b
    then halt r PacketTooShort
    else on (record { state = record { slots = take_fields h.widths h.first r.rest r.state.slots; valid = slice_set r.state.valid n true }; rest = drop (widths_sum h.widths) r.rest })

taken_is : (h : HeaderSlots) (n : ℕ) (s : State) (frame : List ℕ) (at : ℕ) (b c : Bool) → b ≡ nat_lt (8 * length frame - at) (widths_sum h.widths) → b ≡ c → taken_if c h n (reading_at s frame at) ≡ taken h n (reading_at s frame at)
taken_is h n s frame at b c is e = ap (λ d. taken_if d h n (reading_at s frame at)) (sym e ∙ is ∙ ap (λ k. nat_lt k (widths_sum h.widths)) (sym (rest_left frame at)))

pub taken_short : (h : HeaderSlots) (n : ℕ) (s : State) (frame : List ℕ) (at : ℕ) (b : Bool) → b ≡ nat_lt (8 * length frame - at) (widths_sum h.widths) → b ≡ true → halt (reading_at s frame at) PacketTooShort ≡ taken h n (reading_at s frame at)
taken_short h n s frame at b is e = taken_is h n s frame at b true is e

pub taken_long :
    (h : HeaderSlots) (n : ℕ) (s t : State) (frame : List ℕ) (at end : ℕ) (b : Bool) → b ≡ nat_lt (8 * length frame - at) (widths_sum h.widths) → b ≡ false
    → t.slots ≡ take_fields h.widths h.first (drop at (bits_of frame)) s.slots → t.valid ≡ slice_set s.valid n true → end ≡ at + widths_sum h.widths → on (reading_at t frame end) ≡ taken h n (reading_at s frame at)
taken_long h n s t frame at end b is e slots valid place =
    let state : t ≡ record { slots = take_fields h.widths h.first (drop at (bits_of frame)) s.slots; valid = slice_set s.valid n true } = ap₂ (λ (a : List ℕ) (v : List Bool). let u : State = record { slots = a; valid = v } in u) slots valid in
    let rest : drop end (bits_of frame) ≡ drop (widths_sum h.widths) (drop at (bits_of frame)) = ap (λ k. drop k (bits_of frame)) place ∙ sym (drop-drop (widths_sum h.widths) at (bits_of frame)) in
    ap₂ (λ (u : State) (l : List ℕ). let r : SlotReading = record { state = u; rest = l } in on r) state rest ∙ taken_is h n s frame at b false is e
