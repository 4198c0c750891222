-- Headers that are emitted one behind the other.
use Rattle.std.proofs.Common.{◌≡◌, ℕ, ◌+◌, ◌<◌, List, ◌∷◌, ◌++◌, length, drop, get_or, sym, ap, ◌∙◌, append_assoc}
use Rattle.std.proofs.lemmas.List.{drop_more}
use Rattle.std.specs.Prelude.{slice_get}
use Rattle.slot_terms.specs.States.{State}
use Rattle.slot_places.specs.HeaderSlots.{HeaderSlots}
use Rattle.slot_deparsers.specs.Emits.{valid_bits, emitted_bits, header_width, most_bits}

-- the numbers that are left
numbers_left : (numbers : List ℕ) (i n : ℕ) → i < length numbers → n ≡ get_or numbers i 0 → drop i numbers ≡ n ∷ drop (i + 1) numbers
numbers_left numbers i n lt is = drop_more numbers i 0 lt ∙ ap (λ x. x ∷ drop (i + 1) numbers) (sym is)

-- one header more
pub emitted_more :
    (heads : List HeaderSlots) (numbers : List ℕ) (s : State) (i n : ℕ) (before after all : List ℕ) → i < length numbers → n ≡ get_or numbers i 0 → after ≡ before ++ valid_bits (slice_get heads n) n s
    → before ++ emitted_bits heads (drop i numbers) s ≡ all → after ++ emitted_bits heads (drop (i + 1) numbers) s ≡ all
emitted_more heads numbers s i n before after all lt is more so_far =
    ap (λ l. l ++ emitted_bits heads (drop (i + 1) numbers) s) more
    ∙ append_assoc before (valid_bits (slice_get heads n) n s) (emitted_bits heads (drop (i + 1) numbers) s)
    ∙ ap (λ l. before ++ emitted_bits heads l s) (sym (numbers_left numbers i n lt is))
    ∙ so_far

pub room_more :
    (heads : List HeaderSlots) (numbers : List ℕ) (i n : ℕ) → i < length numbers → n ≡ get_or numbers i 0 → most_bits heads (drop i numbers) ≡ header_width (slice_get heads n) + most_bits heads (drop (i + 1) numbers)
room_more heads numbers i n lt is = ap (most_bits heads) (numbers_left numbers i n lt is)
