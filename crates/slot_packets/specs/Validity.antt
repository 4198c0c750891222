-- Headers that are made valid, or invalid. Read `Headers` before it, and `Store` of the trees' meaning.
use Rattle.std.specs.Prelude.{◌≢◌, ℕ, zero, suc, ◌+◌, ◌<◌, List, [], length, Bool, true, false, slice_set}
use Rattle.p4_meaning.specs.Store.{Store, made}
use Rattle.p4_meaning.specs.Parsing.{Header}
use Rattle.slot_terms.specs.States.{State}
use Rattle.slot_terms.specs.Terms.{valid_at}
use Rattle.slot_terms.specs.Places.{Places, Follows, IsLaid}
use Rattle.slot_packets.specs.Headers.{IsHeaderAt}

-- so many slots from one on are 0
abbrev pub zero_slots : (first count : ℕ) → List ℕ → List ℕ
zero_slots i zero slots = slots
zero_slots i (suc k) slots = zero_slots (i + 1) k (slice_set slots i 0)

-- a header, which is valid or not so far, is made valid, or invalid: setValid makes the fields of an invalid header 0
abbrev pub with_validity : (is valid : Bool) (number first count : ℕ) → State → State
with_validity true true n i k s = s
with_validity true false n i k s = record s { valid = slice_set s.valid n false }
with_validity false true n i k s = record { slots = zero_slots i k s.slots; valid = slice_set s.valid n true }
with_validity false false n i k s = s

-- where a header is laid out, slots that follow a store follow it behind setValid and setInvalid
abbrev pub ValidityFollows : Type 0
ValidityFollows =
    (m : Places) (n : ℕ) (h : Header) (first : ℕ) (b : Bool) (s : State) (store : Store) → IsLaid m → IsHeaderAt m n h first → n < length s.valid → h.path ≢ [] → Follows m s.slots s.valid store
    → Follows m (with_validity (valid_at s.valid n) b n first (length h.fields) s).slots (with_validity (valid_at s.valid n) b n first (length h.fields) s).valid (made (store.headers h.path) b store h.path)
