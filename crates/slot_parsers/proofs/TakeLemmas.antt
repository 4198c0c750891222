-- The extract of a header over slots.
use Rattle.std.proofs.Common.{◌≡◌, ◌≢◌, ℕ, zero, suc, ◌+◌, ◌<◌, List, [], ◌∷◌, map, length, drop, Bool, true, false, if◌then◌else◌, Option, Some, None, refl, sym, ap, ap₂, ◌∙◌, subst, arith}
use Rattle.std.specs.Prelude.{slice_get, slice_set, nat_lt}
use Rattle.std.specs.Option.{option_map}
use Rattle.std.proofs.lemmas.List.{drop-drop, length-set}
use Rattle.bit_values.specs.BitLists.{AreBits}
use Rattle.bit_values.proofs.BitListsLemmas.{AreBits-drop}
use Rattle.lex_text.specs.Names.{same_path}
use Rattle.p4_meaning.specs.Parsing.{Field, Header, Reading, Parsed, goes_on, stops, PacketTooShort, width_sum, field_taken, fields_taken, with_valid, extracted, extracted_at}
use Rattle.slot_terms.specs.Places.{Places, header_number, Follows, IsLaid}
use Rattle.slot_terms.proofs.LaidLemmas.{some_is}
use Rattle.slot_packets.specs.Fields.{take_fields, widths_sum}
use Rattle.slot_packets.specs.Headers.{width_in, IsHeaderAt}
use Rattle.slot_packets.proofs.HeaderLemmas.{extraction_follows}
use Rattle.slot_places.specs.ProgramRows.{path_in}
use Rattle.slot_places.specs.ProgramPlaces.{AreHeadersAt}
use Rattle.slot_places.specs.HeaderSlots.{HeaderSlots, slots_of_headers}
use Rattle.slot_parsers.specs.ParserCodes.{SlotReading, on, halt, taken, taken_at}
use Rattle.slot_parsers.specs.Parses.{Reads, StepsAlike}

-- ---- the header of a number

-- the header at a path has the number, and is laid out; its `extract` is the one at the path
pub record IsExtract (m : Places) (hs : List Header) (heads : List HeaderSlots) (path : List (List ℕ)) (n k : ℕ) : Type 0 where
  pub header : Header
  pub first : ℕ
  pub at : IsHeaderAt m n header first
  pub named : header.path ≢ []
  pub slots : slice_get heads k ≡ Some (record { first = first; widths = map width_in header.fields })
  pub extract : (s : Reading) → extracted_at hs path s ≡ extracted header s

found_step :
    (m : Places) (h : Header) (hs : List Header) (n i : ℕ) (path : List (List ℕ)) (k : ℕ) (b : Bool) (o : Option ℕ) → same_path h.path path ≡ b → AreHeadersAt m (h ∷ hs) n i → header_number (map path_in hs) path ≡ o
    → ((j : ℕ) → o ≡ Some j → IsExtract m hs (slots_of_headers hs (i + length h.fields)) path (n + 1 + j) j) → (if b then Some 0 else option_map suc o) ≡ Some k → IsExtract m (h ∷ hs) (slots_of_headers (h ∷ hs) i) path (n + k) k
found_step m h hs n i path zero true o e at number more is = record {
  header = h;
  first = i;
  at = let same : n ≡ n + 0 = omega arith in subst (λ j. IsHeaderAt m j h i) same at.0.0;
  named = at.0.1;
  slots = refl;
  extract = λ s. ap (λ b. if b then extracted h s else extracted_at hs path s) e;
}
found_step m h hs n i path (suc k) true o e at number more is = absurd (let no : 0 ≡ suc k = some_is is in omega (arith, no))
found_step m h hs n i path k false None e at number more is = absurd (cc is)
found_step m h hs n i path zero false (Some j) e at number more is = absurd (let no : suc j ≡ 0 = some_is is in omega (arith, no))
found_step m h hs n i path (suc k) false (Some j) e at number more is =
    let same : j ≡ k = let s : suc j ≡ suc k = some_is is in omega (arith, s) in
    let found = more j refl in
    let place : n + 1 + j ≡ n + suc k = omega (arith, same) in
    record {
      header = found.header;
      first = found.first;
      at = subst (λ x. IsHeaderAt m x found.header found.first) place found.at;
      named = found.named;
      slots = ap (λ x. slice_get (slots_of_headers hs (i + length h.fields)) x) (sym same) ∙ found.slots;
      extract = λ s. ap (λ b. if b then extracted h s else extracted_at hs path s) e ∙ found.extract s;
    }

pub header_found : (m : Places) (hs : List Header) (n i : ℕ) (path : List (List ℕ)) (k : ℕ) → AreHeadersAt m hs n i → header_number (map path_in hs) path ≡ Some k → IsExtract m hs (slots_of_headers hs i) path (n + k) k
header_found m [] n i path k at is = absurd (cc is)
header_found m (h ∷ hs) n i path k at is =
    found_step m h hs n i path k (same_path h.path path) (header_number (map path_in hs) path) refl at refl (λ j e. header_found m hs (n + 1) (i + length h.fields) path j at.1 e) is

-- no header is extracted that has no number
missing_step : (b : Bool) (o : Option ℕ) (x y : Parsed) → (o ≡ None → x ≡ y) → (if b then Some 0 else option_map suc o) ≡ None → (z : Parsed) → (if b then z else x) ≡ y
missing_step true o x y more e z = absurd (cc e)
missing_step false None x y more e z = more refl
missing_step false (Some n) x y more e z = absurd (cc e)

pub header_missing : (hs : List Header) (path : List (List ℕ)) (s : Reading) → header_number (map path_in hs) path ≡ None → extracted_at hs path s ≡ goes_on s
header_missing [] path s e = refl
header_missing (h ∷ hs) path s e = missing_step (same_path h.path path) (header_number (map path_in hs) path) (extracted_at hs path s) (goes_on s) (λ k. header_missing hs path s k) e (extracted h s)

-- ---- lengths

pub sum-widths : (fs : List Field) → widths_sum (map width_in fs) ≡ width_sum fs
sum-widths [] = refl
sum-widths (f ∷ fs) = ap (λ k. f.width + k) (sum-widths fs)

pub rest_taken : (p : List (List ℕ)) (fs : List Field) (s : Reading) → (fields_taken p fs s).rest ≡ drop (width_sum fs) s.rest
rest_taken p [] s = refl
rest_taken p (f ∷ fs) s = rest_taken p fs (field_taken p f s) ∙ drop-drop (width_sum fs) f.width s.rest

below_step : (b : Bool) (o : Option ℕ) (n k : ℕ) → ((j : ℕ) → o ≡ Some j → j < k) → (if b then Some 0 else option_map suc o) ≡ Some n → n < suc k
below_step true o n k more e = let same : 0 ≡ n = some_is e in omega (arith, same)
below_step false None n k more e = absurd (cc e)
below_step false (Some j) n k more e = let same : suc j ≡ n = some_is e in omega (arith, same, more j refl)

pub number_below : (hs : List (List (List ℕ))) (x : List (List ℕ)) (n : ℕ) → header_number hs x ≡ Some n → n < length hs
number_below [] x n e = absurd (cc e)
number_below (h ∷ hs) x n e = below_step (same_path h x) (header_number hs x) n (length hs) (λ j k. number_below hs x j k) e

-- ---- the extract

module _ (m : Places) (n : ℕ) (h : Header) (first : ℕ) (laid : IsLaid m) (at : IsHeaderAt m n h first) (named : h.path ≢ []) (r : SlotReading) (s : Reading) (reads : Reads m r s) where
  abbrev heads : HeaderSlots
  heads = record { first = first; widths = map width_in h.fields }

  abbrev after : SlotReading
  after = record {
    state = record { slots = take_fields heads.widths first r.rest r.state.slots; valid = slice_set r.state.valid n true };
    rest = drop (widths_sum heads.widths) r.rest;
  }

  abbrev behind : Reading
  behind = with_valid h.path (fields_taken h.path h.fields s)

  reads_on : Reads m after behind
  reads_on =
      let lt : n < length r.state.valid = omega (arith, number_below m.headers h.path n at.number, reads.valid) in
      let follows : Follows m (take_fields heads.widths first s.rest r.state.slots) (slice_set r.state.valid n true) behind.store = extraction_follows m n h first r.state.slots r.state.valid s laid at lt named reads.bits reads.follows in
      let rest : behind.rest ≡ drop (width_sum h.fields) s.rest = rest_taken h.path h.fields s in
      record {
        follows = subst (λ l. Follows m (take_fields heads.widths first l r.state.slots) (slice_set r.state.valid n true) behind.store) (sym reads.rest) follows;
        rest = ap (λ k. drop k r.rest) (sum-widths h.fields) ∙ ap (λ l. drop (width_sum h.fields) l) reads.rest ∙ sym rest;
        bits = subst AreBits (sym rest) (AreBits-drop (width_sum h.fields) s.rest reads.bits);
        valid = length-set r.state.valid n true ∙ reads.valid;
      }

  take_step : (b c : Bool) → b ≡ c → StepsAlike m (if b then halt r PacketTooShort else on after) (if c then stops s PacketTooShort else goes_on behind)
  take_step true true e = (reads, refl)
  take_step true false e = absurd (cc e)
  take_step false true e = absurd (cc e)
  take_step false false e = reads_on

  pub take_does : StepsAlike m (taken heads n r) (extracted h s)
  take_does = take_step (nat_lt (length r.rest) (widths_sum heads.widths)) (nat_lt (length s.rest) (width_sum h.fields)) (ap₂ (λ a b. nat_lt a b) (ap length reads.rest) (sum-widths h.fields))

-- the extract of the header at a path that has a number
pub takes_does :
    (m : Places) (hs : List Header) (i : ℕ) (path : List (List ℕ)) (n : ℕ) (r : SlotReading) (s : Reading) → IsLaid m → AreHeadersAt m hs 0 i → m.headers ≡ map path_in hs → header_number m.headers path ≡ Some n → Reads m r s
    → StepsAlike m (taken_at (slice_get (slots_of_headers hs i) n) n r) (extracted_at hs path s)
takes_does m hs i path n r s laid at heads is reads =
    let found = header_found m hs 0 i path n at (ap (λ l. header_number l path) (sym heads) ∙ is) in
    let same : 0 + n ≡ n = omega arith in
    let here : IsHeaderAt m n found.header found.first = subst (λ k. IsHeaderAt m k found.header found.first) same found.at in
    subst (λ y. StepsAlike m (taken_at (slice_get (slots_of_headers hs i) n) n r) y) (sym (found.extract s))
    (subst (λ o. StepsAlike m (taken_at o n r) (extracted found.header s)) (sym found.slots)
    (take_does m n found.header found.first laid here found.named r s reads))
