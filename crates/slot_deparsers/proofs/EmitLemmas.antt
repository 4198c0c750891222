-- The bits of slots are those that a program's deparser emits.
use Rattle.std.proofs.Common.{◌≡◌, ℕ, zero, suc, ◌+◌, List, [], ◌∷◌, ◌++◌, map, length, Bool, true, false, if◌then◌else◌, Option, Some, None, refl, sym, ap, ap₂, ◌∙◌, subst, arith}
use Rattle.std.specs.Prelude.{slice_get}
use Rattle.std.specs.Option.{option_map}
use Rattle.lex_text.specs.Names.{same_path}
use Rattle.p4_meaning.specs.Store.{Store}
use Rattle.p4_meaning.specs.Parsing.{Header, fields_bits, if_valid, header_bits, deparse_of}
use Rattle.slot_terms.specs.Terms.{valid_at}
use Rattle.slot_terms.specs.States.{State}
use Rattle.slot_terms.specs.Places.{Places, header_number, Follows}
use Rattle.slot_terms.proofs.LaidLemmas.{some_is}
use Rattle.slot_packets.specs.Fields.{slot_bits}
use Rattle.slot_packets.specs.Headers.{width_in, IsHeaderAt}
use Rattle.slot_packets.proofs.HeaderLemmas.{emission_follows}
use Rattle.slot_places.specs.ProgramRows.{path_in, first_header}
use Rattle.slot_places.specs.ProgramPlaces.{AreHeadersAt}
use Rattle.slot_places.specs.HeaderSlots.{HeaderSlots, slots_of_headers}
use Rattle.slot_deparsers.specs.Emits.{valid_bits, emitted_bits, with_number, numbers_of}
use Rattle.slot_deparsers.specs.Emission.{DeparsersEmit}

-- ---- the header of a number

-- what is emitted at a path is a header that is laid out under a number, and the slots of that stand at a place of the list
record IsEmitted (m : Places) (hs : List Header) (heads : List HeaderSlots) (path : List (List ℕ)) (n k : ℕ) : Type 0 where
  header : Header
  first : ℕ
  at : IsHeaderAt m n header first
  slots : slice_get heads k ≡ Some (record { first = first; widths = map width_in header.fields })
  emit : (t : Store) → header_bits hs path t ≡ if_valid (t.headers header.path) (fields_bits header.path header.fields t)

found_step :
    (m : Places) (h : Header) (hs : List Header) (n i : ℕ) (path : List (List ℕ)) (k : ℕ) (b : Bool) (o : Option ℕ) → same_path h.path path ≡ b → AreHeadersAt m (h ∷ hs) n i
    → ((j : ℕ) → o ≡ Some j → IsEmitted m hs (slots_of_headers hs (i + length h.fields)) path (n + 1 + j) j) → (if b then Some 0 else option_map suc o) ≡ Some k → IsEmitted m (h ∷ hs) (slots_of_headers (h ∷ hs) i) path (n + k) k
found_step m h hs n i path zero true o e at more is = record {
  header = h;
  first = i;
  at = let same : n ≡ n + 0 = omega arith in subst (λ j. IsHeaderAt m j h i) same at.0.0;
  slots = refl;
  emit = λ t. ap (λ b. if b then if_valid (t.headers h.path) (fields_bits h.path h.fields t) else header_bits hs path t) e;
}
found_step m h hs n i path (suc k) true o e at more is = absurd (let no : 0 ≡ suc k = some_is is in omega (arith, no))
found_step m h hs n i path k false None e at more is = absurd (cc is)
found_step m h hs n i path zero false (Some j) e at more is = absurd (let no : suc j ≡ 0 = some_is is in omega (arith, no))
found_step m h hs n i path (suc k) false (Some j) e at more is =
    let same : j ≡ k = let s : suc j ≡ suc k = some_is is in omega (arith, s) in
    let found = more j refl in
    let place : n + 1 + j ≡ n + suc k = omega (arith, same) in
    record {
      header = found.header;
      first = found.first;
      at = subst (λ x. IsHeaderAt m x found.header found.first) place found.at;
      slots = ap (λ x. slice_get (slots_of_headers hs (i + length h.fields)) x) (sym same) ∙ found.slots;
      emit = λ t. ap (λ b. if b then if_valid (t.headers h.path) (fields_bits h.path h.fields t) else header_bits hs path t) e ∙ found.emit t;
    }

header_found : (m : Places) (hs : List Header) (n i : ℕ) (path : List (List ℕ)) (k : ℕ) → AreHeadersAt m hs n i → header_number (map path_in hs) path ≡ Some k → IsEmitted m hs (slots_of_headers hs i) path (n + k) k
header_found m [] n i path k at is = absurd (cc is)
header_found m (h ∷ hs) n i path k at is =
    found_step m h hs n i path k (same_path h.path path) (header_number (map path_in hs) path) refl at (λ j e. header_found m hs (n + 1) (i + length h.fields) path j at.1 e) is

-- nothing is emitted where no header is
missing_step : (b : Bool) (o : Option ℕ) (x y : List ℕ) → (o ≡ None → x ≡ []) → (if b then Some 0 else option_map suc o) ≡ None → (if b then y else x) ≡ []
missing_step true o x y more e = absurd (cc e)
missing_step false None x y more e = more refl
missing_step false (Some n) x y more e = absurd (cc e)

header_missing : (hs : List Header) (path : List (List ℕ)) (t : Store) → header_number (map path_in hs) path ≡ None → header_bits hs path t ≡ []
header_missing [] path t e = refl
header_missing (h ∷ hs) path t e = missing_step (same_path h.path path) (header_number (map path_in hs) path) (header_bits hs path t) (if_valid (t.headers h.path) (fields_bits h.path h.fields t)) (λ k. header_missing hs path t k) e

-- ---- all headers

module _ (m : Places) (s : State) (t : Store) (follows : Follows m s.slots s.valid t) where
  -- a header's bits
  own_bits :
      (n : ℕ) (h : Header) (first : ℕ) (b : Bool) → valid_at s.valid n ≡ b → IsHeaderAt m n h first
      → (if b then slot_bits (map width_in h.fields) first s.slots else []) ≡ if_valid (Some b) (fields_bits h.path h.fields t)
  own_bits n h first true e at = emission_follows m n h first s.slots s.valid t at follows (follows.shows.headers h.path n at.number ∙ ap Some e)
  own_bits n h first false e at = refl

  header_emits : (hs : List Header) (i n : ℕ) (path : List (List ℕ)) → AreHeadersAt m hs 0 i → header_number (map path_in hs) path ≡ Some n → valid_bits (slice_get (slots_of_headers hs i) n) n s ≡ header_bits hs path t
  header_emits hs i n path at is =
      let found = header_found m hs 0 i path n at is in
      let same : 0 + n ≡ n = omega arith in
      let here : IsHeaderAt m n found.header found.first = subst (λ k. IsHeaderAt m k found.header found.first) same found.at in
      ap (λ o. valid_bits o n s) found.slots
      ∙ own_bits n found.header found.first (valid_at s.valid n) refl here
      ∙ ap (λ o. if_valid o (fields_bits found.header.path found.header.fields t)) (sym (follows.shows.headers found.header.path n here.number))
      ∙ sym (found.emit t)

  module _ (hs : List Header) (i : ℕ) (at : AreHeadersAt m hs 0 i) (paths : m.headers ≡ map path_in hs) where
    abbrev heads : List HeaderSlots
    heads = slots_of_headers hs i

    number_is : (path : List (List ℕ)) (o : Option ℕ) → header_number m.headers path ≡ o → header_number (map path_in hs) path ≡ o
    number_is path o e = ap (λ l. header_number l path) (sym paths) ∙ e

    path_emits : (path : List (List ℕ)) (o : Option ℕ) (ns bits : List ℕ) → header_number m.headers path ≡ o → emitted_bits heads ns s ≡ bits → emitted_bits heads (with_number o ns) s ≡ header_bits hs path t ++ bits
    path_emits path None ns bits e more = more ∙ ap (λ l. l ++ bits) (sym (header_missing hs path t (number_is path None e)))
    path_emits path (Some n) ns bits e more = ap₂ (λ a b. a ++ b) (header_emits hs i n path at (number_is path (Some n) e)) more

    pub all_emit : (emits : List (List (List ℕ))) → emitted_bits heads (numbers_of m.headers emits) s ≡ deparse_of hs emits t
    all_emit [] = refl
    all_emit (p ∷ ps) = path_emits p (header_number m.headers p) (numbers_of m.headers ps) (deparse_of hs ps t) refl (all_emit ps)

pub deparsers_emit : DeparsersEmit
deparsers_emit p m s t are follows = all_emit m s t follows p.headers (first_header p) are.headers are.paths p.emits
