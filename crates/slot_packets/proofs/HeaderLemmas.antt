-- Fields that are taken and given, slot by slot.
use Rattle.std.proofs.Common.{◌≡◌, ◌≢◌, ◌⊎◌, inl, inr, ⊎_elim, ℕ, suc, ◌<◌, ◌≤◌, ◌+◌, ◌^◌, length, length-set, length-take, take, drop, map, List, [], ◌∷◌, ◌++◌, Bool, true, false, if◌then◌else◌, Option, Some, None, refl, sym, ap, ap₂, ◌∙◌, subst, arith}
use Rattle.std.specs.Prelude.{slice_set}
use Rattle.std.specs.Option.{option_map}
use Rattle.std.proofs.lemmas.Bool.{cases_lt}
use Rattle.std.proofs.lemmas.List.{get_or-set_same, get_or-set_other}
use Rattle.bit_values.specs.Bits.{Word, word, IsWord, cast}
use Rattle.bit_values.specs.BitLists.{AreBits, number_bits, number_of}
use Rattle.bit_values.proofs.BitListsLemmas.{AreBits-take, AreBits-drop, number_of-lt}
use Rattle.bit_values.proofs.BitsLemmas.{cast_of_small}
use Rattle.lex_text.specs.Names.{same_path, parent}
use Rattle.p4_meaning.specs.Store.{Store, set_value, set_valid}
use Rattle.p4_meaning.specs.Parsing.{Field, Header, Reading, field_taken, fields_taken, fields_bits}
use Rattle.slot_terms.specs.Terms.{number_in, valid_at}
use Rattle.slot_terms.specs.Places.{Place, Places, place_at, header_number, ShowsPlace, Follows, IsLaid, header_at}
use Rattle.slot_terms.proofs.MaskedLemmas.{powers}
use Rattle.slot_terms.proofs.LaidLemmas.{some_is, path_decides}
use Rattle.slot_packets.specs.Fields.{take_fields, slot_bits}
use Rattle.slot_packets.specs.Headers.{width_in, FieldsAt, IsHeaderAt, ExtractionFollows, EmissionFollows}

abbrev pub at_field : List (List ℕ) → Field → List (List ℕ)
at_field p f = p ++ f.name ∷ []

abbrev pub row_of : ℕ → List (List ℕ) → Field → ℕ → Place
row_of n p f i = record { path = at_field p f; slot = i; width = f.width; header = Some n }

-- ---- emission

module _ (m : Places) (n : ℕ) (p : List (List ℕ)) (slots : List ℕ) (valid : List Bool) (s : Store) (follows : Follows m slots valid s)
    (parents : (q : List (List ℕ)) (r : Place) → place_at m.rows q ≡ Some r → r.header ≡ Some n → parent q ≡ p) (is : s.headers p ≡ Some true) where
  -- a field of the valid header
  field_shown : (f : Field) (i : ℕ) → place_at m.rows (at_field p f) ≡ Some (row_of n p f i) → number_bits f.width (number_in slots i) ≡ number_bits f.width (cast f.width (s.values (at_field p f)).value)
  field_shown f i there =
      let sees : ShowsPlace slots valid (row_of n p f i) s (at_field p f) = follows.shows.values (at_field p f) (row_of n p f i) there in
      let same : s.values (at_field p f) ≡ word f.width (number_in slots i) = sees.is in
      let word_is : IsWord (word f.width (number_in slots i)) = subst IsWord sees.is sees.word in
      ap (number_bits f.width) (sym (ap (λ (w : Word). cast f.width w.value) same ∙ cast_of_small f.width (number_in slots i) word_is.in_range))

  pub given_bits : (fs : List Field) (i : ℕ) → FieldsAt m n p fs i → slot_bits (map width_in fs) i slots ≡ fields_bits p fs s
  given_bits [] i at = refl
  given_bits (f ∷ fs) i at = ap₂ (λ a b. a ++ b) (field_shown f i at.0) (given_bits fs (i + 1) at.1)

pub emission_follows : EmissionFollows
emission_follows m n h first slots valid s is follows valid_is = given_bits m n h.path slots valid s follows is.parents valid_is h.fields first is.fields

-- ---- extraction

pub headers_kept : (p : List (List ℕ)) (fs : List Field) (s : Reading) → (fields_taken p fs s).store.headers ≡ s.store.headers
headers_kept p [] s = refl
headers_kept p (f ∷ fs) s = headers_kept p fs (field_taken p f s)

pub as_many : (ws : List ℕ) (i : ℕ) (bits slots : List ℕ) → length (take_fields ws i bits slots) ≡ length slots
as_many [] i bits slots = refl
as_many (w ∷ ws) i bits slots = as_many ws (i + 1) (drop w bits) (slice_set slots i (number_of (take w bits))) ∙ length-set slots i (number_of (take w bits))

-- what a path has behind a write to another one
other_value : (s : Store) (p q : List (List ℕ)) (w : Word) → (p ≡ q → ⊥) → (set_value s p w).values q ≡ s.values q
other_value s p q w apart = step (same_path p q) refl
  where
    step : (b : Bool) → same_path p q ≡ b → (if same_path p q then w else s.values q) ≡ s.values q
    step true e = absurd (apart ((path_decides p q).0 e))
    step false e = ap (λ b. if b then w else s.values q) e

same_value : (s : Store) (p q : List (List ℕ)) (w : Word) → p ≡ q → (set_value s p w).values q ≡ w
same_value s p q w e = ap (λ b. if b then w else s.values q) ((path_decides p q).1 e)

module _ (m : Places) (n : ℕ) (p : List (List ℕ)) (laid : IsLaid m) where
  -- a place outside of the fields' slots
  pub outside :
      (fs : List Field) (i : ℕ) (slots : List ℕ) (s : Reading) → FieldsAt m n p fs i → (q : List (List ℕ)) (r : Place) → place_at m.rows q ≡ Some r → (r.slot < i) ⊎ (i + length fs ≤ r.slot)
      → ((fields_taken p fs s).store.values q ≡ s.store.values q) × (number_in (take_fields (map width_in fs) i s.rest slots) r.slot ≡ number_in slots r.slot)
  outside [] i slots s at q r there out = (refl, refl)
  outside (f ∷ fs) i slots s at q r there out =
      let v : ℕ = number_of (take f.width s.rest) in
      let apart : r.slot ≢ i = λ e. ⊎_elim (λ (h : r.slot < i). omega (arith, h, e)) (λ (h : i + length (f ∷ fs) ≤ r.slot). omega (arith, h, e)) out in
      let other : (at_field p f ≡ q → ⊥) = λ e. apart (ap (λ (x : Place). x.slot) (some_is (sym there ∙ subst (λ z. place_at m.rows z ≡ Some (row_of n p f i)) e at.0))) in
      let next : (r.slot < i + 1) ⊎ (i + 1 + length fs ≤ r.slot) = ⊎_elim (λ (h : r.slot < i). inl (omega (arith, h))) (λ (h : i + length (f ∷ fs) ≤ r.slot). inr (omega (arith, h))) out in
      let rest = outside fs (i + 1) (slice_set slots i v) (field_taken p f s) at.1 q r there next in
      (rest.0 ∙ other_value s.store (at_field p f) q (word f.width v) other, rest.1 ∙ get_or-set_other slots i r.slot v 0 apart)

  -- a place among them
  pub inside :
      (fs : List Field) (i : ℕ) (slots : List ℕ) (s : Reading) → FieldsAt m n p fs i → AreBits s.rest → i + length fs ≤ length slots → (q : List (List ℕ)) (r : Place) → place_at m.rows q ≡ Some r → i ≤ r.slot → r.slot < i + length fs
      → ((fields_taken p fs s).store.values q ≡ word r.width (number_in (take_fields (map width_in fs) i s.rest slots) r.slot)) × (number_in (take_fields (map width_in fs) i s.rest slots) r.slot < 2 ^ r.width)
  inside [] i slots s at bits room q r there low high = absurd (omega (arith, low, high))
  inside (f ∷ fs) i slots s at bits room q r there low high =
      let v : ℕ = number_of (take f.width s.rest) in
      ⊎_elim
      (λ (h : i < r.slot). inside fs (i + 1) (slice_set slots i v) (field_taken p f s) at.1 (AreBits-drop f.width s.rest bits) (omega (arith, room, length-set slots i v)) q r there (omega (arith, h)) (omega (arith, high)))
      (λ (h : r.slot ≤ i).
      let same : r.slot ≡ i = omega (arith, h, low) in
      let path : at_field p f ≡ q = laid.single (at_field p f) q (row_of n p f i) r at.0 there (sym same) in
      let row : r ≡ row_of n p f i = some_is (sym there ∙ subst (λ z. place_at m.rows z ≡ Some (row_of n p f i)) path at.0) in
      let width : r.width ≡ f.width = ap (λ (x : Place). x.width) row in
      let rest = outside fs (i + 1) (slice_set slots i v) (field_taken p f s) at.1 q r there (inl (omega (arith, same))) in
      let lt : i < length slots = omega (arith, room) in
      let got : number_in (take_fields (map width_in (f ∷ fs)) i s.rest slots) r.slot ≡ v = rest.1 ∙ ap (number_in (slice_set slots i v)) same ∙ get_or-set_same slots i v 0 lt in
      let short : length (take f.width s.rest) ≤ f.width = omega (arith, length-take f.width s.rest) in
      let small : v < 2 ^ f.width = omega (arith, number_of-lt (take f.width s.rest) (AreBits-take f.width s.rest bits), powers (length (take f.width s.rest)) f.width short) in
      (rest.0 ∙ same_value s.store (at_field p f) q (word f.width v) path ∙ ap₂ word (sym width) (sym got), rw (got, width) small))
      (cases_lt i r.slot)

-- ---- numbers of headers

number_step : (b c : Bool) (k : ℕ) (o u : Option ℕ) (z x y : List (List ℕ)) → same_path z x ≡ b → same_path z y ≡ c → ((j : ℕ) → o ≡ Some j → u ≡ Some j → x ≡ y)
    → (if b then Some 0 else option_map suc o) ≡ Some k → (if c then Some 0 else option_map suc u) ≡ Some k → x ≡ y
number_step true true k o u z x y e g h a d = sym ((path_decides z x).0 e) ∙ (path_decides z y).0 g
number_step true false k o None z x y e g h a d = absurd (cc d)
number_step true false k o (Some j) z x y e g h a d = absurd (let i : Some (suc j) ≡ Some 0 = d ∙ sym a in omega (arith, some_is i))
number_step false true k None u z x y e g h a d = absurd (cc a)
number_step false true k (Some j) u z x y e g h a d = absurd (let i : Some (suc j) ≡ Some 0 = a ∙ sym d in omega (arith, some_is i))
number_step false false k None u z x y e g h a d = absurd (cc a)
number_step false false k (Some j) None z x y e g h a d = absurd (cc d)
number_step false false k (Some j) (Some i) z x y e g h a d =
    let same : i ≡ j = let t : suc i ≡ suc j = some_is (d ∙ sym a) in omega (arith, t) in
    h j refl (ap Some same)

pub number_single : (hs : List (List (List ℕ))) (x y : List (List ℕ)) (k : ℕ) → header_number hs x ≡ Some k → header_number hs y ≡ Some k → x ≡ y
number_single [] x y k a d = absurd (cc a)
number_single (z ∷ hs) x y k a d = number_step (same_path z x) (same_path z y) k (header_number hs x) (header_number hs y) z x y refl refl (λ j e g. number_single hs x y j e g) a d

header_still : (valid : List Bool) (n : ℕ) (o : Option ℕ) → (o ≡ Some n → ⊥) → header_at (slice_set valid n true) o ≡ header_at valid o
header_still valid n None apart = refl
header_still valid n (Some k) apart = ap Some (get_or-set_other valid n k true false (λ e. apart (ap Some e)))

valid_header : (s : Store) (p q : List (List ℕ)) → same_path p q ≡ true → (set_valid s p true).headers q ≡ Some true
valid_header s p q e = ap (λ b. if b then Some true else s.headers q) e

other_header : (s : Store) (p q : List (List ℕ)) → same_path p q ≡ false → (set_valid s p true).headers q ≡ s.headers q
other_header s p q e = ap (λ b. if b then Some true else s.headers q) e

-- ---- the extract

module _ (m : Places) (n : ℕ) (h : Header) (first : ℕ) (slots : List ℕ) (valid : List Bool) (r : Reading) (laid : IsLaid m) (is : IsHeaderAt m n h first) (lt : n < length valid) (named : h.path ≢ []) (bits : AreBits r.rest)
    (follows : Follows m slots valid r.store) where
  abbrev store : Store
  store = (fields_taken h.path h.fields r).store

  abbrev after : List ℕ
  after = take_fields (map width_in h.fields) first r.rest slots

  valid_now : valid_at (slice_set valid n true) n ≡ true
  valid_now = get_or-set_same valid n true false lt

  -- where a place stands
  is_own : (q : List (List ℕ)) (t : Place) → place_at m.rows q ≡ Some t → (t.header ≡ Some n) ⊎ (t.header ≢ Some n)
  is_own q t there = ⊎_elim
      (λ (l : t.slot < first). inr (λ e. let k : first ≤ t.slot = (is.inside q t there e).0 in omega (arith, l, k)))
      (λ (l : first ≤ t.slot). ⊎_elim
      (λ (k : t.slot < first + length h.fields). inl (is.own q t there l k))
      (λ (k : first + length h.fields ≤ t.slot). inr (λ e. let i : t.slot < first + length h.fields = (is.inside q t there e).1 in omega (arith, i, k)))
      (cases_lt t.slot (first + length h.fields)))
      (cases_lt t.slot first)

  above_own : (q : List (List ℕ)) (t : Place) → place_at m.rows q ≡ Some t → t.header ≡ Some n → (set_valid store h.path true).headers (parent q) ≡ Some true
  above_own q t there own = valid_header store h.path (parent q) ((path_decides h.path (parent q)).1 (sym (is.parents q t there own)))

  above_other : (q : List (List ℕ)) (t : Place) → place_at m.rows q ≡ Some t → t.header ≢ Some n → (set_valid store h.path true).headers (parent q) ≡ r.store.headers (parent q)
  above_other q t there other = other_header store h.path (parent q) (is.others q t there other) ∙ ap (λ f. f (parent q)) (headers_kept h.path h.fields r)

  own_sees : (q : List (List ℕ)) (t : Place) → place_at m.rows q ≡ Some t → t.header ≡ Some n → ShowsPlace after (slice_set valid n true) t (set_valid store h.path true) q
  own_sees q t there own =
      let place = is.inside q t there own in
      let got = inside m n h.path laid h.fields first slots r is.fields bits (omega (arith, is.room, follows.room)) q t there place.0 place.1 in
      let old : ShowsPlace slots valid t r.store q = follows.shows.values q t there in
      let old_is : IsWord (word t.width (number_in slots t.slot)) = subst IsWord old.is old.word in
      record {
        is = got.0;
        word = rw got.0 (record { wide = old_is.wide; narrow = old_is.narrow; in_range = got.1 });
        above = above_own q t there own ∙ sym (ap (header_at (slice_set valid n true)) own ∙ ap Some valid_now);
      }

  other_sees : (q : List (List ℕ)) (t : Place) → place_at m.rows q ≡ Some t → t.header ≢ Some n → ShowsPlace after (slice_set valid n true) t (set_valid store h.path true) q
  other_sees q t there other =
      let out : (t.slot < first) ⊎ (first + length h.fields ≤ t.slot) = ⊎_elim
      (λ (l : t.slot < first). inl l)
      (λ (l : first ≤ t.slot). ⊎_elim
      (λ (k : t.slot < first + length h.fields). absurd (other (is.own q t there l k)))
      (λ (k : first + length h.fields ≤ t.slot). inr k)
      (cases_lt t.slot (first + length h.fields)))
      (cases_lt t.slot first) in
      let kept = outside m n h.path laid h.fields first slots r is.fields q t there out in
      let old : ShowsPlace slots valid t r.store q = follows.shows.values q t there in
      record {
        is = kept.0 ∙ old.is ∙ ap (word t.width) (sym kept.1);
        word = rw kept.0 old.word;
        above = above_other q t there other ∙ old.above ∙ sym (header_still valid n t.header other);
      }

  heads : (x : List (List ℕ)) (k : ℕ) (b : Bool) → same_path h.path x ≡ b → header_number m.headers x ≡ Some k → (set_valid store h.path true).headers x ≡ Some (valid_at (slice_set valid n true) k)
  heads x k true e there =
      let path : h.path ≡ x = (path_decides h.path x).0 e in
      let same : k ≡ n = some_is (sym there ∙ subst (λ z. header_number m.headers z ≡ Some n) path is.number) in
      valid_header store h.path x e ∙ ap Some (sym (ap (valid_at (slice_set valid n true)) same ∙ valid_now))
  heads x k false e there =
      let apart : k ≢ n = λ s.
      let path : h.path ≡ x = number_single m.headers h.path x n is.number (there ∙ ap Some s) in
      let yes : same_path h.path x ≡ true = (path_decides h.path x).1 path in
      cc in
      other_header store h.path x e ∙ ap (λ f. f x) (headers_kept h.path h.fields r) ∙ follows.shows.headers x k there ∙ ap Some (sym (get_or-set_other valid n k true false apart))

  bare_still : (b : Bool) → same_path h.path [] ≡ b → (set_valid store h.path true).headers [] ≡ None
  bare_still true e = absurd (named ((path_decides h.path []).0 e))
  bare_still false e = other_header store h.path [] e ∙ ap (λ f. f []) (headers_kept h.path h.fields r) ∙ follows.bare

  pub extract_follows : Follows m after (slice_set valid n true) (set_valid store h.path true)
  extract_follows = record {
    shows = record {
      values = λ q t there. ⊎_elim (λ (o : t.header ≡ Some n). own_sees q t there o) (λ (o : t.header ≢ Some n). other_sees q t there o) (is_own q t there);
      headers = λ x k there. heads x k (same_path h.path x) refl there;
    };
    bare = bare_still (same_path h.path []) refl;
    room = as_many (map width_in h.fields) first r.rest slots ∙ follows.room;
  }

pub extraction_follows : ExtractionFollows
extraction_follows m n h first slots valid r laid is lt named bits follows = extract_follows m n h first slots valid r laid is lt named bits follows
