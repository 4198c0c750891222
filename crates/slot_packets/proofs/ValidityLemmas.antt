-- Headers that are made valid, or invalid.
use Rattle.std.proofs.Common.{◌≡◌, ◌≢◌, ◌⊎◌, inl, inr, ⊎_elim, ℕ, zero, suc, ◌<◌, ◌≤◌, ◌+◌, length, length-set, List, [], Bool, true, false, if◌then◌else◌, Option, Some, None, refl, sym, ap, ◌∙◌, subst, arith}
use Rattle.std.specs.Prelude.{slice_set}
use Rattle.std.proofs.lemmas.Bool.{cases_lt}
use Rattle.std.proofs.lemmas.Nat.{pow_pos}
use Rattle.std.proofs.lemmas.List.{get_or-set_same, get_or-set_other}
use Rattle.bit_values.specs.Bits.{word, IsWord}
use Rattle.lex_text.specs.Names.{same_path, parent}
use Rattle.p4_meaning.specs.Store.{Store, zero_of, zeroed, set_valid, made}
use Rattle.p4_meaning.specs.Parsing.{Header}
use Rattle.slot_terms.specs.States.{State}
use Rattle.slot_terms.specs.Terms.{number_in, valid_at}
use Rattle.slot_terms.specs.Places.{Place, Places, place_at, header_number, ShowsPlace, Follows, header_at}
use Rattle.slot_terms.proofs.LaidLemmas.{some_is, path_decides}
use Rattle.slot_packets.specs.Headers.{IsHeaderAt}
use Rattle.slot_packets.specs.Validity.{with_validity, zero_slots, ValidityFollows}
use Rattle.slot_packets.proofs.HeaderLemmas.{number_single}

-- ---- slots that are 0

pub zero_outside : (i k : ℕ) (slots : List ℕ) (j : ℕ) → (j < i) ⊎ (i + k ≤ j) → number_in (zero_slots i k slots) j ≡ number_in slots j
zero_outside i zero slots j out = refl
zero_outside i (suc k) slots j out =
    let apart : j ≢ i = λ e. ⊎_elim (λ (h : j < i). omega (arith, h, e)) (λ (h : i + suc k ≤ j). omega (arith, h, e)) out in
    let next : (j < i + 1) ⊎ (i + 1 + k ≤ j) = ⊎_elim (λ (h : j < i). inl (omega (arith, h))) (λ (h : i + suc k ≤ j). inr (omega (arith, h))) out in
    zero_outside (i + 1) k (slice_set slots i 0) j next ∙ get_or-set_other slots i j 0 0 apart

pub zero_inside : (i k : ℕ) (slots : List ℕ) (j : ℕ) → i + k ≤ length slots → i ≤ j → j < i + k → number_in (zero_slots i k slots) j ≡ 0
zero_inside i zero slots j room low high = absurd (omega (arith, low, high))
zero_inside i (suc k) slots j room low high = ⊎_elim
    (λ (h : i < j). zero_inside (i + 1) k (slice_set slots i 0) j (omega (arith, room, length-set slots i 0)) (omega (arith, h)) (omega (arith, high)))
    (λ (h : j ≤ i).
    let same : j ≡ i = omega (arith, h, low) in
    let lt : i < length slots = omega (arith, room) in
    zero_outside (i + 1) k (slice_set slots i 0) j (inl (omega (arith, same))) ∙ ap (number_in (slice_set slots i 0)) same ∙ get_or-set_same slots i 0 0 lt)
    (cases_lt i j)

pub zero_length : (i k : ℕ) (slots : List ℕ) → length (zero_slots i k slots) ≡ length slots
zero_length i zero slots = refl
zero_length i (suc k) slots = zero_length (i + 1) k (slice_set slots i 0) ∙ length-set slots i 0

-- ---- the header's bit

module _ (m : Places) (n : ℕ) (h : Header) (first : ℕ) (slots : List ℕ) (valid : List Bool) (s : Store) (is : IsHeaderAt m n h first) (lt : n < length valid) (named : h.path ≢ [])
    (follows : Follows m slots valid s) where
  bit_now : (b : Bool) → valid_at (slice_set valid n b) n ≡ b
  bit_now b = get_or-set_same valid n b false lt

  header_still : (b : Bool) (o : Option ℕ) → (o ≢ Some n) → header_at (slice_set valid n b) o ≡ header_at valid o
  header_still b None apart = refl
  header_still b (Some k) apart = ap Some (get_or-set_other valid n k b false (λ e. apart (ap Some e)))

  -- whose own a place is
  is_own : (q : List (List ℕ)) (t : Place) → place_at m.rows q ≡ Some t → (t.header ≡ Some n) ⊎ (t.header ≢ Some n)
  is_own q t there = ⊎_elim
      (λ (l : t.slot < first). inr (λ e. let k : first ≤ t.slot = (is.inside q t there e).0 in omega (arith, l, k)))
      (λ (l : first ≤ t.slot). ⊎_elim
      (λ (k : t.slot < first + length h.fields). inl (is.own q t there l k))
      (λ (k : first + length h.fields ≤ t.slot). inr (λ e. let i : t.slot < first + length h.fields = (is.inside q t there e).1 in omega (arith, i, k)))
      (cases_lt t.slot (first + length h.fields)))
      (cases_lt t.slot first)

  -- the headers of a store with the bit, where the others are those of s
  module _ (b : Bool) (u : Store) (same : u.headers ≡ s.headers) where
    bit_there : (q : List (List ℕ)) → same_path h.path q ≡ true → (set_valid u h.path b).headers q ≡ Some b
    bit_there q e = ap (λ c. if c then Some b else u.headers q) e

    bit_elsewhere : (q : List (List ℕ)) → same_path h.path q ≡ false → (set_valid u h.path b).headers q ≡ s.headers q
    bit_elsewhere q e = ap (λ c. if c then Some b else u.headers q) e ∙ ap (λ f. f q) same

    above_own : (q : List (List ℕ)) (t : Place) → place_at m.rows q ≡ Some t → t.header ≡ Some n → (set_valid u h.path b).headers (parent q) ≡ header_at (slice_set valid n b) t.header
    above_own q t there own =
        bit_there (parent q) ((path_decides h.path (parent q)).1 (sym (is.parents q t there own)))
        ∙ sym (ap (header_at (slice_set valid n b)) own ∙ ap Some (bit_now b))

    above_other : (q : List (List ℕ)) (t : Place) → place_at m.rows q ≡ Some t → t.header ≢ Some n → (set_valid u h.path b).headers (parent q) ≡ header_at (slice_set valid n b) t.header
    above_other q t there other =
        bit_elsewhere (parent q) (is.others q t there other) ∙ (follows.shows.values q t there).above ∙ sym (header_still b t.header other)

    heads : (x : List (List ℕ)) (k : ℕ) (c : Bool) → same_path h.path x ≡ c → header_number m.headers x ≡ Some k → (set_valid u h.path b).headers x ≡ Some (valid_at (slice_set valid n b) k)
    heads x k true e there =
        let path : h.path ≡ x = (path_decides h.path x).0 e in
        let own : k ≡ n = some_is (sym there ∙ subst (λ z. header_number m.headers z ≡ Some n) path is.number) in
        bit_there x e ∙ ap Some (sym (ap (valid_at (slice_set valid n b)) own ∙ bit_now b))
    heads x k false e there =
        let apart : k ≢ n = λ d.
        let path : h.path ≡ x = number_single m.headers h.path x n is.number (there ∙ ap Some d) in
        let yes : same_path h.path x ≡ true = (path_decides h.path x).1 path in
        cc in
        bit_elsewhere x e ∙ follows.shows.headers x k there ∙ ap Some (sym (get_or-set_other valid n k b false apart))

    bare_still : (c : Bool) → same_path h.path [] ≡ c → (set_valid u h.path b).headers [] ≡ None
    bare_still true e = absurd (named ((path_decides h.path []).0 e))
    bare_still false e = bit_elsewhere [] e ∙ follows.bare

  -- setInvalid
  pub invalid_follows : Follows m slots (slice_set valid n false) (set_valid s h.path false)
  invalid_follows = record {
    shows = record {
      values = λ q t there.
          let old : ShowsPlace slots valid t s q = follows.shows.values q t there in
          record { is = old.is; word = old.word; above = ⊎_elim (λ (o : t.header ≡ Some n). above_own false s refl q t there o) (λ (o : t.header ≢ Some n). above_other false s refl q t there o) (is_own q t there) };
      headers = λ x k there. heads false s refl x k (same_path h.path x) refl there;
    };
    bare = bare_still false s refl (same_path h.path []) refl;
    room = follows.room;
  }

  -- setValid
  zero_value : (q : List (List ℕ)) → same_path h.path (parent q) ≡ true → (zeroed s h.path).values q ≡ zero_of (s.values q)
  zero_value q e = ap (λ c. if c then zero_of (s.values q) else s.values q) e

  kept_value : (q : List (List ℕ)) → same_path h.path (parent q) ≡ false → (zeroed s h.path).values q ≡ s.values q
  kept_value q e = ap (λ c. if c then zero_of (s.values q) else s.values q) e

  abbrev zeros : List ℕ
  zeros = zero_slots first (length h.fields) slots

  own_sees : (q : List (List ℕ)) (t : Place) → place_at m.rows q ≡ Some t → t.header ≡ Some n → ShowsPlace zeros (slice_set valid n true) t (set_valid (zeroed s h.path) h.path true) q
  own_sees q t there own =
      let old : ShowsPlace slots valid t s q = follows.shows.values q t there in
      let place = is.inside q t there own in
      let under : same_path h.path (parent q) ≡ true = (path_decides h.path (parent q)).1 (sym (is.parents q t there own)) in
      let got : number_in zeros t.slot ≡ 0 = zero_inside first (length h.fields) slots t.slot (omega (arith, is.room, follows.room)) place.0 place.1 in
      let value : (zeroed s h.path).values q ≡ word t.width 0 = zero_value q under ∙ ap zero_of old.is in
      let old_is : IsWord (word t.width (number_in slots t.slot)) = subst IsWord old.is old.word in
      record {
        is = value ∙ ap (word t.width) (sym got);
        word = rw value (record { wide = old_is.wide; narrow = old_is.narrow; in_range = pow_pos t.width });
        above = above_own true (zeroed s h.path) refl q t there own;
      }

  other_sees : (q : List (List ℕ)) (t : Place) → place_at m.rows q ≡ Some t → t.header ≢ Some n → ShowsPlace zeros (slice_set valid n true) t (set_valid (zeroed s h.path) h.path true) q
  other_sees q t there other =
      let old : ShowsPlace slots valid t s q = follows.shows.values q t there in
      let out : (t.slot < first) ⊎ (first + length h.fields ≤ t.slot) = ⊎_elim
      (λ (l : t.slot < first). inl l)
      (λ (l : first ≤ t.slot). ⊎_elim
      (λ (k : t.slot < first + length h.fields). absurd (other (is.own q t there l k)))
      (λ (k : first + length h.fields ≤ t.slot). inr k)
      (cases_lt t.slot (first + length h.fields)))
      (cases_lt t.slot first) in
      let value : (zeroed s h.path).values q ≡ s.values q = kept_value q (is.others q t there other) in
      record {
        is = value ∙ old.is ∙ ap (word t.width) (sym (zero_outside first (length h.fields) slots t.slot out));
        word = rw value old.word;
        above = above_other true (zeroed s h.path) refl q t there other;
      }

  pub valid_follows : Follows m zeros (slice_set valid n true) (set_valid (zeroed s h.path) h.path true)
  valid_follows = record {
    shows = record {
      values = λ q t there. ⊎_elim (λ (o : t.header ≡ Some n). own_sees q t there o) (λ (o : t.header ≢ Some n). other_sees q t there o) (is_own q t there);
      headers = λ x k there. heads true (zeroed s h.path) refl x k (same_path h.path x) refl there;
    };
    bare = bare_still true (zeroed s h.path) refl (same_path h.path []) refl;
    room = zero_length first (length h.fields) slots ∙ follows.room;
  }

made_follows :
    (m : Places) (n : ℕ) (h : Header) (first : ℕ) (b c : Bool) (s : State) (store : Store) → IsHeaderAt m n h first → n < length s.valid → h.path ≢ [] → Follows m s.slots s.valid store
    → Follows m (with_validity c b n first (length h.fields) s).slots (with_validity c b n first (length h.fields) s).valid (made (Some c) b store h.path)
made_follows m n h first true true s store is lt named follows = follows
made_follows m n h first false true s store is lt named follows = invalid_follows m n h first s.slots s.valid store is lt named follows
made_follows m n h first true false s store is lt named follows = valid_follows m n h first s.slots s.valid store is lt named follows
made_follows m n h first false false s store is lt named follows = follows

pub validity_follows : ValidityFollows
validity_follows m n h first b s store laid is lt named follows =
    subst (λ o. Follows m (with_validity (valid_at s.valid n) b n first (length h.fields) s).slots (with_validity (valid_at s.valid n) b n first (length h.fields) s).valid (made o b store h.path)) (sym (follows.shows.headers h.path n is.number))
    (made_follows m n h first b (valid_at s.valid n) s store is lt named follows)
