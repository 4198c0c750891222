-- The parser's error, packets that are dropped, and what waits for egress.
use Rattle.std.proofs.Common.{◌≡◌, ◌≢◌, ℕ, ◌<◌, ◌^◌, List, length, length-set, Bool, true, false, if◌then◌else◌, Option, Some, None, refl, sym, ap, ◌∙◌, subst, arith}
use Rattle.std.specs.Prelude.{slice_set, nat_eq}
use Rattle.std.specs.Option.{option_map}
use Rattle.std.proofs.lemmas.List.{get_or-set_same, get_or-set_other}
use Rattle.bit_values.specs.Bits.{Word, word, IsWord, cast}
use Rattle.bit_values.proofs.BitsLemmas.{cast_of_small}
use Rattle.lex_text.specs.Names.{same_path}
use Rattle.p4_meaning.specs.Standard.{egress_spec, egress_port, parser_error}
use Rattle.p4_meaning.specs.Store.{Store, set_value}
use Rattle.p4_meaning.specs.Parsing.{ParserError, NoError, PacketTooShort, NoMatch}
use Rattle.p4_meaning.specs.Parts.{Parts}
use Rattle.p4_meaning.specs.Pass.{error_number, declared}
use Rattle.slot_terms.specs.Terms.{number_in, valid_at}
use Rattle.slot_terms.specs.Places.{Place, Places, place_at, header_at, ShowsPlace, Follows, IsLaid}
use Rattle.slot_terms.proofs.LaidLemmas.{path_decides}
use Rattle.slot_statements.proofs.StoreLemmas.{set_follows}
use Rattle.slot_packets.specs.Queued.{word_in, store_in}
use Rattle.slot_packets.proofs.QueuedLemmas.{declared_is}
use Rattle.slot_places.specs.ProgramRows.{plain_row}
use Rattle.slot_places.specs.ProgramPlaces.{ArePlaced}
use Rattle.slot_metadata.specs.Metadata.{egress_slots}
use Rattle.slot_metadata.specs.Laws.{ErrorsFollow, DropsAgree, TurnsWait, PortsAgree}
use Rattle.slot_metadata.proofs.AboveLemmas.{are_program, above_is, bare_is, at_egress_spec, at_egress_port, at_parser_error}

error_small : (e : ParserError) → error_number e < 2 ^ 2
error_small NoError = omega arith
error_small PacketTooShort = omega arith
error_small NoMatch = omega arith

pub errors_follow : ErrorsFollow
errors_follow p room m s e are follows =
    let word_is : IsWord (word 2 (error_number e.error)) = record { wide = omega arith; narrow = omega arith; in_range = error_small e.error } in
    set_follows m s.slots s.valid e.reading.store parser_error (plain_row parser_error 5 2) (error_number e.error) (are_program p room m are).laid follows (at_parser_error p room m are) word_is

pub drops_agree : DropsAgree
drops_agree p room m s t are follows = ap (λ (w : Word). nat_eq w.value 511) (follows.shows.values egress_spec (plain_row egress_spec 1 9) (at_egress_spec p room m are)).is

pub ports_agree : PortsAgree
ports_agree p room m s t are follows = ap (λ (w : Word). cast 9 w.value) (follows.shows.values egress_port (plain_row egress_port 2 9) (at_egress_port p room m are)).is

-- ---- slots as a store

map_is : (valid : List Bool) (o : Option ℕ) → option_map (valid_at valid) o ≡ header_at valid o
map_is valid None = refl
map_is valid (Some n) = refl

module _ (p : Parts) (room : ℕ) (m : Places) (are : ArePlaced p room m) where
  -- what slots follow, they follow as a store of their own
  pub stored : (slots : List ℕ) (valid : List Bool) (t : Store) → Follows m slots valid t → Follows m slots valid (store_in m slots valid)
  stored slots valid t follows = record {
    shows = record {
      values = λ q r e.
          let old : ShowsPlace slots valid r t q = follows.shows.values q r e in
          let value : word_in slots (place_at m.rows q) ≡ word r.width (number_in slots r.slot) = ap (word_in slots) e in
          record { is = value; word = rw value (subst IsWord old.is old.word); above = ap (option_map (valid_at valid)) (above_is p room m are q r e) ∙ map_is valid r.header };
      headers = λ h n e. ap (option_map (valid_at valid)) e;
    };
    bare = ap (option_map (valid_at valid)) (bare_is p room m are);
    room = follows.room;
  }

  -- a path with a place gets a word: so does its slot
  module _ (slots : List ℕ) (valid : List Bool) (path : List (List ℕ)) (t : Place) (v : ℕ) (there : place_at m.rows path ≡ Some t) (lt : t.slot < length slots) where
    other_word : (q : List (List ℕ)) (o : Option Place) → place_at m.rows q ≡ o → same_path path q ≡ false → word_in slots o ≡ word_in (slice_set slots t.slot v) o
    other_word q None e k = refl
    other_word q (Some r) e k =
        let apart : r.slot ≢ t.slot = λ same. let yes : same_path path q ≡ true = (path_decides path q).1 ((are_program p room m are).laid.single path q t r there e (sym same)) in cc (sym k ∙ yes) in
        ap (word r.width) (sym (get_or-set_other slots t.slot r.slot v 0 apart))

    value_set : (q : List (List ℕ)) (b : Bool) → same_path path q ≡ b → (if b then word t.width v else word_in slots (place_at m.rows q)) ≡ word_in (slice_set slots t.slot v) (place_at m.rows q)
    value_set q true k =
        let here : place_at m.rows q ≡ Some t = ap (place_at m.rows) (sym ((path_decides path q).0 k)) ∙ there in
        ap (word t.width) (sym (get_or-set_same slots t.slot v 0 lt)) ∙ sym (ap (word_in (slice_set slots t.slot v)) here)
    value_set q false k = other_word q (place_at m.rows q) refl k

    values_set : (set_value (store_in m slots valid) path (word t.width v)).values ≡ (store_in m (slice_set slots t.slot v) valid).values
    values_set i q = value_set q (same_path path q) refl i

    pub store_set : set_value (store_in m slots valid) path (word t.width v) ≡ store_in m (slice_set slots t.slot v) valid
    store_set = ap (λ (f : List (List ℕ) → Word). (let u : Store = record { values = f; headers = (store_in m slots valid).headers } in u)) values_set

-- ---- what waits for egress

pub turns_wait : TurnsWait
turns_wait p room m s t are follows =
    let laid : IsLaid m = (are_program p room m are).laid in
    let v : ℕ = number_in s.slots 1 in
    let spec = plain_row egress_spec 1 9 in
    let port = plain_row egress_port 2 9 in
    let at_spec = at_egress_spec p room m are in
    let at_port = at_egress_port p room m are in
    let shown : ShowsPlace s.slots s.valid spec t egress_spec = follows.shows.values egress_spec spec at_spec in
    let word_is : IsWord (word 9 v) = subst IsWord shown.is shown.word in
    let number : cast 9 (t.values egress_spec).value ≡ v = ap (λ (w : Word). cast 9 w.value) shown.is ∙ cast_of_small 9 v word_is.in_range in
    let zero_is : IsWord (word 9 0) = record { wide = omega arith; narrow = omega arith; in_range = omega arith } in
    let first : List ℕ = slice_set s.slots 2 v in
    let bare : declared p t ≡ store_in m s.slots s.valid = declared_is p m s.slots s.valid t (are_program p room m are).declared follows in
    let enough : 2 < length s.slots = omega (arith, laid.below egress_port port at_port, laid.within, follows.room) in
    let long : length first ≡ length s.slots = length-set s.slots 2 v in
    let one : set_value (store_in m s.slots s.valid) egress_port (word 9 v) ≡ store_in m first s.valid = store_set p room m are s.slots s.valid egress_port port v at_port enough in
    let two : set_value (store_in m first s.valid) egress_spec (word 9 0) ≡ store_in m (egress_slots s.slots) s.valid = store_set p room m are first s.valid egress_spec spec 0 at_spec (omega (arith, long, enough)) in
    let base : Follows m s.slots s.valid (store_in m s.slots s.valid) = stored p room m are s.slots s.valid t follows in
    let with_port : Follows m first s.valid (set_value (store_in m s.slots s.valid) egress_port (word 9 v)) = set_follows m s.slots s.valid (store_in m s.slots s.valid) egress_port port v laid base at_port word_is in
    let all : Follows m (egress_slots s.slots) s.valid (set_value (store_in m first s.valid) egress_spec (word 9 0)) =
    set_follows m first s.valid (store_in m first s.valid) egress_spec spec 0 laid (subst (Follows m first s.valid) one with_port) at_spec zero_is in
    record {
      is = ap (λ (u : Store). set_value (set_value u egress_port (word 9 (cast 9 (t.values egress_spec).value))) egress_spec (word 9 0)) bare
          ∙ ap (λ n. set_value (set_value (store_in m s.slots s.valid) egress_port (word 9 n)) egress_spec (word 9 0)) number
          ∙ ap (λ (u : Store). set_value u egress_spec (word 9 0)) one
          ∙ two;
      stored = subst (Follows m (egress_slots s.slots) s.valid) two all;
    }
