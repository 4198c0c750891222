-- The store before the parser, write by write: the word of each path with a place is that of its slot, for more and more
-- slots.
use Rattle.std.proofs.Common.{◌≡◌, ◌≢◌, ◌⊎◌, inl, inr, ⊎_elim, ℕ, zero, suc, ◌+◌, ◌<◌, ◌≤◌, List, [], ◌∷◌, ◌++◌, map, length, length-set, replicate, Bool, true, false, ◌||◌, if◌then◌else◌, Option, Some, None, refl, sym, ap, ap₂, ◌∙◌, subst, arith}
use Rattle.std.specs.Prelude.{slice_set, is_some}
use Rattle.std.proofs.lemmas.Bool.{cases_lt}
use Rattle.std.proofs.lemmas.Nat.{pow_pos}
use Rattle.std.proofs.lemmas.List.{get_or-set_same, get_or-set_other, length-replicate}
use Rattle.bit_values.specs.Bits.{Word, word, IsWord, cast}
use Rattle.bit_values.specs.Widths.{sound_width}
use Rattle.bit_values.proofs.BitsLemmas.{cast-lt}
use Rattle.lex_text.specs.Names.{same_path, parent}
use Rattle.p4_meaning.specs.Standard.{metadata_root, ingress_port, egress_spec, egress_port, packet_length, checksum_error, parser_error}
use Rattle.p4_meaning.specs.Store.{Store, blank, set_value, set_valid}
use Rattle.p4_meaning.specs.Parsing.{Field, Header}
use Rattle.p4_meaning.specs.Parts.{Parts}
use Rattle.p4_meaning.specs.Pass.{zero_fields, no_headers, store_before, is_declared_header}
use Rattle.p4_parts.specs.Slots.{header_slots, slots_in}
use Rattle.slot_terms.specs.Terms.{number_in, valid_at}
use Rattle.slot_terms.specs.Places.{Place, Places, place_at, header_number, header_at, Follows, IsLaid}
use Rattle.slot_terms.proofs.LaidLemmas.{path_decides, some_is}
use Rattle.slot_statements.proofs.StoreLemmas.{sound_is}
use Rattle.slot_packets.specs.Fields.{AreWidths}
use Rattle.slot_packets.specs.Headers.{width_in}
use Rattle.slot_places.specs.ProgramRows.{row_of, plain_row, standard_rows, field_rows, header_rows, first_metadata, first_header}
use Rattle.slot_places.specs.ProgramPlaces.{HeaderWidths, ArePlaced}
use Rattle.slot_places.proofs.RowsLemmas.{Each, each_front, each_behind}
use Rattle.slot_metadata.specs.Metadata.{start_slots}
use Rattle.slot_metadata.specs.Laws.{StartsFollow}
use Rattle.slot_metadata.proofs.AboveLemmas.{Found, are_program, above_is, bare_is, all_found}

-- ---- words

-- the word of a path is that of the slot of its place
record ShowsWord (slots : List ℕ) (r : Place) (s : Store) (q : List (List ℕ)) : Type 0 where
  is : s.values q ≡ word r.width (number_in slots r.slot)
  word : IsWord (s.values q)

abbrev Among : Places → (slots : List ℕ) → (ℕ → Type 0) → Store → Type 0
Among m slots P s = (q : List (List ℕ)) (r : Place) → place_at m.rows q ≡ Some r → P r.slot → ShowsWord slots r s q

zero_word : (w : ℕ) → 1 ≤ w → w ≤ 128 → IsWord (word w 0)
zero_word w wide narrow = record { wide = wide; narrow = narrow; in_range = pow_pos w }

module _ (m : Places) (slots : List ℕ) (laid : IsLaid m) where
  -- a path with a place gets the word of its slot
  write_among :
      (P : ℕ → Type 0) (s : Store) (path : List (List ℕ)) (t : Place) (w : Word) → place_at m.rows path ≡ Some t → w ≡ word t.width (number_in slots t.slot) → IsWord w → Among m slots P s
      → Among m slots (λ k. P k ⊎ (k ≡ t.slot)) (set_value s path w)
  write_among P s path t w there is word_is among q r e one = step (same_path path q) refl
    where
      step : (b : Bool) → same_path path q ≡ b → ShowsWord slots r (set_value s path w) q
      step true k =
          let here : path ≡ q = (path_decides path q).0 k in
          let same : t ≡ r = some_is (sym there ∙ ap (place_at m.rows) here ∙ e) in
          let value : (set_value s path w).values q ≡ w = ap (λ b. if b then w else s.values q) k in
          record { is = value ∙ is ∙ ap (λ (x : Place). word x.width (number_in slots x.slot)) same; word = rw value word_is }
      step false k =
          let value : (set_value s path w).values q ≡ s.values q = ap (λ b. if b then w else s.values q) k in
          ⊎_elim
          (λ (h : P r.slot). let old : ShowsWord slots r s q = among q r e h in record { is = value ∙ old.is; word = rw value old.word })
          (λ (h : r.slot ≡ t.slot).
          let yes : same_path path q ≡ true = (path_decides path q).1 (laid.single path q t r there e (sym h)) in
          absurd (cc (sym k ∙ yes)))
          one

  -- fields below a path
  fields_among :
      (P : ℕ → Type 0) (a : List (List ℕ)) (h : Option ℕ) (fs : List Field) (i : ℕ) (s : Store) → Each (Found m.rows) (field_rows a h fs i) → AreWidths (map width_in fs) → ((k : ℕ) → i ≤ k → number_in slots k ≡ 0) → Among m slots P s
      → Among m slots (λ k. P k ⊎ ((i ≤ k) × (k < i + length fs))) (zero_fields a fs s)
  fields_among P a h [] i s found widths zeros among q r e one = ⊎_elim (λ (x : P r.slot). among q r e x) (λ (x : (i ≤ r.slot) × (r.slot < i + 0)). absurd (omega (arith, x.0, x.1))) one
  fields_among P a h (f ∷ fs) i s found widths zeros among q r e one =
      let w : ℕ = sound_width f.width in
      let sound : w ≡ f.width = sound_is f.width widths.0.0 widths.0.1 in
      let path : List (List ℕ) = a ++ f.name ∷ [] in
      let is : word w 0 ≡ word f.width (number_in slots i) = ap₂ word sound (sym (zeros i (omega arith))) in
      let word_is : IsWord (word w 0) = subst (λ v. IsWord (word v 0)) (sym sound) (zero_word f.width widths.0.0 widths.0.1) in
      let first : Among m slots (λ k. P k ⊎ (k ≡ i)) (set_value s path (word w 0)) = write_among P s path (row_of path i f.width h) (word w 0) found.0 is word_is among in
      let place : (P r.slot ⊎ (r.slot ≡ i)) ⊎ ((i + 1 ≤ r.slot) × (r.slot < i + 1 + length fs)) =
      ⊎_elim
      (λ (x : P r.slot). inl (inl x))
      (λ (x : (i ≤ r.slot) × (r.slot < i + length (f ∷ fs))). ⊎_elim (λ (l : i < r.slot). inr (omega (arith, l), omega (arith, x.1))) (λ (l : r.slot ≤ i). inl (inr (omega (arith, l, x.0)))) (cases_lt i r.slot))
      one in
      fields_among (λ k. P k ⊎ (k ≡ i)) a h fs (i + 1) (set_value s path (word w 0)) found.1 widths.1 (λ k le. zeros k (omega (arith, le))) first q r e place

  -- headers that are invalid
  headers_among :
      (P : ℕ → Type 0) (hs : List Header) (n i : ℕ) (s : Store) → Each (Found m.rows) (header_rows hs n i) → HeaderWidths hs → ((k : ℕ) → i ≤ k → number_in slots k ≡ 0) → Among m slots P s
      → Among m slots (λ k. P k ⊎ ((i ≤ k) × (k < i + header_slots hs))) (no_headers hs s)
  headers_among P [] n i s found widths zeros among q r e one = ⊎_elim (λ (x : P r.slot). among q r e x) (λ (x : (i ≤ r.slot) × (r.slot < i + 0)). absurd (omega (arith, x.0, x.1))) one
  headers_among P (h ∷ hs) n i s found widths zeros among q r e one =
      let own = field_rows h.path (Some n) h.fields i in
      let later = header_rows hs (n + 1) (i + length h.fields) in
      let bare : Store = set_valid s h.path false in
      let same : Among m slots P bare = λ q r e x. (let old : ShowsWord slots r s q = among q r e x in record { is = old.is; word = old.word }) in
      let first : Among m slots (λ k. P k ⊎ ((i ≤ k) × (k < i + length h.fields))) (zero_fields h.path h.fields bare) =
      fields_among P h.path (Some n) h.fields i bare (each_front (Found m.rows) own later found) widths.0 zeros same in
      let place : (P r.slot ⊎ ((i ≤ r.slot) × (r.slot < i + length h.fields))) ⊎ ((i + length h.fields ≤ r.slot) × (r.slot < i + length h.fields + header_slots hs)) =
      ⊎_elim
      (λ (x : P r.slot). inl (inl x))
      (λ (x : (i ≤ r.slot) × (r.slot < i + header_slots (h ∷ hs))).
      ⊎_elim (λ (l : r.slot < i + length h.fields). inl (inr (x.0, l))) (λ (l : i + length h.fields ≤ r.slot). inr (l, omega (arith, x.1))) (cases_lt r.slot (i + length h.fields)))
      one in
      headers_among (λ k. P k ⊎ ((i ≤ k) × (k < i + length h.fields))) hs (n + 1) (i + length h.fields) (zero_fields h.path h.fields bare) (each_behind (Found m.rows) own later found) widths.1 (λ k le. zeros k (omega (arith, le)))
      first q r e place

-- ---- headers

fields_keep : (a : List (List ℕ)) (fs : List Field) (s : Store) → (zero_fields a fs s).headers ≡ s.headers
fields_keep a [] s = refl
fields_keep a (f ∷ fs) s = fields_keep a fs (set_value s (a ++ f.name ∷ []) (word (sound_width f.width) 0))

either_false : (b c : Bool) (o : Option Bool) → (if c then Some false else (if b then Some false else o)) ≡ (if b || c then Some false else o)
either_false true true o = refl
either_false true false o = refl
either_false false true o = refl
either_false false false o = refl

invalid_headers : (hs : List Header) (s : Store) (x : List (List ℕ)) → (no_headers hs s).headers x ≡ (if is_declared_header hs x then Some false else s.headers x)
invalid_headers [] s x = refl
invalid_headers (h ∷ hs) s x =
    invalid_headers hs (zero_fields h.path h.fields (set_valid s h.path false)) x
    ∙ ap (λ (f : List (List ℕ) → Option Bool). if is_declared_header hs x then Some false else f x) (fields_keep h.path h.fields (set_valid s h.path false))
    ∙ either_false (same_path h.path x) (is_declared_header hs x) (s.headers x)

all_false : (k n : ℕ) → valid_at (replicate k false) n ≡ false
all_false zero n = refl
all_false (suc k) zero = refl
all_false (suc k) (suc n) = all_false k n

false_at : (k : ℕ) (o : Option ℕ) → (if is_some o then Some false else None) ≡ header_at (replicate k false) o
false_at k None = refl
false_at k (Some n) = ap Some (sym (all_false k n))

-- ---- slots

all_zero : (n k : ℕ) → number_in (replicate n 0) k ≡ 0
all_zero zero k = refl
all_zero (suc n) zero = refl
all_zero (suc n) (suc k) = all_zero n k

module _ (port len n : ℕ) (room : 6 ≤ n) where
  abbrev first_slots : List ℕ
  first_slots = slice_set (replicate n 0) 0 (cast 9 port)

  pub slot_zero : (k : ℕ) → k ≢ 0 → k ≢ 3 → number_in (start_slots port len n) k ≡ 0
  slot_zero k a b = get_or-set_other first_slots 3 k (cast 32 len) 0 b ∙ get_or-set_other (replicate n 0) 0 k (cast 9 port) 0 a ∙ all_zero n k

  pub slot_port : number_in (start_slots port len n) 0 ≡ cast 9 port
  slot_port =
      let lt : 0 < length (replicate n 0) = omega (arith, length-replicate {A = ℕ} n 0) in
      let apart : 0 ≢ 3 = λ e. omega (arith, e) in
      get_or-set_other first_slots 3 0 (cast 32 len) 0 apart ∙ get_or-set_same (replicate n 0) 0 (cast 9 port) 0 lt

  pub slot_length : number_in (start_slots port len n) 3 ≡ cast 32 len
  slot_length =
      let lt : 3 < length first_slots = omega (arith, length-set (replicate n 0) 0 (cast 9 port), length-replicate {A = ℕ} n 0) in
      get_or-set_same first_slots 3 (cast 32 len) 0 lt

  pub slots_length : length (start_slots port len n) ≡ n
  slots_length = length-set first_slots 3 (cast 32 len) ∙ length-set (replicate n 0) 0 (cast 9 port) ∙ length-replicate {A = ℕ} n 0

-- ---- the store before the parser

module _ (p : Parts) (room : ℕ) (m : Places) (port len n k : ℕ) (are : ArePlaced p room m) (size : n ≡ m.size) where
  abbrev slots : List ℕ
  slots = start_slots port len n

  abbrev store : Store
  store = store_before p port len

  enough : 6 ≤ n
  enough = omega (arith, size, are.size)

  laid : IsLaid m
  laid = (are_program p room m are).laid

  far : (i : ℕ) → 6 ≤ i → number_in slots i ≡ 0
  far i le = slot_zero port len n enough i (λ e. omega (arith, e, le)) (λ e. omega (arith, e, le))

  -- the headers and the metadata
  abbrev inner : Store
  inner = zero_fields (metadata_root ∷ []) p.metadata (no_headers p.headers blank)

  abbrev Inside : ℕ → Type 0
  Inside i = (⊥ ⊎ ((first_header p ≤ i) × (i < first_header p + header_slots p.headers))) ⊎ ((first_metadata ≤ i) × (i < first_metadata + length p.metadata))

  inner_among : Among m slots Inside inner
  inner_among =
      let metadata = field_rows (metadata_root ∷ []) None p.metadata first_metadata in
      let later = header_rows p.headers 0 (first_header p) in
      let found = each_behind (Found m.rows) standard_rows (metadata ++ later) (all_found p room m are) in
      let first : Among m slots (λ i. ⊥ ⊎ ((first_header p ≤ i) × (i < first_header p + header_slots p.headers))) (no_headers p.headers blank) =
      headers_among m slots laid (λ i. ⊥) p.headers 0 (first_header p) blank (each_behind (Found m.rows) metadata later found) are.widths (λ i le. far i (omega (arith, le))) (λ q r e x. absurd x) in
      fields_among m slots laid (λ i. ⊥ ⊎ ((first_header p ≤ i) × (i < first_header p + header_slots p.headers))) (metadata_root ∷ []) None p.metadata first_metadata (no_headers p.headers blank)
      (each_front (Found m.rows) metadata later found) are.metadata (λ i le. far i le) first

  -- the standard metadata
  word_at : (i w v : ℕ) → number_in slots i ≡ v → word w v ≡ word w (number_in slots i)
  word_at i w v e = ap (word w) (sym e)

  zero_at : (i : ℕ) → i ≢ 0 → i ≢ 3 → number_in slots i ≡ 0
  zero_at i a b = slot_zero port len n enough i a b

  abbrev AllSlots : ℕ → Type 0
  AllSlots i = (((((Inside i ⊎ (i ≡ 0)) ⊎ (i ≡ 1)) ⊎ (i ≡ 2)) ⊎ (i ≡ 3)) ⊎ (i ≡ 4)) ⊎ (i ≡ 5)

  all_among : Among m slots AllSlots store
  all_among =
      let found = all_found p room m are in
      let s0 : Store = set_value inner ingress_port (word 9 (cast 9 port)) in
      let s1 : Store = set_value s0 egress_spec (word 9 0) in
      let s2 : Store = set_value s1 egress_port (word 9 0) in
      let s3 : Store = set_value s2 packet_length (word 32 (cast 32 len)) in
      let s4 : Store = set_value s3 checksum_error (word 1 0) in
      let P0 : ℕ → Type 0 = λ i. Inside i ⊎ (i ≡ 0) in
      let P1 : ℕ → Type 0 = λ i. P0 i ⊎ (i ≡ 1) in
      let P2 : ℕ → Type 0 = λ i. P1 i ⊎ (i ≡ 2) in
      let P3 : ℕ → Type 0 = λ i. P2 i ⊎ (i ≡ 3) in
      let P4 : ℕ → Type 0 = λ i. P3 i ⊎ (i ≡ 4) in
      let port_word : IsWord (word 9 (cast 9 port)) = record { wide = omega arith; narrow = omega arith; in_range = cast-lt 9 port } in
      let length_word : IsWord (word 32 (cast 32 len)) = record { wide = omega arith; narrow = omega arith; in_range = cast-lt 32 len } in
      let a0 : Among m slots P0 s0 = write_among m slots laid Inside inner ingress_port (plain_row ingress_port 0 9) (word 9 (cast 9 port)) found.0 (word_at 0 9 (cast 9 port) (slot_port port len n enough)) port_word inner_among in
      let a1 : Among m slots P1 s1 = write_among m slots laid P0 s0 egress_spec (plain_row egress_spec 1 9) (word 9 0) found.1.0 (word_at 1 9 0 (zero_at 1 (λ e. omega (arith, e)) (λ e. omega (arith, e)))) (zero_word 9 (omega arith) (omega arith)) a0 in
      let a2 : Among m slots P2 s2 = write_among m slots laid P1 s1 egress_port (plain_row egress_port 2 9) (word 9 0) found.1.1.0 (word_at 2 9 0 (zero_at 2 (λ e. omega (arith, e)) (λ e. omega (arith, e)))) (zero_word 9 (omega arith) (omega arith)) a1 in
      let a3 : Among m slots P3 s3 = write_among m slots laid P2 s2 packet_length (plain_row packet_length 3 32) (word 32 (cast 32 len)) found.1.1.1.0 (word_at 3 32 (cast 32 len) (slot_length port len n enough)) length_word a2 in
      let a4 : Among m slots P4 s4 = write_among m slots laid P3 s3 checksum_error (plain_row checksum_error 4 1) (word 1 0) found.1.1.1.1.0 (word_at 4 1 0 (zero_at 4 (λ e. omega (arith, e)) (λ e. omega (arith, e)))) (zero_word 1 (omega arith) (omega arith)) a3 in
      write_among m slots laid P4 s4 parser_error (plain_row parser_error 5 2) (word 2 0) found.1.1.1.1.1.0 (word_at 5 2 0 (zero_at 5 (λ e. omega (arith, e)) (λ e. omega (arith, e)))) (zero_word 2 (omega arith) (omega arith)) a4

  -- each slot of a place is one of these
  inside_at : (i : ℕ) → 6 ≤ i → i < slots_in p → Inside i
  inside_at i le lt = ⊎_elim
      (λ (a : i < first_header p). inr (le, a))
      (λ (a : first_header p ≤ i). inl (inr (a, omega (arith, lt))))
      (cases_lt i (first_header p))

  one_of : (i : ℕ) → i < slots_in p → AllSlots i
  one_of zero lt = inl (inl (inl (inl (inl (inr refl)))))
  one_of (suc zero) lt = inl (inl (inl (inl (inr refl))))
  one_of (suc (suc zero)) lt = inl (inl (inl (inr refl)))
  one_of (suc (suc (suc zero))) lt = inl (inl (inr refl))
  one_of (suc (suc (suc (suc zero)))) lt = inl (inr refl)
  one_of (suc (suc (suc (suc (suc zero))))) lt = inr refl
  one_of (suc (suc (suc (suc (suc (suc i)))))) lt = inl (inl (inl (inl (inl (inl (inside_at (suc (suc (suc (suc (suc (suc i)))))) (omega arith) lt))))))

  heads_are : (x : List (List ℕ)) → store.headers x ≡ header_at (replicate k false) (header_number m.headers x)
  heads_are x =
      ap (λ (f : List (List ℕ) → Option Bool). f x) (fields_keep (metadata_root ∷ []) p.metadata (no_headers p.headers blank))
      ∙ invalid_headers p.headers blank x
      ∙ ap (λ b. if b then Some false else None) ((are_program p room m are).declared.headers x)
      ∙ false_at k (header_number m.headers x)

  pub start_follows : Follows m slots (replicate k false) store
  start_follows = record {
    shows = record {
      values = λ q r e.
          let lt : r.slot < slots_in p = omega (arith, laid.below q r e, are.next) in
          let own : ShowsWord slots r store q = all_among q r e (one_of r.slot lt) in
          record { is = own.is; word = own.word; above = heads_are (parent q) ∙ ap (header_at (replicate k false)) (above_is p room m are q r e) };
      headers = λ h i e. heads_are h ∙ ap (header_at (replicate k false)) e;
    };
    bare = heads_are [] ∙ ap (header_at (replicate k false)) (bare_is p room m are);
    room = slots_length port len n enough ∙ size;
  }

pub starts_follow : StartsFollow
starts_follow p room m port len s are size = start_follows p room m port len (length s.slots) (length s.valid) are size
