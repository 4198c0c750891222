-- What stands above the places of a program, and the places of the standard metadata.
use Rattle.std.proofs.Common.{◌≡◌, ◌≢◌, ◌⊎◌, inl, inr, ⊎_elim, ℕ, suc, ◌+◌, List, [], ◌∷◌, ◌++◌, map, length, Bool, true, false, if◌then◌else◌, Option, Some, None, refl, sym, ap, ◌∙◌, subst}
use Rattle.std.specs.Prelude.{nat_le}
use Rattle.std.specs.Option.{option_map}
use Rattle.std.proofs.lemmas.Bool.{and_parts}
use Rattle.lex_text.specs.Names.{same_path, parent}
use Rattle.p4_meaning.specs.Standard.{metadata_root, ingress_port, egress_spec, egress_port, packet_length, checksum_error, parser_error}
use Rattle.p4_meaning.specs.Parsing.{Field, Header}
use Rattle.p4_meaning.specs.Parts.{Parts}
use Rattle.p4_parts.specs.Slots.{slots_in}
use Rattle.slot_terms.specs.Places.{Place, Places, place_at, header_number}
use Rattle.slot_places.specs.ProgramRows.{path_in, plain_row, standard_rows, field_rows, header_rows, first_metadata, first_header, program_rows}
use Rattle.slot_places.specs.ProgramPlaces.{are_apart, are_headers, is_apart, ArePlaced, AreHeadersAt, AreProgramPlaces}
use Rattle.slot_places.proofs.RowsLemmas.{Each, each_append, found_is, each_found}
use Rattle.slot_places.proofs.HeadersLemmas.{parent-append, program_placed}

passes : (b : Bool) (o : Option ℕ) → b ≡ false → o ≡ None → (if b then Some 0 else option_map suc o) ≡ None
passes true o e n = absurd (cc e)
passes false o e n = ap (option_map suc) n

-- above a place that is of no header stands none
none_above : (m : Places) (hs : List Header) (n i : ℕ) (q : List (List ℕ)) (r : Place) → AreHeadersAt m hs n i → place_at m.rows q ≡ Some r → r.header ≡ None → header_number (map path_in hs) (parent q) ≡ None
none_above m [] n i q r at there none = refl
none_above m (h ∷ hs) n i q r at there none =
    let apart : same_path h.path (parent q) ≡ false = at.0.0.others q r there (λ e. let no : None ≡ Some n = sym none ∙ e in cc no) in
    passes (same_path h.path (parent q)) (header_number (map path_in hs) (parent q)) apart (none_above m hs (n + 1) (i + length h.fields) q r at.1 there none)

no_path : (h : List (List ℕ)) → h ≢ [] → same_path h [] ≡ false
no_path [] n = absurd (n refl)
no_path (x ∷ h) n = refl

none_bare : (m : Places) (hs : List Header) (n i : ℕ) → AreHeadersAt m hs n i → header_number (map path_in hs) [] ≡ None
none_bare m [] n i at = refl
none_bare m (h ∷ hs) n i at = passes (same_path h.path []) (header_number (map path_in hs) []) (no_path h.path at.0.1) (none_bare m hs (n + 1) (i + length h.fields) at.1)

-- a row is of no header, or of that above it
abbrev IsBelow : Places → Place → Type 0
IsBelow m r = (r.header ≡ None) ⊎ (header_number m.headers (parent r.path) ≡ r.header)

fields_below : (m : Places) (n : ℕ) (a : List (List ℕ)) (fs : List Field) (i : ℕ) → header_number m.headers a ≡ Some n → Each (IsBelow m) (field_rows a (Some n) fs i)
fields_below m n a [] i e = tt
fields_below m n a (f ∷ fs) i e = (inr (ap (header_number m.headers) (parent-append a f.name) ∙ e), fields_below m n a fs (i + 1) e)

headers_below : (m : Places) (hs : List Header) (n i : ℕ) → AreHeadersAt m hs n i → Each (IsBelow m) (header_rows hs n i)
headers_below m [] n i at = tt
headers_below m (h ∷ hs) n i at =
    each_append (IsBelow m) (field_rows h.path (Some n) h.fields i) (header_rows hs (n + 1) (i + length h.fields)) (fields_below m n h.path h.fields i at.0.0.number)
    (headers_below m hs (n + 1) (i + length h.fields) at.1)

metadata_below : (m : Places) (a : List (List ℕ)) (fs : List Field) (i : ℕ) → Each (IsBelow m) (field_rows a None fs i)
metadata_below m a [] i = tt
metadata_below m a (f ∷ fs) i = (inl refl, metadata_below m a fs (i + 1))

abbrev pub Found : List Place → Place → Type 0
Found rs r = place_at rs r.path ≡ Some r

module _ (p : Parts) (room : ℕ) (m : Places) (are : ArePlaced p room m) where
  pub are_program : AreProgramPlaces p m
  are_program = program_placed p room m are

  all_below : Each (IsBelow m) (program_rows p)
  all_below =
      let metadata = field_rows (metadata_root ∷ []) None p.metadata first_metadata in
      let own : Each (IsBelow m) standard_rows = (inl refl, (inl refl, (inl refl, (inl refl, (inl refl, (inl refl, tt)))))) in
      each_append (IsBelow m) standard_rows (metadata ++ header_rows p.headers 0 (first_header p)) own
      (each_append (IsBelow m) metadata (header_rows p.headers 0 (first_header p)) (metadata_below m (metadata_root ∷ []) p.metadata first_metadata)
      (headers_below m p.headers 0 (first_header p) are_program.headers))

  -- the header that a place names is the one above its path
  pub above_is : (q : List (List ℕ)) (r : Place) → place_at m.rows q ≡ Some r → header_number m.headers (parent q) ≡ r.header
  above_is q r e =
      let found = found_is (IsBelow m) m.rows (subst (Each (IsBelow m)) (sym are.rows) all_below) q r e in
      ⊎_elim
      (λ (none : r.header ≡ None). ap (λ hs. header_number hs (parent q)) are_program.paths ∙ none_above m p.headers 0 (first_header p) q r are_program.headers e none ∙ sym none)
      (λ (is : header_number m.headers (parent r.path) ≡ r.header). ap (λ x. header_number m.headers (parent x)) found.1 ∙ is)
      found.0

  -- no header has the empty path
  pub bare_is : header_number m.headers [] ≡ None
  bare_is = ap (λ hs. header_number hs []) are_program.paths ∙ none_bare m p.headers 0 (first_header p) are_program.headers

  -- each row is found by its path
  pub all_found : Each (Found m.rows) (program_rows p)
  all_found =
      let can = and_parts (is_apart p) (nat_le (slots_in p + room) 4294967295) are.can in
      let parts = and_parts (are_apart (program_rows p)) (are_headers (map path_in p.headers)) can.0 in
      subst (λ rs. Each (Found rs) (program_rows p)) (sym are.rows) (each_found (program_rows p) parts.0)

  pub at_ingress_port : place_at m.rows ingress_port ≡ Some (plain_row ingress_port 0 9)
  at_ingress_port = all_found.0

  pub at_egress_spec : place_at m.rows egress_spec ≡ Some (plain_row egress_spec 1 9)
  at_egress_spec = all_found.1.0

  pub at_egress_port : place_at m.rows egress_port ≡ Some (plain_row egress_port 2 9)
  at_egress_port = all_found.1.1.0

  pub at_packet_length : place_at m.rows packet_length ≡ Some (plain_row packet_length 3 32)
  at_packet_length = all_found.1.1.1.0

  pub at_checksum_error : place_at m.rows checksum_error ≡ Some (plain_row checksum_error 4 1)
  at_checksum_error = all_found.1.1.1.1.0

  pub at_parser_error : place_at m.rows parser_error ≡ Some (plain_row parser_error 5 2)
  at_parser_error = all_found.1.1.1.1.1.0
