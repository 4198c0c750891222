-- Rows that are pushed one behind the other.
use Rattle.std.proofs.Common.{◌≡◌, ℕ, ◌+◌, ◌≤◌, List, [], ◌∷◌, ◌++◌, length, true, ◌&&◌, Option, Some, None, refl, ap, ◌∙◌}
use Rattle.std.specs.Prelude.{nat_le}
use Rattle.std.proofs.lemmas.Bool.{and_parts, and_from, le-leb, leb-true}
use Rattle.std.proofs.lemmas.List.{append_assoc, length-append, length_push}
use Rattle.p4_meaning.specs.Standard.{metadata_root}
use Rattle.p4_meaning.specs.Parsing.{Field, Header}
use Rattle.p4_meaning.specs.Parts.{Parts}
use Rattle.slot_terms.specs.Places.{Place}
use Rattle.slot_packets.specs.Fields.{AreWidths}
use Rattle.slot_places.specs.ProgramRows.{row_of, plain_row, standard_rows, field_rows, header_rows, first_metadata, first_header, program_rows}
use Rattle.slot_places.specs.ProgramPlaces.{are_widths}
use Rattle.slot_places.proofs.ProgramLemmas.{length-field_rows}

-- one field more
pub fields_step : (a : List (List ℕ)) (h : Option ℕ) (f : Field) (fs : List Field) (R S : List Place) → S ≡ R ++ row_of (a ++ f.name ∷ []) (length R) f.width h ∷ [] → S ++ field_rows a h fs (length S) ≡ R ++ field_rows a h (f ∷ fs) (length R)
fields_step a h f fs R S e =
    let row : Place = row_of (a ++ f.name ∷ []) (length R) f.width h in
    ap (λ l. l ++ field_rows a h fs (length l)) e
    ∙ ap (λ k. (R ++ row ∷ []) ++ field_rows a h fs k) (length_push R row)
    ∙ append_assoc R (row ∷ []) (field_rows a h fs (length R + 1))

-- one header more
pub headers_step : (h : Header) (hs : List Header) (n : ℕ) (R S : List Place) → S ≡ R ++ field_rows h.path (Some n) h.fields (length R) → S ++ header_rows hs (n + 1) (length S) ≡ R ++ header_rows (h ∷ hs) n (length R)
headers_step h hs n R S e =
    let own = field_rows h.path (Some n) h.fields (length R) in
    ap (λ l. l ++ header_rows hs (n + 1) (length l)) e
    ∙ ap (λ k. (R ++ own) ++ header_rows hs (n + 1) k) (length-append R own ∙ ap (λ k. length R + k) (length-field_rows h.path (Some n) h.fields (length R)))
    ∙ append_assoc R own (header_rows hs (n + 1) (length R + length h.fields))

-- a row behind rows that are known
pub known_step : (L R S : List Place) (p : List (List ℕ)) (w : ℕ) → R ≡ L → S ≡ R ++ plain_row p (length R) w ∷ [] → S ≡ L ++ plain_row p (length L) w ∷ []
known_step L R S p w r s = s ∙ ap (λ l. l ++ plain_row p (length l) w ∷ []) r

-- all of a program
pub rows_whole :
    (p : Parts) (R S T : List Place) → R ≡ standard_rows → S ≡ R ++ field_rows (metadata_root ∷ []) None p.metadata (length R) → T ≡ S ++ header_rows p.headers 0 (length S) → T ≡ program_rows p
rows_whole p R S T r s t =
    let metadata = field_rows (metadata_root ∷ []) None p.metadata first_metadata in
    let second : S ≡ standard_rows ++ metadata = s ∙ ap (λ l. l ++ field_rows (metadata_root ∷ []) None p.metadata (length l)) r in
    let many : length (standard_rows ++ metadata) ≡ first_header p = length-append standard_rows metadata ∙ ap (λ k. 6 + k) (length-field_rows (metadata_root ∷ []) None p.metadata first_metadata) in
    t ∙ ap (λ l. l ++ header_rows p.headers 0 (length l)) second
    ∙ ap (λ k. (standard_rows ++ metadata) ++ header_rows p.headers 0 k) many
    ∙ append_assoc standard_rows metadata (header_rows p.headers 0 (first_header p))

-- ---- widths

pub widths_push : (ws : List ℕ) (w : ℕ) → are_widths ws ≡ true → 1 ≤ w → w ≤ 128 → are_widths (ws ++ w ∷ []) ≡ true
widths_push [] w e wide narrow = and_from (nat_le 1 w && nat_le w 128) true (and_from (nat_le 1 w) (nat_le w 128) (le-leb 1 w wide) (le-leb w 128 narrow)) refl
widths_push (v ∷ ws) w e wide narrow =
    let parts = and_parts (nat_le 1 v && nat_le v 128) (are_widths ws) e in
    and_from (nat_le 1 v && nat_le v 128) (are_widths (ws ++ w ∷ [])) parts.0 (widths_push ws w parts.1 wide narrow)

pub widths_are : (ws : List ℕ) → are_widths ws ≡ true → AreWidths ws
widths_are [] e = tt
widths_are (w ∷ ws) e =
    let parts = and_parts (nat_le 1 w && nat_le w 128) (are_widths ws) e in
    let own = and_parts (nat_le 1 w) (nat_le w 128) parts.0 in
    ((leb-true 1 w own.0, leb-true w 128 own.1), widths_are ws parts.1)
