-- Rows of the headers that the code has, and when a program has places.
use Rattle.std.proofs.Common.{◌≡◌, ⊎_elim, ℕ, ◌+◌, ◌^◌, ◌<◌, ◌≤◌, List, [], ◌∷◌, ◌++◌, map, length, take, drop, get_or, Bool, true, false, ◌&&◌, Some, sym, ap, ap₂, ◌∙◌, arith}
use Rattle.std.specs.Prelude.{nat_le}
use Rattle.std.proofs.lemmas.Bool.{cases_lt, and_from, and_left, and_right, le-leb, lt-leb}
use Rattle.std.proofs.lemmas.List.{drop_more, take_more, map-append}
use Rattle.p4_parts.specs.Headers.{field_in, header_in}
use Rattle.p4_parts.specs.PartsIn.{parts_in}
use Rattle.p4_parts.specs.Slots.{slots_in}
use Rattle.p4_parts.specs.declared.header.Field as code_field
use Rattle.p4_parts.specs.declared.header.Header as code_header
use Rattle.p4_parts.specs.declared.parts.Parts as code_parts
use Rattle.slot_terms.specs.Places.{Place, Places}
use Rattle.slot_packets.specs.Fields.{AreWidths}
use Rattle.slot_packets.specs.Headers.{width_in}
use Rattle.slot_places.specs.ProgramRows.{path_in, field_rows, header_rows, program_rows}
use Rattle.slot_places.specs.ProgramPlaces.{are_apart, are_headers, is_apart, can_place, HeaderWidths, ArePlaced}
use Rattle.slot_places.proofs.LoopLemmas.{headers_step}
use Rattle.slot_places.proofs.ProgramLemmas.{length-program_rows}

-- one header more, by its place in the list
pub headers_loop :
    (xs : List code_header.Header) (i n : ℕ) (x : code_header.Header) (R S : List Place) → i < length xs → x ≡ get_or xs i x → n ≡ i → S ≡ R ++ field_rows (header_in x).path (Some n) (header_in x).fields (length R)
    → S ++ header_rows (map header_in (drop (i + 1) xs)) (i + 1) (length S) ≡ R ++ header_rows (map header_in (drop i xs)) i (length R)
headers_loop xs i n x R S lt is same e =
    let left : drop i xs ≡ x ∷ drop (i + 1) xs = drop_more xs i x lt ∙ ap (λ y. y ∷ drop (i + 1) xs) (sym is) in
    ap (λ k. S ++ header_rows (map header_in (drop (i + 1) xs)) (k + 1) (length S)) (sym same)
    ∙ headers_step (header_in x) (map header_in (drop (i + 1) xs)) n R S e
    ∙ ap₂ (λ k l. R ++ header_rows (map header_in l) k (length R)) same (sym left)

-- the widths of fields of the code
pub fields_wide : (fs : List code_field.Field) → AreWidths (map width_in (map field_in fs))
fields_wide [] = tt
fields_wide (f ∷ fs) = ((f.wide, f.narrow), fields_wide fs)

pub headers_wide : (hs : List code_header.Header) → HeaderWidths (map header_in hs)
headers_wide [] = tt
headers_wide (h ∷ hs) = (fields_wide h.fields.items, headers_wide hs)

module _ (p : code_parts.Parts) (room : ℕ) (m : Places) (b : Bool) (rows : m.rows ≡ program_rows (parts_in p)) (headers : m.headers ≡ map path_in (map header_in p.headers.items)) (is : b ≡ (are_apart m.rows && are_headers m.headers)) where
  apart_is : b ≡ is_apart (parts_in p)
  apart_is = is ∙ ap₂ (λ rs hs. are_apart rs && are_headers hs) rows headers

  count_is : length m.rows ≡ slots_in (parts_in p)
  count_is = ap length rows ∙ length-program_rows (parts_in p)

  -- no path stands twice, and 32 bits number the slots
  pub placed_is : b ≡ true → m.next ≡ length m.rows → m.size ≡ m.next + room → m.next + room < 2 ^ 32 → ArePlaced (parts_in p) room m
  placed_is apart next size few = record {
    can = and_from (is_apart (parts_in p)) (nat_le (slots_in (parts_in p) + room) 4294967295) (sym apart_is ∙ apart) (le-leb (slots_in (parts_in p) + room) 4294967295 (omega (arith, count_is, next, size, few)));
    rows = rows;
    headers = headers;
    next = next ∙ count_is;
    size = omega (arith, size, next, count_is);
    metadata = fields_wide p.metadata.items;
    widths = headers_wide p.headers.items;
  }

  pub not_apart : b ≡ false → can_place (parts_in p) room ≡ false
  not_apart twice = and_left (is_apart (parts_in p)) (nat_le (slots_in (parts_in p) + room) 4294967295) (sym apart_is ∙ twice)

  pub no_room : m.next ≡ length m.rows → (m.next + room < 2 ^ 32 → ⊥) → can_place (parts_in p) room ≡ false
  no_room next full =
      let many : 4294967296 ≤ m.next + room = ⊎_elim (λ (lt : m.next + room < 4294967296). absurd (full lt)) (λ (le : 4294967296 ≤ m.next + room). le) (cases_lt (m.next + room) 4294967296) in
      and_right (is_apart (parts_in p)) (nat_le (slots_in (parts_in p) + room) 4294967295) (lt-leb (slots_in (parts_in p) + room) 4294967295 (omega (arith, count_is, next, many)))

-- ---- widths that are pushed

pub widths_loop :
    (xs : List code_field.Field) (i : ℕ) (x : code_field.Field) (ws vs : List ℕ) → i < length xs → x ≡ get_or xs i x → ws ≡ map width_in (map field_in (take i xs)) → vs ≡ ws ++ x.width ∷ [] → vs ≡ map width_in (map field_in (take (i + 1) xs))
widths_loop xs i x ws vs lt is so_far e =
    let more : take (i + 1) xs ≡ take i xs ++ x ∷ [] = take_more xs i x lt ∙ ap (λ y. take i xs ++ y ∷ []) (sym is) in
    e ∙ ap (λ l. l ++ x.width ∷ []) so_far
    ∙ sym (ap (λ l. map width_in (map field_in l)) more ∙ ap (map width_in) (map-append field_in (take i xs) (x ∷ [])) ∙ map-append width_in (map field_in (take i xs)) (field_in x ∷ []))
