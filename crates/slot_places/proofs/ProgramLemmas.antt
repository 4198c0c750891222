-- The rows of a program: their slots, and which paths they have.
use Rattle.std.proofs.Common.{◌≡◌, ℕ, ◌+◌, List, [], ◌∷◌, ◌++◌, map, length, Bool, true, false, ◌||◌, if◌then◌else◌, Option, Some, None, refl, sym, ap, ap₂, ◌∙◌, subst, arith}
use Rattle.std.specs.Prelude.{suc, is_some}
use Rattle.std.specs.Option.{option_map}
use Rattle.std.proofs.lemmas.List.{length-append}
use Rattle.lex_text.specs.Names.{same_path}
use Rattle.p4_meaning.specs.Standard.{metadata_root}
use Rattle.p4_meaning.specs.Parsing.{Field, Header}
use Rattle.p4_meaning.specs.Parts.{Parts}
use Rattle.p4_meaning.specs.Pass.{is_one_path, is_field_of, is_header_field, is_declared_path, is_declared_header}
use Rattle.p4_parts.specs.Slots.{header_slots, slots_in}
use Rattle.slot_terms.specs.Places.{Place, Places, place_at, header_number, IsLaid}
use Rattle.slot_packets.specs.Queued.{ArePlacesOf}
use Rattle.slot_places.specs.ProgramRows.{path_in, standard_rows, field_rows, header_rows, first_metadata, first_header, program_rows}
use Rattle.slot_places.specs.ProgramPlaces.{ArePlaced}
use Rattle.slot_places.proofs.RowsLemmas.{AreNumbered, numbered_append, rows_laid}

-- ---- how many rows there are, and their slots

pub length-field_rows : (a : List (List ℕ)) (h : Option ℕ) (fs : List Field) (i : ℕ) → length (field_rows a h fs i) ≡ length fs
length-field_rows a h [] i = refl
length-field_rows a h (f ∷ fs) i = ap suc (length-field_rows a h fs (i + 1))

pub length-header_rows : (hs : List Header) (n i : ℕ) → length (header_rows hs n i) ≡ header_slots hs
length-header_rows [] n i = refl
length-header_rows (h ∷ hs) n i =
    length-append (field_rows h.path (Some n) h.fields i) (header_rows hs (n + 1) (i + length h.fields))
    ∙ ap₂ (λ a b. a + b) (length-field_rows h.path (Some n) h.fields i) (length-header_rows hs (n + 1) (i + length h.fields))

pub field_numbered : (a : List (List ℕ)) (h : Option ℕ) (fs : List Field) (i : ℕ) → AreNumbered (field_rows a h fs i) i
field_numbered a h [] i = tt
field_numbered a h (f ∷ fs) i = (refl, field_numbered a h fs (i + 1))

pub header_numbered : (hs : List Header) (n i : ℕ) → AreNumbered (header_rows hs n i) i
header_numbered [] n i = tt
header_numbered (h ∷ hs) n i =
    numbered_append (field_rows h.path (Some n) h.fields i) (header_rows hs (n + 1) (i + length h.fields)) i (i + length h.fields)
    (ap (λ k. i + k) (sym (length-field_rows h.path (Some n) h.fields i))) (field_numbered h.path (Some n) h.fields i) (header_numbered hs (n + 1) (i + length h.fields))

abbrev metadata_rows : Parts → List Place
metadata_rows p = field_rows (metadata_root ∷ []) None p.metadata first_metadata

pub length-program_rows : (p : Parts) → length (program_rows p) ≡ slots_in p
length-program_rows p =
    let a = length-append standard_rows (metadata_rows p ++ header_rows p.headers 0 (first_header p)) in
    let b = length-append (metadata_rows p) (header_rows p.headers 0 (first_header p)) in
    let c = length-field_rows (metadata_root ∷ []) None p.metadata first_metadata in
    let d = length-header_rows p.headers 0 (first_header p) in
    omega (arith, a, b, c, d)

pub program_numbered : (p : Parts) → AreNumbered (program_rows p) 0
program_numbered p =
    numbered_append standard_rows (metadata_rows p ++ header_rows p.headers 0 (first_header p)) 0 first_metadata refl
    (refl, (refl, (refl, (refl, (refl, (refl, tt))))))
    (numbered_append (metadata_rows p) (header_rows p.headers 0 (first_header p)) first_metadata (first_header p)
    (ap (λ k. first_metadata + k) (sym (length-field_rows (metadata_root ∷ []) None p.metadata first_metadata)))
    (field_numbered (metadata_root ∷ []) None p.metadata first_metadata) (header_numbered p.headers 0 (first_header p)))

pub program_laid : (p : Parts) (room : ℕ) (m : Places) → ArePlaced p room m → IsLaid m
program_laid p room m are =
    rows_laid m (subst (λ rs. AreNumbered rs 0) (sym are.rows) (program_numbered p))
    (are.next ∙ sym (length-program_rows p) ∙ ap length (sym are.rows)) (omega (arith, are.next, are.size))

-- ---- which paths have rows

some_step : (b c : Bool) (r : Place) (x y : Option Place) → is_some x ≡ (c || is_some y) → is_some (if b then Some r else x) ≡ ((b || c) || is_some y)
some_step true c r x y e = refl
some_step false c r x y e = e

or_apart : (b c d : Bool) → (b || (c || d)) ≡ ((b || c) || d)
or_apart true c d = refl
or_apart false c d = refl

behind_step : (b : Bool) (r : Place) (x : Option Place) (c : Bool) → is_some x ≡ c → is_some (if b then Some r else x) ≡ (b || c)
behind_step true r x c e = refl
behind_step false r x c e = e

pub some_append : (xs ys : List Place) (q : List (List ℕ)) → is_some (place_at (xs ++ ys) q) ≡ (is_some (place_at xs q) || is_some (place_at ys q))
some_append [] ys q = refl
some_append (x ∷ xs) ys q =
    behind_step (same_path x.path q) x (place_at (xs ++ ys) q) (is_some (place_at xs q) || is_some (place_at ys q)) (some_append xs ys q)
    ∙ or_apart (same_path x.path q) (is_some (place_at xs q)) (is_some (place_at ys q))
    ∙ ap (λ b. b || is_some (place_at ys q)) (sym (behind_step (same_path x.path q) x (place_at xs q) (is_some (place_at xs q)) refl))

field_paths : (a : List (List ℕ)) (h : Option ℕ) (fs : List Field) (i : ℕ) (q : List (List ℕ)) → is_field_of a fs q ≡ is_some (place_at (field_rows a h fs i) q)
field_paths a h [] i q = refl
field_paths a h (f ∷ fs) i q = sym (behind_step (same_path (a ++ f.name ∷ []) q) (record { path = a ++ f.name ∷ []; slot = i; width = f.width; header = h }) (place_at (field_rows a h fs (i + 1)) q) (is_field_of a fs q) (sym (field_paths a h fs (i + 1) q)))

header_paths : (hs : List Header) (n i : ℕ) (q : List (List ℕ)) → is_header_field hs q ≡ is_some (place_at (header_rows hs n i) q)
header_paths [] n i q = refl
header_paths (h ∷ hs) n i q =
    ap₂ (λ a b. a || b) (field_paths h.path (Some n) h.fields i q) (header_paths hs (n + 1) (i + length h.fields) q)
    ∙ sym (some_append (field_rows h.path (Some n) h.fields i) (header_rows hs (n + 1) (i + length h.fields)) q)

one_paths : (rs : List Place) (q : List (List ℕ)) → is_one_path (map (λ (r : Place). r.path) rs) q ≡ is_some (place_at rs q)
one_paths [] q = refl
one_paths (r ∷ rs) q = sym (behind_step (same_path r.path q) r (place_at rs q) (is_one_path (map (λ (r : Place). r.path) rs) q) (sym (one_paths rs q)))

pub program_paths : (p : Parts) (q : List (List ℕ)) → is_declared_path p q ≡ is_some (place_at (program_rows p) q)
program_paths p q =
    ap₂ (λ a b. a || b) (one_paths standard_rows q)
    (ap₂ (λ a b. a || b) (field_paths (metadata_root ∷ []) None p.metadata first_metadata q) (header_paths p.headers 0 (first_header p) q)
    ∙ sym (some_append (metadata_rows p) (header_rows p.headers 0 (first_header p)) q))
    ∙ sym (some_append standard_rows (metadata_rows p ++ header_rows p.headers 0 (first_header p)) q)

number_step : (b c : Bool) (o : Option ℕ) → c ≡ is_some o → (b || c) ≡ is_some (if b then Some 0 else option_map suc o)
number_step true c o e = refl
number_step false c None e = e
number_step false c (Some n) e = e

pub program_headers : (hs : List Header) (x : List (List ℕ)) → is_declared_header hs x ≡ is_some (header_number (map path_in hs) x)
program_headers [] x = refl
program_headers (h ∷ hs) x = number_step (same_path h.path x) (is_declared_header hs x) (header_number (map path_in hs) x) (program_headers hs x)

pub program_declared : (p : Parts) (room : ℕ) (m : Places) → ArePlaced p room m → ArePlacesOf p m
program_declared p room m are =
    record {
      paths = λ q. program_paths p q ∙ ap (λ rs. is_some (place_at rs q)) (sym are.rows);
      headers = λ h. program_headers p.headers h ∙ ap (λ hs. is_some (header_number hs h)) (sym are.headers);
    }
