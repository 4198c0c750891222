-- Each header of a program is laid out. By induction on the headers: the rows are those before a header, its own, and those
-- behind it, and of each kind it is known which headers they are of, which slots they have and what stands above them.
use Rattle.std.proofs.Common.{◌≡◌, ◌≢◌, ◌⊎◌, inl, inr, ⊎_elim, ℕ, suc, ◌+◌, ◌<◌, ◌≤◌, List, [], ◌∷◌, ◌++◌, map, length, Bool, true, false, not, ◌&&◌, if◌then◌else◌, Option, Some, None, refl, sym, ap, ◌∙◌, subst, arith}
use Rattle.std.specs.Prelude.{is_some, is_none, nat_le}
use Rattle.std.specs.Option.{option_map}
use Rattle.std.proofs.lemmas.Bool.{and_parts, not-true}
use Rattle.std.proofs.lemmas.List.{append_assoc}
use Rattle.lex_text.specs.Names.{same_path, parent}
use Rattle.p4_meaning.specs.Standard.{metadata_root, ingress_port, egress_spec, egress_port, packet_length, checksum_error, parser_error}
use Rattle.p4_meaning.specs.Parsing.{Field, Header}
use Rattle.p4_meaning.specs.Parts.{Parts}
use Rattle.p4_parts.specs.Slots.{header_slots, slots_in}
use Rattle.slot_terms.specs.Places.{Place, Places, place_at, header_number}
use Rattle.slot_terms.proofs.LaidLemmas.{path_decides, some_is}
use Rattle.slot_packets.specs.Fields.{AreWidths}
use Rattle.slot_packets.specs.Headers.{width_in, FieldsAt, IsHeaderAt}
use Rattle.slot_places.specs.ProgramRows.{path_in, plain_row, standard_rows, field_rows, header_rows, first_metadata, first_header, program_rows}
use Rattle.slot_places.specs.ProgramPlaces.{are_apart, is_root, are_headers, is_apart, HeaderWidths, ArePlaced, AreHeadersAt, AreHeadersOf, AreProgramPlaces}
use Rattle.slot_places.proofs.ProgramLemmas.{program_laid, program_declared}
use Rattle.slot_places.proofs.RowsLemmas.{Each, each_append, each_behind, each_front, each_more, found_is, each_found}

abbrev Paths : Type 0
Paths = List (List (List ℕ))

-- ---- what stands above rows

pub parent-append : (a : List (List ℕ)) (x : List ℕ) → parent (a ++ x ∷ []) ≡ a
parent-append [] x = refl
parent-append (y ∷ []) x = refl
parent-append (y ∷ z ∷ a) x = ap (λ l. y ∷ l) (parent-append (z ∷ a) x)

other_first : (b : Bool) (o : Option ℕ) → (if b then Some 0 else option_map suc o) ≡ None → (b ≡ false) × (o ≡ None)
other_first true o e = absurd (cc e)
other_first false None e = (refl, refl)
other_first false (Some n) e = absurd (cc e)

some_first : (b : Bool) (o : Option ℕ) → is_some o ≡ true → is_some (if b then Some 0 else option_map suc o) ≡ true
some_first true o e = refl
some_first false None e = e
some_first false (Some n) e = e

own_number : (h : List (List ℕ)) (hs : Paths) → header_number (h ∷ hs) h ≡ Some 0
own_number h hs = ap (λ b. if b then Some 0 else option_map suc (header_number hs h)) ((path_decides h h).1 refl)

no_number : (o : Option ℕ) → is_none o ≡ true → o ≡ None
no_number None e = refl
no_number (Some n) e = absurd (cc e)

-- no header has the path of a root
root_step : (b : Bool) (h x : List (List ℕ)) (o : Option ℕ) → same_path h x ≡ b → not (is_root h) ≡ true → is_root x ≡ true → o ≡ None → (if b then Some 0 else option_map suc o) ≡ None
root_step true h x o e free root none =
    let same : is_root h ≡ true = ap is_root ((path_decides h x).0 e) ∙ root in
    absurd (let no : is_root h ≡ false = not-true (is_root h) free in cc (sym no ∙ same))
root_step false h x o e free root none = ap (option_map suc) none

root_number : (hs : Paths) (x : List (List ℕ)) → are_headers hs ≡ true → is_root x ≡ true → header_number hs x ≡ None
root_number [] x e root = refl
root_number (h ∷ hs) x e root =
    let parts = and_parts (not (is_root h) && is_none (header_number hs h)) (are_headers hs) e in
    let first = and_parts (not (is_root h)) (is_none (header_number hs h)) parts.0 in
    root_step (same_path h x) h x (header_number hs x) refl first.0 root (root_number hs x parts.1 root)

has_name : (h : List (List ℕ)) → not (is_root h) ≡ true → h ≢ []
has_name h free e =
    let no : is_root h ≡ false = not-true (is_root h) free in
    let yes : is_root h ≡ true = ap is_root e in
    cc (sym no ∙ yes)

-- ---- the numbers of headers

-- headers are found under the numbers from one on
abbrev AreNumbers : Paths → Paths → ℕ → Type 0
AreNumbers all [] n = Unit {0}
AreNumbers all (h ∷ hs) n = (header_number all h ≡ Some n) × AreNumbers all hs (n + 1)

later_step : (b : Bool) (z h : List (List ℕ)) (hs : Paths) (o : Option ℕ) (n : ℕ) → same_path z h ≡ b → (same_path z h ≡ true → ⊥) → o ≡ Some n → (if b then Some 0 else option_map suc o) ≡ Some (n + 1)
later_step true z h hs o n e apart is = absurd (apart e)
later_step false z h hs o n e apart is = ap (option_map suc) is ∙ (let next : suc n ≡ n + 1 = omega arith in ap Some next)

later_numbers : (z : List (List ℕ)) (xs hs : Paths) (n : ℕ) → header_number hs z ≡ None → AreNumbers xs hs n → AreNumbers (z ∷ xs) hs (n + 1)
later_numbers z xs [] n none a = tt
later_numbers z xs (h ∷ hs) n none a =
    let parts = other_first (same_path h z) (header_number hs z) none in
    let apart : same_path z h ≡ true → ⊥ = λ e.
    let same : same_path h z ≡ true = (path_decides h z).1 (sym ((path_decides z h).0 e)) in
    cc (sym parts.0 ∙ same) in
    (later_step (same_path z h) z h hs (header_number xs h) n refl apart a.0, later_numbers z xs hs (n + 1) parts.1 a.1)

all_numbers : (hs : Paths) → are_headers hs ≡ true → AreNumbers hs hs 0
all_numbers [] e = tt
all_numbers (h ∷ hs) e =
    let parts = and_parts (not (is_root h) && is_none (header_number hs h)) (are_headers hs) e in
    let first = and_parts (not (is_root h)) (is_none (header_number hs h)) parts.0 in
    (own_number h hs, later_numbers h hs hs 0 (no_number (header_number hs h) first.1) (all_numbers hs parts.1))

-- ---- rows before, of and behind a header

abbrev IsBefore : (number first : ℕ) → Paths → Place → Type 0
IsBefore n i hs r = ((k : ℕ) → n ≤ k → r.header ≢ Some k) × (r.slot < i) × (header_number hs (parent r.path) ≡ None)

abbrev IsBehind : (number first : ℕ) → Paths → Place → Type 0
IsBehind n i hs r = ((k : ℕ) → k < n → r.header ≢ Some k) × (i ≤ r.slot) × (is_some (header_number hs (parent r.path)) ≡ true)

abbrev IsOwn : (number : ℕ) → (path : List (List ℕ)) → (first end : ℕ) → Place → Type 0
IsOwn n p i j r = (r.header ≡ Some n) × (i ≤ r.slot) × (r.slot < j) × (parent r.path ≡ p)

abbrev IsOther : (number : ℕ) → (path : List (List ℕ)) → (first end : ℕ) → Place → Type 0
IsOther n p i j r = (r.header ≢ Some n) × ((r.slot < i) ⊎ (j ≤ r.slot)) × (same_path p (parent r.path) ≡ false)

each_own : (p : List (List ℕ)) (n : ℕ) (fs : List Field) (i : ℕ) → Each (IsOwn n p i (i + length fs)) (field_rows p (Some n) fs i)
each_own p n [] i = tt
each_own p n (f ∷ fs) i = (
  (refl, omega arith, omega arith, parent-append p f.name),
  each_more (IsOwn n p (i + 1) (i + 1 + length fs)) (IsOwn n p i (i + length (f ∷ fs))) (λ r h. (h.0, omega (arith, h.1), omega (arith, h.2), h.3)) (field_rows p (Some n) fs (i + 1)) (each_own p n fs (i + 1)),
)

own_behind : (n i j : ℕ) (h : List (List ℕ)) (hs : Paths) (r : Place) → IsOwn n h i j r → IsBehind n i (h ∷ hs) r
own_behind n i j h hs r o = (
  (λ k lt e. let same : n ≡ k = some_is (sym o.0 ∙ e) in absurd (omega (arith, lt, same))),
  o.1,
  ap (λ x. is_some (header_number (h ∷ hs) x)) o.3 ∙ ap (λ (z : Option ℕ). is_some z) (own_number h hs),
)

each_later : (hs : List Header) (n i : ℕ) → Each (IsBehind n i (map path_in hs)) (header_rows hs n i)
each_later [] n i = tt
each_later (h ∷ hs) n i =
    let own = field_rows h.path (Some n) h.fields i in
    let later = header_rows hs (n + 1) (i + length h.fields) in
    each_append (IsBehind n i (map path_in (h ∷ hs))) own later
    (each_more (IsOwn n h.path i (i + length h.fields)) (IsBehind n i (map path_in (h ∷ hs))) (own_behind n i (i + length h.fields) h.path (map path_in hs)) own (each_own h.path n h.fields i))
    (each_more (IsBehind (n + 1) (i + length h.fields) (map path_in hs)) (IsBehind n i (map path_in (h ∷ hs)))
    (λ r b. ((λ k lt. b.0 k (omega (arith, lt))), omega (arith, b.1), some_first (same_path h.path (parent r.path)) (header_number (map path_in hs) (parent r.path)) b.2))
    later (each_later hs (n + 1) (i + length h.fields)))

-- rows behind a header are none of it
behind_other : (n i j : ℕ) (h : List (List ℕ)) (hs : Paths) (r : Place) → header_number hs h ≡ None → IsBehind (n + 1) j hs r → IsOther n h i j r
behind_other n i j h hs r none b =
    (b.0 n (omega arith), inr b.1, step (same_path h (parent r.path)) refl)
  where
    step : (t : Bool) → same_path h (parent r.path) ≡ t → same_path h (parent r.path) ≡ false
    step true e =
        let is : header_number hs (parent r.path) ≡ None = ap (header_number hs) (sym ((path_decides h (parent r.path)).0 e)) ∙ none in
        let no : is_some (header_number hs (parent r.path)) ≡ false = ap (λ (z : Option ℕ). is_some z) is in
        absurd (cc (sym no ∙ b.2))
    step false e = e

before_other : (n i j : ℕ) (h : List (List ℕ)) (hs : Paths) (r : Place) → IsBefore n i (h ∷ hs) r → IsOther n h i j r
before_other n i j h hs r b =
    (b.0 n (omega arith), inl b.1, (other_first (same_path h (parent r.path)) (header_number hs (parent r.path)) b.2).0)

-- ---- one header

abbrev Found : List Place → Place → Type 0
Found rs r = place_at rs r.path ≡ Some r

fields_at : (m : Places) (n : ℕ) (p : List (List ℕ)) (fs : List Field) (i : ℕ) → Each (Found m.rows) (field_rows p (Some n) fs i) → FieldsAt m n p fs i
fields_at m n p [] i e = tt
fields_at m n p (f ∷ fs) i e = (e.0, fields_at m n p fs (i + 1) e.1)

abbrev IsRow : (number : ℕ) → (path : List (List ℕ)) → (first end : ℕ) → Place → Type 0
IsRow n p i j r = IsOwn n p i j r ⊎ IsOther n p i j r

module _ (m : Places) (n : ℕ) (h : Header) (i : ℕ) (rows : Each (IsRow n h.path i (i + length h.fields)) m.rows) where
  abbrev end : ℕ
  end = i + length h.fields

  row_is : (q : List (List ℕ)) (r : Place) → place_at m.rows q ≡ Some r → IsRow n h.path i end r × (q ≡ r.path)
  row_is q r e = found_is (IsRow n h.path i end) m.rows rows q r e

  outside : (r : Place) → IsOther n h.path i end r → i ≤ r.slot → r.slot < end → ⊥
  outside r o low high = ⊎_elim (λ (a : r.slot < i). omega (arith, a, low)) (λ (a : end ≤ r.slot). omega (arith, a, high)) o.1

  pub header_at : header_number m.headers h.path ≡ Some n → AreWidths (map width_in h.fields) → FieldsAt m n h.path h.fields i → end ≤ m.size → IsHeaderAt m n h i
  header_at number w fields room = record {
    number = number;
    widths = w;
    fields = fields;
    room = room;
    inside = λ q r e is. ⊎_elim (λ (o : IsOwn n h.path i end r). (o.1, o.2)) (λ (o : IsOther n h.path i end r). absurd (o.0 is)) (row_is q r e).0;
    own = λ q r e low high. ⊎_elim (λ (o : IsOwn n h.path i end r). o.0) (λ (o : IsOther n h.path i end r). absurd (outside r o low high)) (row_is q r e).0;
    parents = λ q r e is. ap parent (row_is q r e).1 ∙ ⊎_elim (λ (o : IsOwn n h.path i end r). o.3) (λ (o : IsOther n h.path i end r). absurd (o.0 is)) (row_is q r e).0;
    others = λ q r e no. ap (λ x. same_path h.path (parent x)) (row_is q r e).1 ∙ ⊎_elim (λ (o : IsOwn n h.path i end r). absurd (no o.0)) (λ (o : IsOther n h.path i end r). o.2) (row_is q r e).0;
  }

-- ---- all headers

pub headers_at :
    (m : Places) (front : List Place) (hs : List Header) (n i : ℕ) → m.rows ≡ front ++ header_rows hs n i → Each (IsBefore n i (map path_in hs)) front
    → are_headers (map path_in hs) ≡ true → AreNumbers m.headers (map path_in hs) n → HeaderWidths hs → i + header_slots hs ≤ m.size → Each (Found m.rows) m.rows → AreHeadersAt m hs n i
headers_at m front [] n i rows before apart numbers widths room found = tt
headers_at m front (h ∷ hs) n i rows before apart numbers widths room found =
    let own = field_rows h.path (Some n) h.fields i in
    let later = header_rows hs (n + 1) (i + length h.fields) in
    let end : ℕ = i + length h.fields in
    let heads : List (List (List ℕ)) = map path_in hs in
    let parts = and_parts (not (is_root h.path) && is_none (header_number heads h.path)) (are_headers heads) apart in
    let first = and_parts (not (is_root h.path)) (is_none (header_number heads h.path)) parts.0 in
    let none : header_number heads h.path ≡ None = no_number (header_number heads h.path) first.1 in
    let found_here : Each (Found m.rows) own = each_front (Found m.rows) own later (each_behind (Found m.rows) front (own ++ later) (subst (Each (Found m.rows)) rows found)) in
    let owns = each_own h.path n h.fields i in
    let all : Each (IsRow n h.path i end) (front ++ (own ++ later)) =
    each_append (IsRow n h.path i end) front (own ++ later)
    (each_more (IsBefore n i (h.path ∷ heads)) (IsRow n h.path i end) (λ r b. inr (before_other n i end h.path heads r b)) front before)
    (each_append (IsRow n h.path i end) own later
    (each_more (IsOwn n h.path i end) (IsRow n h.path i end) (λ r o. inl o) own owns)
    (each_more (IsBehind (n + 1) end heads) (IsRow n h.path i end) (λ r b. inr (behind_other n i end h.path heads r none b)) later (each_later hs (n + 1) end))) in
    let next : Each (IsBefore (n + 1) end heads) (front ++ own) =
    each_append (IsBefore (n + 1) end heads) front own
    (each_more (IsBefore n i (h.path ∷ heads)) (IsBefore (n + 1) end heads)
    (λ r b. ((λ k le. b.0 k (omega (arith, le))), omega (arith, b.1), (other_first (same_path h.path (parent r.path)) (header_number heads (parent r.path)) b.2).1)) front before)
    (each_more (IsOwn n h.path i end) (IsBefore (n + 1) end heads)
    (λ r o. ((λ k le e. let same : n ≡ k = some_is (sym o.0 ∙ e) in absurd (omega (arith, le, same))), o.2, ap (header_number heads) o.3 ∙ none)) own owns) in (
      (header_at m n h i (subst (Each (IsRow n h.path i end)) (sym rows) all) numbers.0 widths.0 (fields_at m n h.path h.fields i found_here) (omega (arith, room)), has_name h.path first.0),
      headers_at m (front ++ own) hs (n + 1) end (rows ∙ sym (append_assoc front own later)) next parts.1 numbers.1 widths.1 (omega (arith, room)) found,
    )

-- rows of roots stand before all headers
root_before : (i : ℕ) (hs : Paths) (r : Place) → are_headers hs ≡ true → r.header ≡ None → r.slot < i → is_root (parent r.path) ≡ true → IsBefore 0 i hs r
root_before i hs r apart none lt root = ((λ k le e. absurd (cc (sym none ∙ e))), lt, root_number hs (parent r.path) apart root)

metadata_before : (fs : List Field) (k i : ℕ) (hs : Paths) → are_headers hs ≡ true → k + length fs ≤ i → Each (IsBefore 0 i hs) (field_rows (metadata_root ∷ []) None fs k)
metadata_before [] k i hs apart le = tt
metadata_before (f ∷ fs) k i hs apart le =
    (root_before i hs (plain_row (metadata_root ∷ f.name ∷ []) k f.width) apart refl (omega (arith, le)) refl, metadata_before fs (k + 1) i hs apart (omega (arith, le)))

standard_before : (i : ℕ) (hs : Paths) → are_headers hs ≡ true → 6 ≤ i → Each (IsBefore 0 i hs) standard_rows
standard_before i hs apart le =
    let before : (p : List (List ℕ)) (k w : ℕ) → k < 6 → is_root (parent p) ≡ true → IsBefore 0 i hs (plain_row p k w) = λ p k w lt root. root_before i hs (plain_row p k w) apart refl (omega (arith, lt, le)) root in (
      before ingress_port 0 9 (omega arith) refl,
      (
        before egress_spec 1 9 (omega arith) refl,
        (
          before egress_port 2 9 (omega arith) refl,
          (
            before packet_length 3 32 (omega arith) refl,
            (
              before checksum_error 4 1 (omega arith) refl,
              (before parser_error 5 2 (omega arith) refl, tt),
            ),
          ),
        ),
      ),
    )

pub program_headers_at : (p : Parts) (room : ℕ) (m : Places) → ArePlaced p room m → AreHeadersOf p m
program_headers_at p room m are =
    let hs : List (List (List ℕ)) = map path_in p.headers in
    let metadata = field_rows (metadata_root ∷ []) None p.metadata first_metadata in
    let can = and_parts (is_apart p) (nat_le (slots_in p + room) 4294967295) are.can in
    let parts = and_parts (are_apart (program_rows p)) (are_headers hs) can.0 in
    let rows : m.rows ≡ (standard_rows ++ metadata) ++ header_rows p.headers 0 (first_header p) = are.rows ∙ sym (append_assoc standard_rows metadata (header_rows p.headers 0 (first_header p))) in
    let before = each_append (IsBefore 0 (first_header p) hs) standard_rows metadata (standard_before (first_header p) hs parts.1 (omega arith)) (metadata_before p.metadata first_metadata (first_header p) hs parts.1 (omega arith)) in
    headers_at m (standard_rows ++ metadata) p.headers 0 (first_header p) rows before parts.1 (subst (λ l. AreNumbers l hs 0) (sym are.headers) (all_numbers hs parts.1)) are.widths (omega (arith, are.size))
    (subst (λ rs. Each (Found rs) rs) (sym are.rows) (each_found (program_rows p) parts.0))

pub program_placed : (p : Parts) (room : ℕ) (m : Places) → ArePlaced p room m → AreProgramPlaces p m
program_placed p room m are = record {
  laid = program_laid p room m are;
  declared = program_declared p room m are;
  headers = program_headers_at p room m are;
  paths = are.headers;
}
