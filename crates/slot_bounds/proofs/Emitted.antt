-- Where no path is emitted twice, each header counts once at the most.
use Rattle.std.proofs.Common.{◌≡◌, ℕ, suc, ◌+◌, ◌≤◌, List, [], ◌∷◌, map, length, Bool, true, false, cond, Option, Some, None, refl, sym, ap, ◌∙◌, arith}
use Rattle.std.specs.Option.{option_map}
use Rattle.lex_text.specs.Names.{same_path}
use Rattle.p4_declaration_rules.specs.Controls.{is_one_of}
use Rattle.p4_meaning.specs.Parsing.{Header}
use Rattle.p4_typing_laws.proofs.Fine.{neither}
use Rattle.p4_typing_laws.proofs.KeptPlaces.{path_is, path_same}
use Rattle.std.specs.Prelude.{slice_get}
use Rattle.slot_terms.specs.Places.{header_number}
use Rattle.slot_packets.specs.Fields.{widths_sum}
use Rattle.slot_packets.specs.Headers.{width_in}
use Rattle.slot_places.specs.ProgramRows.{path_in}
use Rattle.slot_places.specs.HeaderSlots.{HeaderSlots, slots_of_headers}
use Rattle.slot_deparsers.specs.Emits.{header_width, most_bits, with_number, numbers_of}

-- ---- bits by paths

abbrev pub header_bits : Header → ℕ
header_bits h = widths_sum (map width_in h.fields)

-- the bits of all headers
abbrev pub all_bits : List Header → ℕ
all_bits [] = 0
all_bits (h ∷ hs) = header_bits h + all_bits hs

-- those of the first header at a path
abbrev bits_at : List Header → List (List ℕ) → ℕ
bits_at [] p = 0
bits_at (h ∷ hs) p = cond (same_path h.path p) (header_bits h) (bits_at hs p)

-- those of the headers at paths
abbrev pub bits_of : List Header → List (List (List ℕ)) → ℕ
bits_of hs [] = 0
bits_of hs (p ∷ ps) = bits_at hs p + bits_of hs ps

-- ---- by numbers

abbrev number_bits : List HeaderSlots → Option ℕ → ℕ
number_bits heads None = 0
number_bits heads (Some n) = header_width (slice_get heads n)

number_more : (x : HeaderSlots) (heads : List HeaderSlots) (o : Option ℕ) → number_bits (x ∷ heads) (option_map suc o) ≡ number_bits heads o
number_more x heads None = refl
number_more x heads (Some n) = refl

number_at : (hs : List Header) (i : ℕ) (p : List (List ℕ)) → number_bits (slots_of_headers hs i) (header_number (map path_in hs) p) ≡ bits_at hs p
number_at [] i p = refl
number_at (h ∷ hs) i p = go (same_path h.path p) (number_at hs (i + length h.fields) p)
  where
    go : (b : Bool) → number_bits (slots_of_headers hs (i + length h.fields)) (header_number (map path_in hs) p) ≡ bits_at hs p
        → number_bits (slots_of_headers (h ∷ hs) i) (cond b (Some 0) (option_map suc (header_number (map path_in hs) p))) ≡ cond b (header_bits h) (bits_at hs p)
    go true more = refl
    go false more = number_more (record { first = i; widths = map width_in h.fields }) (slots_of_headers hs (i + length h.fields)) (header_number (map path_in hs) p) ∙ more

with_bits : (heads : List HeaderSlots) (o : Option ℕ) (ns : List ℕ) → most_bits heads (with_number o ns) ≡ number_bits heads o + most_bits heads ns
with_bits heads None ns = omega arith
with_bits heads (Some n) ns = refl

pub most_is : (hs : List Header) (i : ℕ) (ps : List (List (List ℕ))) → most_bits (slots_of_headers hs i) (numbers_of (map path_in hs) ps) ≡ bits_of hs ps
most_is hs i [] = refl
most_is hs i (p ∷ ps) =
    (let a = with_bits (slots_of_headers hs i) (header_number (map path_in hs) p) (numbers_of (map path_in hs) ps) in
    let b = number_at hs i p in
    let c = most_is hs i ps in
    omega (arith, a, b, c))

-- ---- each path once

abbrev pub Once : List (List (List ℕ)) → Type 0
Once [] = Unit {0}
Once (p ∷ ps) = (is_one_of ps p ≡ false) × Once ps

other_way : (p q : List (List ℕ)) → same_path p q ≡ false → same_path q p ≡ false
other_way p q h = go (same_path q p) refl
  where
    go : (b : Bool) → same_path q p ≡ b → b ≡ false
    go true e = (let c : true ≡ false = sym (path_same p q (sym (path_is q p e))) ∙ h in absurd (cc))
    go false e = refl

-- a header at none of the paths
none_at : (h : Header) (hs : List Header) (ps : List (List (List ℕ))) → is_one_of ps h.path ≡ false → bits_of (h ∷ hs) ps ≡ bits_of hs ps
none_at h hs [] e = refl
none_at h hs (p ∷ ps) e =
    (let k = neither (same_path p h.path) (is_one_of ps h.path) e in
    let a = ap (λ (b : Bool). cond b (header_bits h) (bits_at hs p)) (other_way p h.path k.0) in
    let more = none_at h hs ps k.1 in
    omega (arith, a, more))

first_once : (h : Header) (hs : List Header) (ps : List (List (List ℕ))) → Once ps → bits_of (h ∷ hs) ps ≤ header_bits h + bits_of hs ps
first_once h hs [] o = omega arith
first_once h hs (p ∷ ps) o = go (same_path h.path p) refl (first_once h hs ps o.1)
  where
    go : (b : Bool) → same_path h.path p ≡ b → bits_of (h ∷ hs) ps ≤ header_bits h + bits_of hs ps → cond b (header_bits h) (bits_at hs p) + bits_of (h ∷ hs) ps ≤ header_bits h + (bits_at hs p + bits_of hs ps)
    go true e more = (let rest = none_at h hs ps (ap (is_one_of ps) (path_is h.path p e) ∙ o.0) in omega (arith, rest))
    go false e more = omega (arith, more)

none_of : (ps : List (List (List ℕ))) → bits_of [] ps ≡ 0
none_of [] = refl
none_of (p ∷ ps) = (let more = none_of ps in omega (arith, more))

pub once_at_most : (hs : List Header) (ps : List (List (List ℕ))) → Once ps → bits_of hs ps ≤ all_bits hs
once_at_most [] ps o = (let e = none_of ps in omega (arith, e))
once_at_most (h ∷ hs) ps o =
    (let a = first_once h hs ps o in
    let b = once_at_most hs ps o in
    omega (arith, a, b))
