-- Worked rows: values of terms, and which slots paths have. Header 0 is valid, header 1 is not.
use Rattle.std.proofs.Common.{◌≡◌, ℕ, List, [], ◌∷◌, true, false, Some, None, refl, codes}
use Rattle.bit_values.specs.declared.operator.Operator.TheVariants.{Add, Sub, Shl, Less, Both}
use Rattle.p4_tree.specs.Tree.{path, valid as validity}
use Rattle.slot_terms.specs.Terms.{Term, constant, slot, field, valid, inversion, opposite, binary, join, choice, cut, eval}
use Rattle.slot_terms.specs.Places.{Place, Places, place_at, header_number}
use Rattle.slot_terms.specs.Known.{is_known}

abbrev value : Term → ℕ
value = eval (0 ∷ 1 ∷ 64 ∷ 171 ∷ []) (true ∷ false ∷ [])

-- hdr.ipv4.ttl - 1, in 8 bits, where the slot of ttl is 2
one_less : value (binary Sub 255 (field 2 0) (constant 1)) ≡ 63
one_less = refl

-- the same while the header is not valid: 0 - 1 in 8 bits
one_less_than_nothing : value (binary Sub 255 (field 2 1) (constant 1)) ≡ 255
one_less_than_nothing = refl

-- 171 + 171 in 8 bits, and in 16
sum_of_eight_bits : value (binary Add 255 (slot 3) (slot 3)) ≡ 86
sum_of_eight_bits = refl

sum_of_sixteen_bits : value (binary Add 65535 (slot 3) (slot 3)) ≡ 342
sum_of_sixteen_bits = refl

-- 8w1 ++ 8w64, 171[7:4], ~171 and -171 in 8 bits
joined_bits : value (join 8 (slot 1) (slot 2)) ≡ 320
joined_bits = refl

high_half : value (cut 4 15 (slot 3)) ≡ 10
high_half = refl

turned_round : value (inversion 255 (slot 3)) ≡ 84
turned_round = refl

below_nothing : value (opposite 255 (slot 3)) ≡ 85
below_nothing = refl

-- a shift by more than there are bits
shifted_out : value (binary Shl 255 (slot 3) (constant 200)) ≡ 0
shifted_out = refl

-- hdr.ipv4.isValid() && 64 < 171 ? 1 : 2, and with the other header
chosen_first : value (choice (binary Both 1 (valid 0) (binary Less 1 (slot 2) (slot 3))) (constant 1) (constant 2)) ≡ 1
chosen_first = refl

chosen_second : value (choice (binary Both 1 (valid 1) (binary Less 1 (slot 2) (slot 3))) (constant 1) (constant 2)) ≡ 2
chosen_second = refl

-- slots and headers that are not there
missing_slot : value (slot 9) ≡ 0
missing_slot = refl

missing_header : value (valid 9) ≡ 0
missing_header = refl

-- meta.count has slot 0, and hdr.ipv4.ttl slot 1
abbrev count : List (List ℕ)
count = codes "meta" ∷ codes "count" ∷ []

abbrev ipv4 : List (List ℕ)
ipv4 = codes "hdr" ∷ codes "ipv4" ∷ []

abbrev ttl : List (List ℕ)
ttl = codes "hdr" ∷ codes "ipv4" ∷ codes "ttl" ∷ []

abbrev of_count : Place
of_count = record { path = count; slot = 0; width = 16; header = None }

abbrev of_ttl : Place
of_ttl = record { path = ttl; slot = 1; width = 8; header = Some 0 }

abbrev sample : Places
sample = record { rows = of_count ∷ of_ttl ∷ []; headers = ipv4 ∷ []; next = 2; size = 4 }

place_of_a_field : place_at sample.rows ttl ≡ Some of_ttl
place_of_a_field = refl

no_place_of_a_header : place_at sample.rows ipv4 ≡ None
no_place_of_a_header = refl

number_of_a_header : header_number sample.headers ipv4 ≡ Some 0
number_of_a_header = refl

known_field : is_known sample (path 0 ttl) ≡ true
known_field = refl

unknown_validity : is_known sample (validity 0 ttl) ≡ false
unknown_validity = refl
