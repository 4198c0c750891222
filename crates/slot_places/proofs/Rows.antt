-- Worked rows: a program with one field of metadata and two headers, `hdr.eth` of 48 and 16 bits and `hdr.tag` of 8 bits.
use Rattle.std.proofs.Common.{◌≡◌, ℕ, List, [], ◌∷◌, true, false, Some, None, refl, codes}
use Rattle.p4_tree.specs.Tree.{done}
use Rattle.p4_meaning.specs.Standard.{headers_root, metadata_root, egress_spec}
use Rattle.p4_meaning.specs.Parsing.{Field, Header}
use Rattle.p4_meaning.specs.Parts.{Parts}
use Rattle.slot_terms.specs.Places.{place_at}
use Rattle.slot_places.specs.ProgramRows.{plain_row, row_of, program_rows, first_header}
use Rattle.slot_places.specs.ProgramPlaces.{is_apart, can_place, is_root}

abbrev with_headers : List Header → Parts
with_headers hs =
    record {
      registers = [];
      headers = hs;
      metadata = record { name = codes "count"; width = 32 } ∷ [];
      states = [];
      actions = [];
      tables = [];
      verify = done;
      ingress = record { locals = done; body = done };
      egress = record { locals = done; body = done };
      compute = done;
      emits = [];
    }

abbrev header : List ℕ → List Field → Header
header x fs = record { path = headers_root ∷ x ∷ []; fields = fs }

abbrev ethernet : Header
ethernet = header (codes "eth") (record { name = codes "dst"; width = 48 } ∷ record { name = codes "kind"; width = 16 } ∷ [])

abbrev tag : Header
tag = header (codes "tag") (record { name = codes "id"; width = 8 } ∷ [])

abbrev program : Parts
program = with_headers (ethernet ∷ tag ∷ [])

-- the metadata stands behind the six of the standard metadata, and then the headers' fields
at_standard : place_at (program_rows program) egress_spec ≡ Some (plain_row egress_spec 1 9)
at_standard = refl

at_metadata : place_at (program_rows program) (metadata_root ∷ codes "count" ∷ []) ≡ Some (plain_row (metadata_root ∷ codes "count" ∷ []) 6 32)
at_metadata = refl

at_field : place_at (program_rows program) (headers_root ∷ codes "eth" ∷ codes "kind" ∷ []) ≡ Some (row_of (headers_root ∷ codes "eth" ∷ codes "kind" ∷ []) 8 16 (Some 0))
at_field = refl

at_next_header : place_at (program_rows program) (headers_root ∷ codes "tag" ∷ codes "id" ∷ []) ≡ Some (row_of (headers_root ∷ codes "tag" ∷ codes "id" ∷ []) 9 8 (Some 1))
at_next_header = refl

undeclared : place_at (program_rows program) (metadata_root ∷ codes "other" ∷ []) ≡ None
undeclared = refl

begins : first_header program ≡ 7
begins = refl

-- ten slots, and room for as many as 32 bits number
fits : can_place program 4294967285 ≡ true
fits = refl

too_much_room : can_place program 4294967286 ≡ false
too_much_room = refl

-- two headers of one path, also where they have no fields; a field that stands twice; a header that has a root's path
twice_a_header : is_apart (with_headers (header (codes "eth") [] ∷ header (codes "eth") [] ∷ [])) ≡ false
twice_a_header = refl

twice_a_field : is_apart (with_headers (header (codes "eth") (record { name = codes "id"; width = 8 } ∷ record { name = codes "id"; width = 4 } ∷ []) ∷ [])) ≡ false
twice_a_field = refl

at_a_root : is_root (metadata_root ∷ []) ≡ true
at_a_root = refl

below_a_root : is_root (headers_root ∷ codes "eth" ∷ []) ≡ false
below_a_root = refl
