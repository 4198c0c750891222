-- Rows on the definitions: stores that fit and stores that do not, and where a run of a parser comes to.
use Rattle.std.proofs.Common.{ℕ, List, [], ◌∷◌, codes, refl, arith}
use Rattle.bit_values.specs.Bits.{word}
use Rattle.p4_tree.specs.Tree.{nothing, nowhere, ParserState}
use Rattle.p4_meaning.specs.Standard.{headers_root, egress_spec}
use Rattle.p4_meaning.specs.Store.{Store, blank, set_value}
use Rattle.p4_meaning.specs.Parsing.{Header, Reading}
use Rattle.p4_meaning.specs.Parts.{Parts}
use Rattle.passage_stores.specs.FitStores.{HeadersFit, IsFit}
use Rattle.passage_stores.specs.SeenStores.{AlongParse}

-- nothing is declared in a blank store, so it fits no program
blank_fits_none : (p : Parts) → IsFit p blank → ⊥
blank_fits_none p h = (let w = h.standard.entry.width in cc)

-- a word that is out of range
too_great : (p : Parts) (st : Store) → IsFit p (set_value st egress_spec (word 9 512)) → ⊥
too_great p st h = (let r = h.standard.spec.word.in_range in absurd (omega (arith, r)))

-- a word of another width
too_wide : (p : Parts) (st : Store) → IsFit p (set_value st egress_spec (word 16 1)) → ⊥
too_wide p st h = (let w = h.standard.spec.width in cc)

-- a header with one field of 8 bits, whose path has the word 5 of 8 bits, and of 4 bits
abbrev one_header : Header
one_header = record { path = headers_root ∷ codes "h" ∷ []; fields = record { name = codes "f"; width = 8 } ∷ [] }

abbrev at_field : List (List ℕ)
at_field = headers_root ∷ codes "h" ∷ codes "f" ∷ []

field_fits : HeadersFit (one_header ∷ []) (set_value blank at_field (word 8 5))
field_fits = ((record { word = record { wide = omega arith; narrow = omega arith; in_range = omega arith }; width = refl }, tt), tt)

narrow_field : HeadersFit (one_header ∷ []) (set_value blank at_field (word 4 5)) → ⊥
narrow_field h = (let w = h.0.0.width in cc)

-- the run of a parser comes to the statement of its first state
abbrev one_state : ParserState
one_state = record { at = 0; name = codes "start"; body = nothing 0 ∷ []; next = nowhere 0 }

comes_there : (r : Reading) → AlongParse [] (λ q. ⊥) (one_state ∷ []) r → ⊥
comes_there r h = ((h refl (one_state, []) refl).0.0).0
