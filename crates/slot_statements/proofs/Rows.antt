-- Worked rows: what code does, over slots that hold 7, 8, 9 and headers of which the first is valid and the second is not.
use Rattle.std.proofs.Common.{◌≡◌, ℕ, [], ◌∷◌, true, false, Some, None, refl}
use Rattle.p4_meaning.specs.Statements.{Go, Return}
use Rattle.bit_values.specs.Bits.{word}
use Rattle.slot_terms.specs.States.{State}
use Rattle.slot_terms.specs.Terms.{constant}
use Rattle.slot_statements.specs.Codes.{Code, Codes, done, next, set, branch, returns, exits, exec_all}
use Rattle.slot_statements.specs.Actions.{bind_words}

abbrev holding : (x y z : ℕ) → State
holding x y z = record { slots = x ∷ y ∷ z ∷ []; valid = true ∷ false ∷ [] }

abbrev one : Code → Codes
one c = next c done

-- a variable, a field of a valid header, and one of an invalid header
variable_is_set : exec_all (one (set 0 None (constant 5))) (holding 7 8 9) ≡ (holding 5 8 9, Go)
variable_is_set = refl

field_is_set : exec_all (one (set 1 (Some 0) (constant 5))) (holding 7 8 9) ≡ (holding 7 5 9, Go)
field_is_set = refl

invalid_field_is_not_set : exec_all (one (set 1 (Some 1) (constant 5))) (holding 7 8 9) ≡ (holding 7 8 9, Go)
invalid_field_is_not_set = refl

-- return ends what follows
return_by_itself : exec_all (next (branch (constant 1) returns exits) (one (set 1 None (constant 2)))) (holding 7 8 9) ≡ (holding 7 8 9, Return)
return_by_itself = refl

-- a parameter of 4 bits, in slot 2: its word is cut, and 0 where it is wanting
word_is_cut : bind_words ((2, 15) ∷ []) (word 8 171 ∷ []) (holding 7 8 9) ≡ holding 7 8 11
word_is_cut = refl

wanting_word : bind_words ((2, 15) ∷ []) [] (holding 7 8 9) ≡ holding 7 8 0
wanting_word = refl
