-- The tables of a switch beside those of its program. Read `Programs` and `Named` of `p4_tables` before it.
use Rattle.std.specs.Prelude.{List, [], ◌∷◌, length, Bool, true, false, ◌&&◌, nat_lt}
use Rattle.p4_meaning.specs.Tables as meaning
use Rattle.p4_meaning.specs.Tables.{Table}
use Rattle.table_shapes.specs.Shapes.{Shape, has_ternary}

abbrev pub same_truth : Bool → Bool → Bool
same_truth true b = b
same_truth false true = false
same_truth false false = true

-- there are as many, and each has a ternary key where the program's has one
abbrev pub are_for : List Table → List Shape → Bool
are_for [] [] = true
are_for [] (s ∷ ss) = false
are_for (t ∷ ts) [] = false
are_for (t ∷ ts) (s ∷ ss) = same_truth (has_ternary s.keys) (meaning.has_ternary t.keys) && are_for ts ss

-- and 32 bits number them
abbrev pub fits_in : List Table → List Shape → Bool
fits_in ts ss = are_for ts ss && nat_lt (length ts) 4294967296
