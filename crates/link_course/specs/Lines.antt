-- The lines of programs that are not linked. They name no file.
use Rattle.std.specs.Prelude.{ℕ, List, ◌∷◌, ◌++◌, [], codes}
use Rattle.std.specs.Fmt.{decimal}
use Rattle.link_faults.specs.Refusals.{Refusal, no_such_field, field_width, name_taken, room_short, too_large}

-- a name that is refused: that of a header variable, as it is written, or one that is taken
abbrev pub name_line : (cause name : List ℕ) → List ℕ
name_line cause name = codes "hydra: link " ++ (cause ++ (32 ∷ (name ++ 10 ∷ [])))

abbrev pub room_line : (need room : ℕ) → List ℕ
room_line need room = codes "hydra: link RoomShort " ++ (decimal need ++ (32 ∷ (decimal room ++ 10 ∷ [])))

abbrev pub weight_line : (weight : ℕ) → List ℕ
weight_line weight = codes "hydra: link TooLarge " ++ (decimal weight ++ 10 ∷ [])

abbrev pub link_line : Refusal → List ℕ
link_line (no_such_field name) = name_line (codes "NoSuchField") name
link_line (field_width name) = name_line (codes "FieldWidth") name
link_line (name_taken name) = name_line (codes "NameTaken") name
link_line (room_short need room) = room_line need room
link_line (too_large weight) = weight_line weight
