-- Names with marks, of which the first of a name counts.
use Rattle.std.specs.Prelude.{◌≡◌, ℕ, List, [], ◌∷◌, ◌++◌, Bool, false, Option, Some, None, if◌then◌else◌}
use Rattle.std.specs.Borrow.{Bor}
use Rattle.lex_text.specs.Names.{same_text}
use Rattle.p4_types.specs.Kept.{at_name}
use Rattle.exit_rewriting.specs.declared.marks.Marks.{Marks}

-- a name with its mark
pub record Mark : Type 0 where
  pub name : List ℕ
  pub value : Bool

abbrev pub marked : List ℕ → Bool → Mark
marked x b = record { name = x; value = b }

-- the mark of the first of a name
abbrev pub first_mark : List Mark → List ℕ → Option Bool
first_mark [] x = None
first_mark (m ∷ ms) x = if same_text m.name x then Some m.value else first_mark ms x

abbrev pub or_false : Option Bool → Bool
or_false None = false
or_false (Some b) = b

-- what a table has at a name
abbrev pub mark_at : Marks → List ℕ → Option Bool
mark_at m x = at_name m.table.entries x

abbrev pub is_marked : Marks → List ℕ → Bool
is_marked m x = or_false (mark_at m x)

-- a text that may be there
abbrev pub as_text : Option (Bor (List ℕ)) → Option (List ℕ)
as_text None = None
as_text (Some x) = Some x.now

-- the table holds these
abbrev pub AreMarks : Marks → List Mark → Type 0
AreMarks m all = (x : List ℕ) → mark_at m x ≡ first_mark all x

-- these stand behind those before
abbrev pub Adds : (before after : Marks) → List Mark → Type 0
Adds m n more = (all : List Mark) → AreMarks m all → AreMarks n (all ++ more)

-- what each item of a list gives, one behind the other
abbrev pub from_each : {A : Type 0} → (A → List Mark) → List A → List Mark
from_each f [] = []
from_each f (a ∷ rest) = f a ++ from_each f rest
