-- Full names with marks, kept by the controls that declare them: a full name is the plain one, a point and the control. Read
-- `Marks` before it.
use Rattle.std.specs.Prelude.{◌≡◌, ℕ, List, [], ◌∷◌, ◌++◌, Bool, Option, Some, None, if◌then◌else◌}
use Rattle.std.specs.Option.{option_or}
use Rattle.lex_text.specs.Names.{same_text}
use Rattle.p4_meaning.specs.Scope.{full}
use Rattle.exit_rewriting.specs.declared.marks.Marks.{Marks}
use Rattle.exit_rewriting.specs.declared.groups.Group.{Group}
use Rattle.exit_rewriting.specs.declared.groups.Groups.{Groups}
use Rattle.exit_rewriting.specs.Marks.{Mark, marked, first_mark, or_false, mark_at}

abbrev pub behind_byte : ℕ → Option (List ℕ) → Option (List ℕ)
behind_byte b None = None
behind_byte b (Some bs) = Some (b ∷ bs)

-- what stands before an end, where the text has it
abbrev pub front_by : (end x : List ℕ) → Option (List ℕ)
front_by end [] = if same_text [] end then Some [] else None
front_by end (b ∷ bs) = if same_text (b ∷ bs) end then Some [] else behind_byte b (front_by end bs)

abbrev pub before_point : Option (List ℕ) → Option (List ℕ)
before_point None = None
before_point (Some x) = front_by (46 ∷ []) x

-- the plain name, where the text is a full name of the control
abbrev pub front_of : (control x : List ℕ) → Option (List ℕ)
front_of c x = before_point (front_by c x)

abbrev pub mark_if : Marks → Option (List ℕ) → Option Bool
mark_if m None = None
mark_if m (Some x) = mark_at m x

-- what a control's marks have at a full name
abbrev pub mark_in : Group → List ℕ → Option Bool
mark_in g x = mark_if g.marks (front_of g.control x)

-- what the first control with the full name has
abbrev pub first_in : List Group → List ℕ → Option Bool
first_in [] x = None
first_in (g ∷ gs) x = option_or (mark_in g x) (first_in gs x)

abbrev pub is_marked_in : Groups → List ℕ → Bool
is_marked_in g x = or_false (first_in g.groups.items x)

-- a mark by its full name
abbrev pub fulled : (control : List ℕ) → Mark → Mark
fulled c m = marked (full c m.name) m.value

-- the controls' marks are these
abbrev pub AreGroups : Groups → List Mark → Type 0
AreGroups g all = (x : List ℕ) → first_in g.groups.items x ≡ first_mark all x

-- these stand behind those before
abbrev pub Grows : (before after : Groups) → List Mark → Type 0
Grows g h more = (all : List Mark) → AreGroups g all → AreGroups h (all ++ more)
