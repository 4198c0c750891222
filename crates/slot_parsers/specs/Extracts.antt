-- Steps that do what extracts and assignments mean. Read `Parses` before it.
use Rattle.std.specs.Prelude.{◌≡◌, ℕ, List, [], ◌∷◌, true, false, Option, Some, None}
use Rattle.bit_values.specs.Widths.{sound_width}
use Rattle.p4_tree.specs.Tree.{Expr, path, Arg, one, assign, call}
use Rattle.p4_meaning.specs.Standard.{is_assignable}
use Rattle.p4_meaning.specs.Parsing.{Header}
use Rattle.p4_meaning.specs.Parts.{Parts}
use Rattle.slot_terms.specs.Typed.{Typed}
use Rattle.slot_terms.specs.Places.{Place, Places, place_at, header_number, IsLaid, Fills}
use Rattle.slot_statements.specs.Codes.{set}
use Rattle.slot_places.specs.ProgramPlaces.{AreProgramPlaces}
use Rattle.slot_places.specs.HeaderSlots.{HeaderSlots}
use Rattle.slot_parsers.specs.ParserCodes.{Step, pass, assigns, takes}
use Rattle.slot_parsers.specs.Parses.{DoesStep, heads_of}

-- the extract of the header of a number; of none nothing is done
abbrev pub extract_step : Option ℕ → Step
extract_step None = pass
extract_step (Some n) = takes n

-- the extract of the header at a path
abbrev pub extract_of : Places → List (List ℕ) → Step
extract_of m names = extract_step (header_number m.headers names)

-- a call in a state
abbrev pub call_of : Places → List Arg → Step
call_of m (one p (path q names) ∷ []) = extract_of m names
call_of m _ = pass

-- a step does what an assignment means, whatever the headers are
abbrev pub DoesAssign : Places → Step → List (List ℕ) → Expr → Type 0
DoesAssign m c target e = (heads : List HeaderSlots) (hs : List Header) → DoesStep m heads hs c (assign 0 target e)

-- by the places of a program the step of a call does what the call means in a state
abbrev pub ExtractsDo : Type 0
ExtractsDo = (p : Parts) (m : Places) → AreProgramPlaces p m → (at : ℕ) (callee : List (List ℕ)) (args : List Arg) → DoesStep m (heads_of p) p.headers (call_of m args) (call at callee args)

-- a write to the slot of a path, of a term that fills it, does what the assignment means; and nothing does what one means to
-- what no statement may write
abbrev pub AssignmentsDo : Type 0
AssignmentsDo =
    (m : Places) (target : List (List ℕ)) (r : Place) (e : Expr) (t : Typed) → IsLaid m → place_at m.rows target ≡ Some r → is_assignable target ≡ true → t.width ≡ sound_width r.width → Fills m e r.width t
    → DoesAssign m (assigns (set r.slot r.header t.term)) target e

abbrev pub FixedPathsStay : Type 0
FixedPathsStay = (m : Places) (target : List (List ℕ)) (e : Expr) → is_assignable target ≡ false → DoesAssign m pass target e
