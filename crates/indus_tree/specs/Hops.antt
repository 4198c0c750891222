-- What a hop shows, from the lists in which a network holds it. Read `Meaning` before it and `Law` after it.
use Rattle.std.specs.Prelude.{ℕ, ◌+◌, List, [], ◌∷◌, slice_get, Bool, true, false, if◌then◌else◌, Option, Some, None}
use Rattle.bit_values.specs.Bits.{Word}
use Rattle.lex_text.specs.Names.{same_text}
use Rattle.indus_tree.specs.Tree.{Decl}
use Rattle.indus_tree.specs.State.{Contents, members, Hop, nothing_of}
use Rattle.indus_tree.specs.Reads.{or_word}
use Rattle.indus_tree.specs.declared.tree.DeclKind.{DeclKind}
use Rattle.indus_tree.specs.declared.tree.DeclKind.TheVariants.{Tele, Sensor, Header, Control}

abbrev pub same_kind : DeclKind → DeclKind → Bool
same_kind Tele Tele = true
same_kind Sensor Sensor = true
same_kind Header Header = true
same_kind Control Control = true
same_kind _ _ = false

-- the place of a variable among those of its kind, in order of declaration, where n are before the first
abbrev pub seat_from : (n : ℕ) → DeclKind → List Decl → List ℕ → Option ℕ
seat_from n k [] x = None
seat_from n k (d ∷ ds) x =
    if same_text d.name x
    then (if same_kind k d.kind then Some n else None)
    else seat_from (if same_kind k d.kind then n + 1 else n) k ds x

abbrev pub seat_of : DeclKind → List Decl → List ℕ → Option ℕ
seat_of = seat_from 0

-- the number of a variable: its place among all declarations
abbrev pub variable_number_from : (n : ℕ) → List Decl → List ℕ → Option ℕ
variable_number_from n [] x = None
variable_number_from n (d ∷ ds) x = if same_text d.name x then Some n else variable_number_from (n + 1) ds x

abbrev pub variable_number : List Decl → List ℕ → Option ℕ
variable_number = variable_number_from 0

-- the word at a place of a view
abbrev pub view_word : List Word → Option ℕ → Word
view_word ws None = nothing_of 1
view_word ws (Some n) = or_word (slice_get ws n) (nothing_of 1)

-- the header variables: a view has their values in order of declaration
abbrev pub headers_in : List Decl → (view : List Word) → List ℕ → Word
headers_in ds view x = view_word view (seat_of Header ds x)

-- the contents of a number
abbrev pub contents_at : (ℕ → Contents) → Option ℕ → Contents
contents_at contents None = members []
contents_at contents (Some v) = contents v

-- the control variables: a switch has their contents by their numbers
abbrev pub contents_in : List Decl → (ℕ → Contents) → List ℕ → Contents
contents_in ds contents x = contents_at contents (variable_number ds x)

-- what a hop shows
abbrev pub hop_at : List Decl → (switch : ℕ) (first last : Bool) (view : List Word) (contents : ℕ → Contents) → Hop
hop_at ds switch first last view contents =
    record { decls = ds; headers = headers_in ds view; contents = contents_in ds contents; first = first; last = last; switch = switch }
