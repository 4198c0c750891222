-- What keys read: cells of arrays, items of lists, members of sets and values of dicts. Read `Reads` before it and
-- `Value` after it.
use Rattle.std.specs.Prelude.{ℕ, List, [], ◌∷◌, slice_get, Bool, false, ◌||◌, if◌then◌else◌, nat_eq, Option, Some, None}
use Rattle.std.specs.Cmp.Lexicographic.{pointwise}
use Rattle.bit_values.specs.Bits.{Word}
use Rattle.bit_values.specs.Widths.{either_width}
use Rattle.indus_tree.specs.Tree.{Shape, one, list, set, dict, Decl}
use Rattle.indus_tree.specs.State.{Contents, single, members, pairs, width_of, held_width, nothing_of}
use Rattle.indus_tree.specs.Reads.{Seen, or_word}
use Rattle.indus_tree.specs.declared.tree.DeclKind.{DeclKind}
use Rattle.indus_tree.specs.declared.tree.DeclKind.TheVariants.{Tele, Sensor, Header, Control}
use Rattle.indus_tree.specs.declared.tree.Ty.{Ty}

-- the two keys have the same parts. Parts of one place have one width
abbrev pub same_words : List Word → List Word → Bool
same_words = pointwise (λ (a b : Word). nat_eq a.value b.value)

-- a list has an item
abbrev pub has_item : List Word → Word → Bool
has_item [] w = false
has_item (x ∷ xs) w = nat_eq x.value w.value || has_item xs w

-- a set has a key
abbrev pub has_key : List (List Word) → List Word → Bool
has_key [] k = false
has_key (x ∷ xs) k = same_words x k || has_key xs k

-- what a dict has at a key. A missing key gives 0 or false
abbrev pub found : List (List Word × Word) → List Word → (w : ℕ) → Word
found [] k w = nothing_of w
found (e ∷ es) k w = if same_words e.0 k then e.1 else found es k w

abbrev pub found_in : Contents → List Word → (w : ℕ) → Word
found_in (single x) k w = nothing_of w
found_in (members ks) k w = nothing_of w
found_in (pairs es) k w = found es k w

abbrev pub held_in : Contents → List Word → Bool
held_in (single x) k = false
held_in (members ks) k = has_key ks k
held_in (pairs es) k = false

-- the cell of an array. A read out of range gives 0 or false
abbrev pub cell_at : List Word → List Word → (w : ℕ) → Word
cell_at ws [] w = nothing_of w
cell_at ws (k ∷ ks) w = or_word (slice_get ws k.value) (nothing_of w)

-- what a variable of a kind has at a key: a sensor array its cell, a dict its value
abbrev pub at_key_by_kind : DeclKind → Seen → List ℕ → List Word → (w : ℕ) → Word
at_key_by_kind Tele s x k w = nothing_of w
at_key_by_kind Sensor s x k w = cell_at (s.sensors x) k w
at_key_by_kind Header s x k w = nothing_of w
at_key_by_kind Control s x k w = found_in (s.hop.contents x) k w

abbrev pub at_key : Seen → List ℕ → Option Decl → List Word → Word
at_key s x None k = nothing_of 0
at_key s x (Some d) k = at_key_by_kind d.kind s x k (held_width (Some d))

-- a list has the key's one part
abbrev pub has_first : List Word → List Word → Bool
has_first ws [] = false
has_first ws (k ∷ ks) = has_item ws k

-- a variable of a kind has a key: a list an item, a set a key
abbrev pub has_by_kind : DeclKind → Seen → List ℕ → List Word → Bool
has_by_kind Tele s x k = has_first (s.tele x) k
has_by_kind Sensor s x k = false
has_by_kind Header s x k = false
has_by_kind Control s x k = held_in (s.hop.contents x) k

abbrev pub has : Seen → List ℕ → Option Decl → List Word → Bool
has s x None k = false
has s x (Some d) k = has_by_kind d.kind s x k

-- the widths of types
abbrev pub widths : List Ty → List ℕ
widths [] = []
widths (t ∷ ts) = width_of t ∷ widths ts

-- the widths that the places of a key's parts give, in brackets behind a name. An array's index may have any width
abbrev pub index_widths : Shape → List ℕ
index_widths (one t) = []
index_widths (list t n) = []
index_widths (set ks) = widths ks
index_widths (dict ks t) = widths ks

-- the same at the left of `in`: a list's item has one part
abbrev pub member_widths : Shape → List ℕ
member_widths (one t) = []
member_widths (list t n) = width_of t ∷ []
member_widths (set ks) = widths ks
member_widths (dict ks t) = widths ks

abbrev pub widths_for : (Shape → List ℕ) → Option Decl → List ℕ
widths_for f None = []
widths_for f (Some d) = f d.shape

-- the width of the first part's place, which has v bits of its own; where none is given, a bare number has 128
abbrev pub first_width : List ℕ → (v : ℕ) → ℕ
first_width [] v = either_width v 128
first_width (w ∷ ws) v = w

abbrev pub other_widths : List ℕ → List ℕ
other_widths [] = []
other_widths (w ∷ ws) = ws
