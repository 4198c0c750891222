-- Which slots paths have, when slots show a store, and what a term means. Read `Typed` before it, and `Store` and `Value`
-- of the trees' meaning; `Known` after it.
use Rattle.std.specs.Prelude.{◌≡◌, ℕ, suc, ◌+◌, ◌<◌, ◌≤◌, nat_le, length, List, [], ◌∷◌, ◌++◌, map, Bool, true, ◌||◌, is_some, Option, Some, None, if◌then◌else◌}
use Rattle.std.specs.Option.{option_map}
use Rattle.std.specs.Global.{Vec}
use Rattle.bit_values.specs.Bits.{word, IsWord}
use Rattle.bit_values.specs.Widths.{sound_width, cast_word}
use Rattle.lex_text.specs.Names.{same_path, parent}
use Rattle.p4_tree.specs.Tree.{Expr}
use Rattle.p4_meaning.specs.Store.{Store}
use Rattle.p4_meaning.specs.Value.{value_of}
use Rattle.slot_terms.specs.Terms.{Term, slot, field, number_in, valid_at}
use Rattle.slot_terms.specs.Typed.{Typed, Gives}
use Rattle.slot_terms.specs.declared.places.Place as code_place
use Rattle.slot_terms.specs.declared.places.Places as code_places

-- where a path has its number: the slot, how many bits it has, and of a header's field the number of the header
pub record Place : Type 0 where
  pub path : List (List ℕ)
  pub slot : ℕ
  pub width : ℕ
  pub header : Option ℕ

-- the same as the code has it
abbrev pub place_of : code_place.Place → Place
place_of p = record { path = p.path.items; slot = p.slot; width = p.width; header = p.header }

-- the names of a path
abbrev pub path_of : Vec (List ℕ) → List (List ℕ)
path_of v = v.items

-- the places in sight, the paths of the headers by their numbers, the slot of the next place, and how many slots there are
pub record Places : Type 0 where
  pub rows : List Place
  pub headers : List (List (List ℕ))
  pub next : ℕ
  pub size : ℕ

-- the same as the code has it
abbrev pub places_of : code_places.Places → Places
places_of p = record { rows = map place_of p.rows.items; headers = map path_of p.headers.items; next = p.next; size = p.size }

-- the first place of a path
abbrev pub place_at : List Place → List (List ℕ) → Option Place
place_at [] p = None
place_at (r ∷ rs) p = if same_path r.path p then Some r else place_at rs p

-- the number of the header at a path
abbrev pub header_number : List (List (List ℕ)) → List (List ℕ) → Option ℕ
header_number [] h = None
header_number (x ∷ xs) h = if same_path x h then Some 0 else option_map suc (header_number xs h)

-- places are laid out: no two paths have one slot, and the slots from the next one on are free
pub record IsLaid (m : Places) : Type 0 where
  pub below : (p : List (List ℕ)) (r : Place) → place_at m.rows p ≡ Some r → r.slot < m.next
  pub single : (p q : List (List ℕ)) (r t : Place) → place_at m.rows p ≡ Some r → place_at m.rows q ≡ Some t → r.slot ≡ t.slot → p ≡ q
  pub within : m.next ≤ m.size

-- a path has a place already, or no slot is left
abbrev pub IsFull : Places → List (List ℕ) → Type 0
IsFull m p = (is_some (place_at m.rows p) || nat_le m.size m.next) ≡ true

-- a path that had no place has the next slot, and nothing else changes
pub record IsAdded (m n : Places) (p : List (List ℕ)) (width : ℕ) (header : Option ℕ) (slot : ℕ) : Type 0 where
  pub room : m.next < m.size
  pub unknown : place_at m.rows p ≡ None
  pub at : slot ≡ m.next
  pub rows : n.rows ≡ m.rows ++ record { path = p; slot = slot; width = width; header = header } ∷ []
  pub headers : n.headers ≡ m.headers
  pub next : n.next ≡ m.next + 1
  pub size : n.size ≡ m.size

-- ---- slots that show a store

-- whether the header of a number is valid, where there is one
abbrev pub header_at : List Bool → Option ℕ → Option Bool
header_at valid None = None
header_at valid (Some n) = Some (valid_at valid n)

-- what a place reads, as a term
abbrev pub place_term : (slot : ℕ) → Option ℕ → Term
place_term i None = slot i
place_term i (Some h) = field i h

-- the slot of a place has the number of the word that a path has, which has the place's width; and the header that the
-- place names is the path's own
pub record ShowsPlace (slots : List ℕ) (valid : List Bool) (r : Place) (s : Store) (p : List (List ℕ)) : Type 0 where
  pub is : s.values p ≡ word r.width (number_in slots r.slot)
  pub word : IsWord (s.values p)
  pub above : s.headers (parent p) ≡ header_at valid r.header

-- the slots show the word of each path in a store, of a field of an invalid header too, and which headers are valid
pub record Shows (m : Places) (slots : List ℕ) (valid : List Bool) (s : Store) : Type 0 where
  pub values : (p : List (List ℕ)) (r : Place) → place_at m.rows p ≡ Some r → ShowsPlace slots valid r s p
  pub headers : (h : List (List ℕ)) (n : ℕ) → header_number m.headers h ≡ Some n → s.headers h ≡ Some (valid_at valid n)

-- the slots follow a store: they show it; no header has the empty path; and there are as many as the places say
pub record Follows (m : Places) (slots : List ℕ) (valid : List Bool) (s : Store) : Type 0 where
  pub shows : Shows m slots valid s
  pub bare : s.headers [] ≡ None
  pub room : length slots ≡ m.size

-- ---- what is made of expressions

-- over slots that show a store, it gives the value that the expression has in the store, where its place gives the width w
abbrev pub Means : Places → Expr → (w : ℕ) → Typed → Type 0
Means m e w t = (slots : List ℕ) (valid : List Bool) (s : Store) → Shows m slots valid s → Gives t slots valid (value_of e w s)

-- the same, cut or widened to the place
abbrev pub Fills : Places → Expr → (w : ℕ) → Typed → Type 0
Fills m e w t = (slots : List ℕ) (valid : List Bool) (s : Store) → Shows m slots valid s → Gives t slots valid (cast_word (sound_width w) (value_of e w s))
