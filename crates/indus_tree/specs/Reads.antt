-- What names read: an expression sees a hop, the items of loops, and the packet's and the switch's variables. Read
-- `State` and `Operators` before it and `Keys` after it.
use Rattle.std.specs.Prelude.{codes, ℕ, List, [], ◌∷◌, if◌then◌else◌, Option, Some, None}
use Rattle.bit_values.specs.Bits.{Word, word, cast}
use Rattle.bit_values.specs.Widths.{bit}
use Rattle.lex_text.specs.Names.{same_text}
use Rattle.indus_tree.specs.Tree.{Decl}
use Rattle.indus_tree.specs.State.{Contents, single, members, pairs, Hop, lookup, held_width, nothing_of}
use Rattle.indus_tree.specs.declared.tree.DeclKind.{DeclKind}
use Rattle.indus_tree.specs.declared.tree.DeclKind.TheVariants.{Tele, Sensor, Header, Control}

-- the items of the loops around, by their names, those of the outermost loop first. In a well-typed property the
-- names differ
abbrev pub Items : Type 0
Items = List (List ℕ × Word)

-- what an expression sees
pub record Seen : Type 0 where
  pub hop : Hop
  pub items : Items
  pub tele : List ℕ → List Word
  pub sensors : List ℕ → List Word

-- a scalar's word, and 0 of the declared width where nothing is held
abbrev pub scalar : List Word → ℕ → Word
scalar [] w = nothing_of w
scalar (x ∷ xs) w = x

-- the word of a scalar control variable
abbrev pub single_word : Contents → ℕ → Word
single_word (single x) w = x
single_word (members ks) w = nothing_of w
single_word (pairs es) w = nothing_of w

-- the word of a variable of a kind, whose values have w bits
abbrev pub word_by_kind : DeclKind → Seen → List ℕ → (w : ℕ) → Word
word_by_kind Tele s x w = scalar (s.tele x) w
word_by_kind Sensor s x w = scalar (s.sensors x) w
word_by_kind Header s x w = s.hop.headers x
word_by_kind Control s x w = single_word (s.hop.contents x) w

-- the word of a name that each property has without a declaration
abbrev pub built_in_word : Hop → List ℕ → Word
built_in_word h x =
    if same_text x (codes "first_hop") then bit h.first
    else if same_text x (codes "last_hop") then bit h.last
    else if same_text x (codes "switch_id") then word 16 (cast 16 h.switch)
    else nothing_of 0

-- the word of a variable, or of a built-in name
abbrev pub variable_word : Seen → List ℕ → Option Decl → Word
variable_word s x None = built_in_word s.hop x
variable_word s x (Some d) = word_by_kind d.kind s x (held_width (Some d))

-- the item of a name, where there is one
abbrev pub item_in : Items → List ℕ → Option Word
item_in [] x = None
item_in (i ∷ is) x = if same_text i.0 x then Some i.1 else item_in is x

abbrev pub or_word : Option Word → Word → Word
or_word None w = w
or_word (Some v) w = v

-- the value of a name
abbrev pub name_word : Seen → List ℕ → Word
name_word s x = or_word (item_in s.items x) (variable_word s x (lookup s.hop.decls x))
