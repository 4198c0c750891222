-- What a hop shows a property, and what the property's statements change, by the names of variables. Statements
-- work on the `Doing` of the network law. Read `Tree` and `network_run`'s `PathMeaning` before it, and `Start` after
-- it.
use Rattle.std.specs.Prelude.{ℕ, List, [], ◌∷◌, ◌++◌, length, slice_set, Bool, nat_lt, if◌then◌else◌, Option, Some, None}
use Rattle.bit_values.specs.Bits.{Word, word}
use Rattle.bit_values.specs.Widths.{sound_width}
use Rattle.lex_text.specs.Names.{same_text}
use Rattle.network_run.specs.PathMeaning.{Doing}
use Rattle.indus_tree.specs.Tree.{Shape, one, list, set, dict, Decl}
use Rattle.indus_tree.specs.declared.tree.DeclKind.{DeclKind}
use Rattle.indus_tree.specs.declared.tree.DeclKind.TheVariants.{Tele, Sensor, Header, Control}
use Rattle.indus_tree.specs.declared.tree.Ty.{Ty}
use Rattle.indus_tree.specs.declared.tree.Ty.TheVariants as ty

-- what the control plane set a variable to: one value, the keys of a set, or those of a dict with their values
pub data Contents : Type 0 where
  single : (value : Word) → Contents
  members : (keys : List (List Word)) → Contents
  pairs : (entries : List (List Word × Word)) → Contents

-- what a hop shows: the property's declarations, the header variables in the packet's state there, the control
-- variables at the switch, whether the hop is the packet's first or last, and the switch
pub record Hop : Type 0 where
  pub decls : List Decl
  pub headers : List ℕ → Word
  pub contents : List ℕ → Contents
  pub first : Bool
  pub last : Bool
  pub switch : ℕ

-- the words that each variable of a packet or of a switch holds: a list of them, and a scalar a list of one
abbrev pub Held : Type 0
Held = List ℕ → List Word

-- the declaration of a name, where there is one
abbrev pub lookup : List Decl → List ℕ → Option Decl
lookup [] x = None
lookup (d ∷ ds) x = if same_text d.name x then Some d else lookup ds x

-- the bits of a value of a type; a truth value is one bit
abbrev pub width_of : Ty → ℕ
width_of (ty.Bit w) = w
width_of ty.Bool = 1

-- the bits of one value of a shape: itself, an item, a cell, or a dict's value
abbrev pub shape_width : Shape → ℕ
shape_width (one t) = width_of t
shape_width (list t n) = width_of t
shape_width (set ks) = 1
shape_width (dict ks t) = width_of t

-- the bits of one value of a declared variable, and 0 where it is not declared
abbrev pub held_width : Option Decl → ℕ
held_width None = 0
held_width (Some d) = shape_width d.shape

-- how many items a list holds at most
abbrev pub shape_size : Shape → ℕ
shape_size (one t) = 0
shape_size (list t n) = n
shape_size (set ks) = 0
shape_size (dict ks t) = 0

-- 0 or false of a width
abbrev pub nothing_of : ℕ → Word
nothing_of w = word (sound_width w) 0

-- the variables, where one name holds other words
abbrev pub put : Held → List ℕ → List Word → Held
put f x ws = λ y. if same_text x y then ws else f y

-- the words, where one cell is another. A write out of range changes nothing
abbrev pub put_cell : List Word → ℕ → Word → List Word
put_cell ws n w = if nat_lt n (length ws) then slice_set ws n w else ws

-- the words, with one more behind them where there is room. A push onto a full list changes nothing
abbrev pub pushed : (size : ℕ) → List Word → Word → List Word
pushed size ws w = if nat_lt (length ws) size then ws ++ w ∷ [] else ws

-- a cell of a variable of a kind takes a word. Header and control variables are not written
abbrev pub set_by_kind : DeclKind → List ℕ → ℕ → Word → Doing Held Held → Doing Held Held
set_by_kind Tele x n w d = record d { tele = put d.tele x (put_cell (d.tele x) n w) }
set_by_kind Sensor x n w d = record d { sensors = put d.sensors x (put_cell (d.sensors x) n w) }
set_by_kind Header x n w d = d
set_by_kind Control x n w d = d

-- a cell of a declared variable takes a word
abbrev pub set_cell : Option Decl → List ℕ → ℕ → Word → Doing Held Held → Doing Held Held
set_cell None x n w d = d
set_cell (Some v) x n w d = set_by_kind v.kind x n w d

-- a list of the packet's takes a word as its last item, where it has room
abbrev pub push_by_kind : DeclKind → (size : ℕ) → List ℕ → Word → Doing Held Held → Doing Held Held
push_by_kind Tele size x w d = record d { tele = put d.tele x (pushed size (d.tele x) w) }
push_by_kind Sensor size x w d = d
push_by_kind Header size x w d = d
push_by_kind Control size x w d = d

abbrev pub push_item : Option Decl → List ℕ → Word → Doing Held Held → Doing Held Held
push_item None x w d = d
push_item (Some v) x w d = push_by_kind v.kind (shape_size v.shape) x w d
