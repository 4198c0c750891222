-- What variables hold at the start: the packet's at its first hop, and a switch's before any packet. Read `State`
-- before it and `Operators` after it.
use Rattle.std.specs.Prelude.{ℕ, zero, suc, List, [], ◌∷◌, Option, Some, None}
use Rattle.bit_values.specs.Bits.{Word, word, cast}
use Rattle.bit_values.specs.Widths.{bit, sound_width, cast_word}
use Rattle.indus_tree.specs.Tree.{Shape, one, list, set, dict, Expr, num, flag, Decl}
use Rattle.indus_tree.specs.State.{lookup, width_of, shape_width, nothing_of}

-- what a `tele` variable of a shape holds at the start: a scalar is 0 or false, and a list is empty
abbrev pub start_of_shape : Shape → List Word
start_of_shape (one t) = nothing_of (width_of t) ∷ []
start_of_shape (list t n) = []
start_of_shape (set ks) = []
start_of_shape (dict ks t) = []

-- what a declared variable holds at the start
abbrev pub start_of_decl : Option Decl → List Word
start_of_decl None = []
start_of_decl (Some d) = start_of_shape d.shape

-- the `tele` variables of a packet at its first hop
abbrev pub tele_start : List Decl → List ℕ → List Word
tele_start ds x = start_of_decl (lookup ds x)

-- the written initial value in a width; 0 or false where none is written
abbrev pub start_word : Option Expr → ℕ → Word
start_word (Some (num p n)) w = word (sound_width w) (cast (sound_width w) n.value)
start_word (Some (flag p b)) w = cast_word (sound_width w) (bit b)
start_word _ w = nothing_of w

-- so many cells that hold the same word
abbrev pub cells : ℕ → Word → List Word
cells zero w = []
cells (suc n) w = w ∷ cells n w

-- what a sensor of a shape holds at the start: each cell of an array the initial value
abbrev pub sensor_of_shape : Shape → Word → List Word
sensor_of_shape (one t) w = w ∷ []
sensor_of_shape (list t n) w = cells n w
sensor_of_shape (set ks) w = []
sensor_of_shape (dict ks t) w = []

abbrev pub sensor_of_decl : Option Decl → List Word
sensor_of_decl None = []
sensor_of_decl (Some d) = sensor_of_shape d.shape (start_word d.start (shape_width d.shape))

-- the sensors of a switch before any packet
abbrev pub sensors_start : List Decl → List ℕ → List Word
sensors_start ds x = sensor_of_decl (lookup ds x)
