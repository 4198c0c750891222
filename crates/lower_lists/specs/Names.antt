-- The names of numbered scalars, and names that are none.
use Rattle.std.specs.Prelude.{ℕ, List, [], ◌∷◌, Bool, true, not}
use Rattle.lex_text.specs.NameToken.{is_digit}
unfoldable pub use Rattle.list_pushes.specs.Names.{item_name, count_name}

-- a name that begins with no digit, as each that a text declares. It is the name of no numbered scalar
abbrev pub is_plain : List ℕ → Bool
is_plain [] = true
is_plain (b ∷ bs) = not (is_digit b)
