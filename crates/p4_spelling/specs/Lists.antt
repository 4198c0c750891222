-- Lists of anything that is spelled. S: which lexemes spell an item whose first lexeme has the number p.
use Rattle.std.specs.Prelude.{ℕ, ◌+◌, List, [], ◌∷◌, ◌++◌, length}
use Rattle.lex_words.specs.Seen.{Lexeme, key}
use Rattle.lex_words.specs.declared.key.Key.TheVariants.{Comma}

-- one item or more, with commas between them
pub data SpellsList {A : Type 0} (S : (p : ℕ) → A → List Lexeme → Type 0) : (p : ℕ) → List A → List Lexeme → Type 0 where
  last : {p : ℕ} {a : A} {u : List Lexeme} → S p a u → SpellsList S p (a ∷ []) u
  then : {p : ℕ} {a : A} {rest : List A} {u v : List Lexeme} → S p a u → SpellsList S (p + length u + 1) rest v → SpellsList S p (a ∷ rest) (u ++ key Comma ∷ v)

-- the same, or nothing
pub data SpellsSome {A : Type 0} (S : (p : ℕ) → A → List Lexeme → Type 0) : (p : ℕ) → List A → List Lexeme → Type 0 where
  no_item : {p : ℕ} → SpellsSome S p [] []
  items : {p : ℕ} {list : List A} {u : List Lexeme} → SpellsList S p list u → SpellsSome S p list u

-- any number of items, one behind the other
pub data SpellsEach {A : Type 0} (S : (p : ℕ) → A → List Lexeme → Type 0) : (p : ℕ) → List A → List Lexeme → Type 0 where
  no_more : {p : ℕ} → SpellsEach S p [] []
  one_more : {p : ℕ} {a : A} {rest : List A} {u v : List Lexeme} → S p a u → SpellsEach S (p + length u) rest v → SpellsEach S p (a ∷ rest) (u ++ v)
