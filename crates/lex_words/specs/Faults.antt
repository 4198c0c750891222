-- What a reader of lexemes answers, in words of spelling alone, for any kind of tree. Spells: which lexemes spell a tree. height: how high a tree is. limit: how high it may be, and how many round brackets may be open behind a lexeme.
use Rattle.std.specs.Prelude.{◌≡◌, ℕ, ◌+◌, ◌≤◌, ◌<◌, ◌⊎◌, List, ◌++◌, length, take}
use Rattle.lex_text.specs.Tokens.{TokensOf}
use Rattle.lex_text.specs.declared.token.Token.{Token}
use Rattle.lex_text.specs.declared.token.Words.{Words}
use Rattle.lex_words.specs.Seen.{Lexeme, lexemes_of}
use Rattle.lex_words.specs.Brackets.{open_behind}

-- ---- lexemes

-- the lexemes of the tree begin with these
pub record Begun {T : Type 0} (Spells : T → List Lexeme → Type 0) (front : List Lexeme) (t : T) : Type 0 where
  pub back : List Lexeme
  pub spells : Spells t (front ++ back)

-- behind each front of these lexemes at most so many brackets are open
abbrev pub HasFewOpen : (limit : ℕ) → List Lexeme → Type 0
HasFewOpen limit ws = (q : ℕ) → open_behind (take q ws) ≤ limit

-- the lexemes spell the tree, which is not too high, and at no lexeme too many brackets are open
pub record IsWithin {T : Type 0} (Spells : T → List Lexeme → Type 0) (height : T → ℕ) (limit : ℕ) (ws : List Lexeme) (t : T) : Type 0 where
  pub spells : Spells t ws
  pub low : height t ≤ limit
  pub few : HasFewOpen limit ws

-- no tree goes on with the lexeme at this place; or there is none, and the lexemes spell no tree
abbrev pub IsDead : {T : Type 0} → (T → List Lexeme → Type 0) → List Lexeme → ℕ → Type 0
IsDead {T = T} Spells ws at =
    ((at < length ws) × ((t : T) → Begun Spells (take (at + 1) ws) t → ⊥))
    ⊎ ((at ≡ length ws) × ((t : T) → Spells t ws → ⊥))

-- some tree that is not too high begins with these lexemes, and at none of them too many brackets are open
pub record HasRoom {T : Type 0} (Spells : T → List Lexeme → Type 0) (height : T → ℕ) (limit : ℕ) (front : List Lexeme) : Type 0 where
  pub low : (t : T) × Begun Spells front t × (height t ≤ limit)
  pub few : HasFewOpen limit front

-- the lexemes before this place are within the limits, and no tree goes on so
pub record IsSyntax {T : Type 0} (Spells : T → List Lexeme → Type 0) (height : T → ℕ) (limit : ℕ) (ws : List Lexeme) (at : ℕ) : Type 0 where
  pub before : HasRoom Spells height limit (take at ws)
  pub dead : IsDead Spells ws at

-- each tree that begins with these lexemes is too high, or too many brackets are open behind them
abbrev pub IsPast : {T : Type 0} → (T → List Lexeme → Type 0) → (T → ℕ) → ℕ → List Lexeme → Type 0
IsPast {T = T} Spells height limit front = ((t : T) → Begun Spells front t → limit < height t) ⊎ (limit < open_behind front)

-- some tree begins with the lexemes up to this place, the lexemes before it are within the limits, and those up to it are not
pub record IsTooDeep {T : Type 0} (Spells : T → List Lexeme → Type 0) (height : T → ℕ) (limit : ℕ) (ws : List Lexeme) (at : ℕ) : Type 0 where
  pub inside : at < length ws
  pub begun : (t : T) × Begun Spells (take (at + 1) ws) t
  pub before : HasRoom Spells height limit (take at ws)
  pub past : IsPast Spells height limit (take (at + 1) ws)

-- ---- fronts of lists

-- The first n lexemes spell the tree, which is within the limits, and no tree begins with them and the lexeme behind them.
pub record IsFront {T : Type 0} (Spells : T → List Lexeme → Type 0) (height : T → ℕ) (limit : ℕ) (ws : List Lexeme) (n : ℕ) (t : T) : Type 0 where
  pub inside : n ≤ length ws
  pub within : IsWithin Spells height limit (take n ws) t
  pub last : n < length ws → (s : T) → Begun Spells (take (n + 1) ws) s → ⊥

-- no tree goes on with the lexeme at this place, and those before it, which are within the limits, spell none
pub record IsNoFront {T : Type 0} (Spells : T → List Lexeme → Type 0) (height : T → ℕ) (limit : ℕ) (ws : List Lexeme) (at : ℕ) : Type 0 where
  pub syntax : IsSyntax Spells height limit ws at
  pub none : (t : T) → Spells t (take at ws) → ⊥

-- ---- texts

-- the lexemes of the text's tokens are so
pub record OfLexemes (language : Words) (P : List Lexeme → Type 0) (text : List ℕ) : Type 0 where
  pub list : List Token
  pub tokens : TokensOf language text list
  pub holds : P (lexemes_of language text list)
