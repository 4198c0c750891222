-- Reading lexemes from left to right, with one lexeme of choice: what a reader gives, and its steps. A reader is a function of the list of lexemes and a place in it.
use Rattle.std.specs.Prelude.{◌≡◌, ℕ, zero, suc, ◌+◌, List, [], ◌∷◌, length, Option, Some, None, Result, Ok, Err, if◌then◌else◌, slice_get, nat_lt}
use Rattle.lex_text.specs.declared.literal.Literal.{Literal}
use Rattle.lex_words.specs.Seen.{Lexeme, name_in, number_in, at_key, at_name}
use Rattle.lex_words.specs.declared.halt.Halt.{Halt}
use Rattle.lex_words.specs.declared.halt.Halt.TheVariants as halt
use Rattle.lex_words.specs.declared.key.Key.{Key}
use Rattle.lex_words.specs.declared.key.Key.TheVariants.{Open}

-- where reading stopped, and why: no tree goes on with this lexeme; each one that does is too high; too many brackets are open; or the given number of turns was too small
pub data Fault : Type 0 where
  wrong : (at : ℕ) → Fault
  high : (at : ℕ) → Fault
  deep : (at : ℕ) → Fault
  spent : Fault

-- a value and the next place
abbrev pub Read : Type 0 → Type 0
Read A = Result (A × ℕ) Fault

infixl 10 ◌>>=◌
abbrev pub ◌>>=◌ : {A B : Type 0} → Result A Fault → (A → Result B Fault) → Result B Fault
(Ok x) >>= f = f x
(Err e) >>= f = Err e

-- the code stopped where reading stops, or memory ran out
abbrev pub Fails : {Y : Type 0} → Halt → Result Y Fault → Type 0
Fails halt.NoMemory r = Unit {0}
Fails (halt.Wrong q) r = r ≡ Err (wrong q)
Fails (halt.High q) r = r ≡ Err (high q)
Fails (halt.Deep q) r = r ≡ Err (deep q)

-- what the code returned is what reading gives, unless memory ran out
abbrev pub Gives : {X Y : Type 0} → (X → Y) → Result X Halt → Result Y Fault → Type 0
Gives view (Ok x) r = r ≡ Ok (view x)
Gives view (Err e) r = Fails e r

-- ---- names, numbers and heights

abbrev pub named : ℕ → Option (List ℕ) → Read (List ℕ)
named i None = Err (wrong i)
named i (Some s) = Ok (s, i + 1)

abbrev pub numbered : ℕ → Option Literal → Read Literal
numbered i None = Err (wrong i)
numbered i (Some v) = Ok (v, i + 1)

-- a tree of height m at least, where it may be h high
unfoldable pub room_at : (m h i : ℕ) → Read ℕ
room_at m h i = if nat_lt h m then Err (high i) else Ok (m, i)

module _ (ws : List Lexeme) where
  -- a choice by the lexeme at i
  unfoldable pub look : {A : Type 0} → ℕ → (Option Lexeme → Read A) → Read A
  look i f = f (slice_get ws i)

  -- goes on behind a key, or without it
  unfoldable pub either : {A : Type 0} → Key → ℕ → (ℕ → Read A) → Read A → Read A
  either k i f r = if at_key k (slice_get ws i) then f (i + 1) else r

  -- goes on behind a key
  unfoldable pub after : {A : Type 0} → Key → ℕ → (ℕ → Read A) → Read A
  after k i f = either k i f (Err (wrong i))

  -- a key, and the place behind it
  unfoldable pub expect_at : Key → ℕ → Read Key
  expect_at k i = if at_key k (slice_get ws i) then Ok (k, i + 1) else Err (wrong i)

  -- the key and an item, as often as the key stands there: `, item`
  unfoldable pub more_of : {A : Type 0} → Key → (ℕ → Read A) → ℕ → ℕ → Read (List A)
  more_of k item zero i = Err spent
  more_of k item (suc n) i = either k i (λ q. item q >>= λ x. more_of k item n x.1 >>= λ y. Ok (x.0 ∷ y.0, y.1)) (Ok ([], i))

  -- items up to a key, which is left standing: `item .. }`
  unfoldable pub until : {A : Type 0} → Key → (ℕ → Read A) → ℕ → ℕ → Read (List A)
  until k item zero i = Err spent
  until k item (suc n) i = look i (λ o. if at_key k o then Ok ([], i) else (item i >>= λ x. until k item n x.1 >>= λ y. Ok (x.0 ∷ y.0, y.1)))

  -- what is read, where it has to be all lexemes
  unfoldable pub all_read : {A : Type 0} → Read A → Result A Fault
  all_read r = r >>= λ x. (if nat_lt x.1 (length ws) then Err (wrong x.1) else Ok x.0)

-- The lexemes, and how many turns each loop may make, which these steps have no use for.
module _ (ws : List Lexeme) (n : ℕ) where
  unfoldable pub named_at : ℕ → Read (List ℕ)
  named_at i = named i (name_in (slice_get ws i))

  -- this name, which is not reserved
  unfoldable pub this_name_at : List ℕ → ℕ → Read (List ℕ)
  this_name_at s i = if at_name s (slice_get ws i) then Ok (s, i + 1) else Err (wrong i)

  unfoldable pub numbered_at : ℕ → Read Literal
  numbered_at i = numbered i (number_in (slice_get ws i))

  -- "(", where b more may be opened
  unfoldable pub open_at : (b i : ℕ) → Read Key
  open_at b i = if at_key Open (slice_get ws i) then (if nat_lt b 1 then Err (deep i) else Ok (Open, i + 1)) else Err (wrong i)
