-- Reading operands that are joined, by levels: 1 for the tightest. What is of one level groups to the left. A language's table says what a key joins, and on which level.
use Rattle.std.specs.Prelude.{ℕ, zero, suc, ◌+◌, ◌==◌, nat_le, List, Option, Some, None, Ok, Err, if◌then◌else◌, slice_get}
use Rattle.lex_words.specs.Seen.{Lexeme, key_in}
use Rattle.lex_words.specs.Reading.{high, spent, Read, ◌>>=◌}
use Rattle.lex_words.specs.declared.key.Key.{Key}

-- what joins on this level
abbrev pub of_level : {J : Type 0} → ℕ → Option (ℕ × J) → Option J
of_level l None = None
of_level l (Some (m, x)) = if m == l then Some x else None

abbrev pub join_in : {J : Type 0} → (Key → Option (ℕ × J)) → ℕ → Option Key → Option J
join_in table l None = None
join_in table l (Some k) = of_level l (table k)

-- one turn of a chain: the end, or what goes on behind an operator
abbrev pub turn : {T J : Type 0} → (T → ℕ) → (h : ℕ) → T → ℕ → Option J → (J → Read T) → Read T
turn height h a i None go = Ok (a, i)
turn height h a i (Some x) go = if nat_le h (height a) then Err (high i) else go x

-- height: of a tree. right: what is read behind what joins, with the left side, which begins at p; l: the level of right sides.
module _ {T J : Type 0} (table : Key → Option (ℕ × J)) (height : T → ℕ) (right : (l p : ℕ) → T → J → ℕ → Read T) (ws : List Lexeme) where
  -- what is joined on level l + 1 behind the left side a, which begins at p, in at most k turns; the whole may be h high
  unfoldable pub chain : (h l p k : ℕ) → T → ℕ → Read T
  chain h l p zero a i = Err spent
  chain h l p (suc k) a i = turn height h a i (join_in table (l + 1) (key_in (slice_get ws i))) (λ x. right l p a x (i + 1) >>= λ y. chain h l p k y.0 y.1)
