-- Reading the same again and again, from left to right.
use Rattle.std.specs.Prelude.{ℕ, zero, suc, Bool, List, [], ◌∷◌, Option, Ok, Err, if◌then◌else◌, slice_get}
use Rattle.lex_words.specs.declared.key.Key.TheVariants.{Comma, Close}
use Rattle.lex_words.specs.Seen.{Lexeme, at_key}
use Rattle.lex_words.specs.Reading.{spent, Read, ◌>>=◌, look, more_of}

-- item: how one is read. n: how many turns each loop may make.
module _ (ws : List Lexeme) {A : Type 0} where
  -- items up to a lexeme that ends them, which is left standing
  unfoldable pub each_at : (Option Lexeme → Bool) → (ℕ → Read A) → (n i : ℕ) → Read (List A)
  each_at stop item zero i = Err spent
  each_at stop item (suc n) i = look ws i (λ o. if stop o then Ok ([], i) else (item i >>= λ x. each_at stop item n x.1 >>= λ y. Ok (x.0 ∷ y.0, y.1)))

  -- { "," item } behind the item a
  unfoldable pub more_at : (ℕ → Read A) → ℕ → A → ℕ → Read (List A)
  more_at item n a i = do
    xs ← more_of ws Comma item n i
    Ok (a ∷ xs.0, xs.1)

  -- item { "," item }
  unfoldable pub list_at : (ℕ → Read A) → (n i : ℕ) → Read (List A)
  list_at item n i = do
    x ← item i
    more_at item n x.0 x.1

  -- the same, or nothing before ")"
  unfoldable pub some_at : (ℕ → Read A) → (n i : ℕ) → Read (List A)
  some_at item n i = if at_key Close (slice_get ws i) then Ok ([], i) else list_at item n i
