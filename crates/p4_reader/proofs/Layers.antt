-- The equations of the reader of statements.
use Rattle.std.proofs.Common.{◌≡◌, ℕ, zero, suc, ◌-◌, List, true, false, refl, sym, ◌∙◌, arith}
use Rattle.std.specs.Prelude.{slice_get, is_some}
use Rattle.lex_words.specs.Seen.{Lexeme, name_in}
use Rattle.lex_words.specs.Reading.{◌>>=◌, room_at}
use Rattle.p4_expressions.specs.Reading.{is_scalar}
use Rattle.p4_reader.specs.Reading.{layer, item_layer, stmt_at, item_at, scalar_from, either_from}

module _ (ws : List Lexeme) (n b : ℕ) where
  less_one : (h : ℕ) → suc h - 1 ≡ h
  less_one h = omega arith

  -- what is inside may be one node less high
  pub stmt_at-layer : (h i : ℕ) → stmt_at ws n b h i ≡ layer ws n b (stmt_at ws n b (h - 1)) (item_at ws n b (h - 1)) h i
  unfolding stmt_at item_at layer room_at
  stmt_at-layer zero i = refl
  stmt_at-layer (suc h) i = rw (less_one h) refl

  item_at-layer : (h i : ℕ) → item_at ws n b h i ≡ item_layer ws n b (stmt_at ws n b (h - 1)) (item_at ws n b (h - 1)) h i
  unfolding stmt_at item_at item_layer layer room_at
  item_at-layer zero i = refl
  item_at-layer (suc h) i = rw (less_one h) refl

  -- by the first lexeme
  pub item_is_scalar : (h i : ℕ) → is_scalar (slice_get ws i) ≡ true → item_at ws n b h i ≡ (room_at 1 h i >>= λ z. scalar_from ws n b h z.1)
  unfolding item_layer
  item_is_scalar h i e = item_at-layer h i ∙ rw e refl

  pub item_is_named : (h i : ℕ) → is_scalar (slice_get ws i) ≡ false → is_some (name_in (slice_get ws i)) ≡ true → item_at ws n b h i ≡ (room_at 1 h i >>= λ z. either_from ws n b h z.1)
  unfolding item_layer
  item_is_named h i e f = item_at-layer h i ∙ rw (e, f) refl

  pub item_is_stmt : (h i : ℕ) → is_scalar (slice_get ws i) ≡ false → is_some (name_in (slice_get ws i)) ≡ false → item_at ws n b h i ≡ stmt_at ws n b h i
  unfolding item_layer
  item_is_stmt h i e f = item_at-layer h i ∙ rw (e, f) (sym (stmt_at-layer h i))

pub ruleset stmt_layers = (stmt_at-layer)

pub ruleset item_layers = (item_is_scalar, item_is_named, item_is_stmt)
