-- The equations of the reader.
use Rattle.std.proofs.Common.{◌≡◌, ℕ, zero, suc, ◌-◌, ◌<◌, ◌≢◌, List, refl, sym, ap, ◌∙◌, arith}
use Rattle.lex_words.specs.Seen.{Lexeme}
use Rattle.lex_words.specs.Reading.{◌>>=◌}
use Rattle.lex_words.proofs.Loops.{less_is}
use Rattle.p4_expressions.specs.Reading.{Reader, layer, with_brackets, expr_at, inside_of, below_of, operand_at, behind_at}

module _ (ws : List Lexeme) (n : ℕ) where
  pub expr_at-layer : (h b : ℕ) → expr_at ws n h b ≡ layer ws n (inside_of ws n h b) (below_of ws n h b) h b
  unfolding expr_at with_brackets inside_of below_of
  expr_at-layer zero zero = refl
  expr_at-layer zero (suc b) = refl
  expr_at-layer (suc h) zero = refl
  expr_at-layer (suc h) (suc b) = refl

  below_suc : (h b : ℕ) → below_of ws n (suc h) b ≡ expr_at ws n h b
  unfolding below_of
  below_suc h b = refl

  pub inside_suc : (h b : ℕ) → inside_of ws n h (suc b) ≡ expr_at ws n h b
  unfolding inside_of
  inside_suc h b = refl

  pub below_is : (h b : ℕ) → 0 < h → below_of ws n h b ≡ expr_at ws n (h - 1) b
  below_is h b lt = ap (λ x. below_of ws n x b) (less_is h lt) ∙ below_suc (h - 1) b

  pub inside_is : (h b : ℕ) → 0 < b → inside_of ws n h b ≡ expr_at ws n h (b - 1)
  inside_is h b lt = ap (λ x. inside_of ws n h x) (less_is b lt) ∙ inside_suc h (b - 1)

  pub expr_zero : (h b l i : ℕ) → l ≡ 0 → expr_at ws n h b l i ≡ operand_at ws n (inside_of ws n h b) (below_of ws n h b) h b i
  unfolding layer
  expr_zero h b l i e = ap (λ (f : Reader). f l i) (expr_at-layer h b) ∙ ap (λ x. layer ws n (inside_of ws n h b) (below_of ws n h b) h b x i) e

  pub expr_suc : (h b l i : ℕ) → expr_at ws n h b (suc l) i ≡ (expr_at ws n h b l i >>= λ x. behind_at ws n (below_of ws n h b) h l i n x.0 x.1)
  unfolding layer
  expr_suc h b l i =
      ap (λ (f : Reader). f (suc l) i) (expr_at-layer h b)
      ∙ ap (λ (f : Reader). f l i >>= λ x. behind_at ws n (below_of ws n h b) h l i n x.0 x.1) (sym (expr_at-layer h b))

  pub expr_more : (h b l i : ℕ) → l ≢ 0 → expr_at ws n h b l i ≡ (expr_at ws n h b (l - 1) i >>= λ x. behind_at ws n (below_of ws n h b) h (l - 1) i n x.0 x.1)
  expr_more h b l i z = ap (λ x. expr_at ws n h b x i) (less_is l (omega (arith, z))) ∙ expr_suc h b (l - 1) i

pub ruleset expr_layers = (below_is, inside_is)

pub ruleset level_layers = (expr_zero, expr_more)
