-- The equations of the reader.
use Rattle.std.proofs.Common.{◌≡◌, ℕ, zero, suc, ◌-◌, ◌<◌, ◌≢◌, false, List, Ok, refl, sym, ap, ◌∙◌, arith}
use Rattle.std.specs.Prelude.{◌==◌}
use Rattle.std.proofs.lemmas.Bool.{ne_eqb}
use Rattle.lex_words.specs.Seen.{Lexeme}
use Rattle.lex_words.specs.Reading.{Read, ◌>>=◌}
use Rattle.lex_words.proofs.Loops.{less_is}
use Rattle.indus_tree.specs.Tree.{Expr}
use Rattle.indus_expressions.specs.Reading.{Reader, layer, with_brackets, expr_at, inside_of, below_of, under_of, operand_at, head_at, left_at, chain, climb}

module _ (ws : List Lexeme) (n : ℕ) where
  pub expr_at-layer : (h b : ℕ) → expr_at ws n h b ≡ layer ws n (inside_of ws n h b) (below_of ws n h b) (under_of ws n h b) h b
  unfolding expr_at with_brackets inside_of below_of under_of
  expr_at-layer zero zero = refl
  expr_at-layer zero (suc b) = refl
  expr_at-layer (suc h) zero = refl
  expr_at-layer (suc h) (suc b) = refl

  below_suc : (h b : ℕ) → below_of ws n (suc h) b ≡ expr_at ws n h b
  unfolding below_of
  below_suc h b = refl

  pub inside_suc : (h b : ℕ) → inside_of ws n h (suc b) ≡ expr_at ws n h b
  unfolding inside_of
  inside_suc h b = refl

  under_suc : (h b : ℕ) → under_of ws n h (suc b) ≡ below_of ws n h b
  unfolding under_of
  under_suc h b = refl

  pub below_is : (h b : ℕ) → 0 < h → below_of ws n h b ≡ expr_at ws n (h - 1) b
  below_is h b lt = ap (λ x. below_of ws n x b) (less_is h lt) ∙ below_suc (h - 1) b

  pub inside_is : (h b : ℕ) → 0 < b → inside_of ws n h b ≡ expr_at ws n h (b - 1)
  inside_is h b lt = ap (λ x. inside_of ws n h x) (less_is b lt) ∙ inside_suc h (b - 1)

  pub under_is : (h b : ℕ) → 0 < b → under_of ws n h b ≡ below_of ws n h (b - 1)
  under_is h b lt = ap (λ x. under_of ws n h x) (less_is b lt) ∙ under_suc h (b - 1)

  pub expr_zero : (h b l i : ℕ) → l ≡ 0 → expr_at ws n h b l i ≡ operand_at ws n (inside_of ws n h b) (below_of ws n h b) h b i
  unfolding layer
  expr_zero h b l i e = ap (λ (f : Reader). f l i) (expr_at-layer h b) ∙ ap (λ x. layer ws n (inside_of ws n h b) (below_of ws n h b) (under_of ws n h b) h b x i) e

  -- the left side on level l + 1
  abbrev pub first_at : (h b l i : ℕ) → Read Expr
  first_at h b l i = left_at ws n (inside_of ws n h b) (below_of ws n h b) (under_of ws n h b) h b l (expr_at ws n h b l i) i

  pub expr_suc : (h b l i : ℕ) → expr_at ws n h b (suc l) i ≡ (first_at h b l i >>= λ x. chain ws n (below_of ws n h b) h l i n x.0 x.1)
  unfolding layer
  expr_suc h b l i =
      ap (λ (f : Reader). f (suc l) i) (expr_at-layer h b)
      ∙ ap (λ (f : Reader). left_at ws n (inside_of ws n h b) (below_of ws n h b) (under_of ws n h b) h b l (f l i) i >>= λ x. chain ws n (below_of ws n h b) h l i n x.0 x.1) (sym (expr_at-layer h b))

  pub expr_seven : (h b l i : ℕ) → l ≡ 7 → expr_at ws n h b l i ≡ (head_at ws n (inside_of ws n h b) (below_of ws n h b) (under_of ws n h b) h b (expr_at ws n h b 6 i) i >>= λ x. chain ws n (below_of ws n h b) h 6 i n x.0 x.1)
  expr_seven h b l i e = ap (λ x. expr_at ws n h b x i) e ∙ expr_suc h b 6 i

  pub expr_other : (h b l i : ℕ) → l ≢ 0 → l ≢ 7 → expr_at ws n h b l i ≡ (expr_at ws n h b (l - 1) i >>= λ x. chain ws n (below_of ws n h b) h (l - 1) i n x.0 x.1)
  expr_other h b l i z e =
      let f : (l - 1 == 6) ≡ false = ne_eqb (l - 1) 6 (λ x. e (omega (arith, x, z))) in
      ap (λ x. expr_at ws n h b x i) (less_is l (omega (arith, z))) ∙ expr_suc h b (l - 1) i ∙ rw f refl

  climb_suc : (below : Reader) (h p l : ℕ) (a : Expr) (i : ℕ) → climb ws n below h p (suc l) a i ≡ (climb ws n below h p l a i >>= λ x. chain ws n below h l p n x.0 x.1)
  unfolding climb
  climb_suc below h p l a i = refl

  climb_nil : (below : Reader) (h p : ℕ) (a : Expr) (i : ℕ) → climb ws n below h p 0 a i ≡ Ok (a, i)
  unfolding climb
  climb_nil below h p a i = refl

  pub climb_zero : (below : Reader) (h p l : ℕ) (a : Expr) (i : ℕ) → l ≡ 0 → climb ws n below h p l a i ≡ Ok (a, i)
  climb_zero below h p l a i e = ap (λ x. climb ws n below h p x a i) e ∙ climb_nil below h p a i

  pub climb_more : (below : Reader) (h p l : ℕ) (a : Expr) (i : ℕ) → l ≢ 0 → climb ws n below h p l a i ≡ (climb ws n below h p (l - 1) a i >>= λ x. chain ws n below h (l - 1) p n x.0 x.1)
  climb_more below h p l a i z = ap (λ x. climb ws n below h p x a i) (less_is l (omega (arith, z))) ∙ climb_suc below h p (l - 1) a i

pub ruleset expr_layers = (below_is, inside_is, under_is)

pub ruleset level_layers = (expr_zero, expr_seven, expr_other)

pub ruleset climb_layers = (climb_zero, climb_more)
