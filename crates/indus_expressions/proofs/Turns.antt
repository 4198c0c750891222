-- The turns of the code's loops.
use Rattle.std.proofs.Common.{◌≡◌, ℕ, ◌+◌, ◌-◌, ◌≤◌, ◌<◌, max, List, [], ◌∷◌, ◌++◌, Some, None, Ok, Err, refl, ap, ◌∙◌, arith}
use Rattle.std.specs.Prelude.{slice_get}
use Rattle.lex_words.specs.declared.key.Key.TheVariants.{Comma}
use Rattle.lex_words.specs.Seen.{Lexeme, key_in}
use Rattle.lex_words.specs.Reading.{high, Read, ◌>>=◌, more_of}
use Rattle.lex_words.proofs.Loops.{Front}
use Rattle.lex_words.proofs.Joins as joins
use Rattle.indus_tree.specs.Tree.{Expr, num, flag, read, count, index, member, negation, inversion, binary, cast, exprs_from}
use Rattle.indus_tree.specs.Height.{expr_height, exprs_height}
use Rattle.indus_spelling.specs.Operators.{top, join_at}
use Rattle.indus_spelling.specs.declared.operator.Join.{Join}
use Rattle.indus_expressions.specs.Reading.{Reader, join_in, right_at, rest_of, chain, expr_at, below_of}
use Rattle.indus_expressions.proofs.Layers.{below_is}

-- the reader of an item of a list
abbrev pub item_at : (h b : ℕ) → List Lexeme → ℕ → ℕ → Read Expr
item_at h b ws n i = expr_at ws n h b top i

module _ (ws : List Lexeme) (n h b l p : ℕ) where
  abbrev pub Chain : ℕ → Expr → ℕ → Read Expr
  Chain k a q = chain ws n (below_of ws n h b) h l p k a q

  pub chain_ends : (k q : ℕ) (a : Expr) → 0 < k → join_in (l + 1) (key_in (slice_get ws q)) ≡ None → Chain k a q ≡ Ok (a, q)
  chain_ends = joins.chain_ends join_at expr_height (right_at ws n (below_of ws n h b)) ws h l p

  pub chain_high : (k q : ℕ) (a : Expr) (x : Join) → 0 < k → join_in (l + 1) (key_in (slice_get ws q)) ≡ Some x → h ≤ expr_height a → Chain k a q ≡ Err (high q)
  chain_high = joins.chain_high join_at expr_height (right_at ws n (below_of ws n h b)) ws h l p

  pub chain_goes_on : (k q : ℕ) (a : Expr) (x : Join) → 0 < k → join_in (l + 1) (key_in (slice_get ws q)) ≡ Some x → expr_height a < h
      → Chain k a q ≡ (right_at ws n (expr_at ws n (h - 1) b) l p a x (q + 1) >>= λ y. Chain (k - 1) y.0 y.1)
  chain_goes_on k q a x lt e le =
      let low : below_of ws n h b ≡ expr_at ws n (h - 1) b = below_is ws n h b (omega (arith, le)) in
      joins.chain_goes_on join_at expr_height (right_at ws n (below_of ws n h b)) ws h l p k q a x lt e le
      ∙ ap (λ (f : Reader). right_at ws n f l p a x (q + 1) >>= λ y. Chain (k - 1) y.0 y.1) low

module _ (ws : List Lexeme) (n : ℕ) (e : Reader) where
  pub rest_front : (a : Expr) (i : ℕ) → rest_of ws n e a i ≡ Front (a ∷ []) (more_of ws Comma (e top) n i)
  unfolding rest_of
  rest_front a i = refl

-- each expression is a node at least
pub expr_tall : (e : Expr) → 1 ≤ expr_height e
expr_tall (num p v) = omega arith
expr_tall (flag p v) = omega arith
expr_tall (read p x) = omega arith
expr_tall (count p x) = omega arith
expr_tall (index p x es) = omega arith
expr_tall (member p es x) = omega arith
expr_tall (negation p a) = omega arith
expr_tall (inversion p a) = omega arith
expr_tall (binary p op a c) = omega arith
expr_tall (cast p w a) = omega arith

pub tall_push : (ts : List Expr) (t : Expr) → exprs_height (exprs_from (ts ++ t ∷ [])) ≡ max (exprs_height (exprs_from ts)) (expr_height t)
tall_push [] t = omega arith
tall_push (a ∷ ts) t = omega (arith, tall_push ts t)
