-- The turns of the code's loops.
use Rattle.std.proofs.Common.{◌≡◌, ℕ, ◌+◌, ◌-◌, ◌≤◌, ◌<◌, true, false, List, [], ◌∷◌, Option, Some, None, Ok, Err, refl, ap, ◌∙◌, arith}
use Rattle.std.specs.Prelude.{slice_get}
use Rattle.lex_words.specs.declared.key.Key.TheVariants.{Dot, SquareOpen}
use Rattle.lex_words.specs.Seen.{Lexeme, name, number, key, quoted, include, strange, key_in, at_key}
use Rattle.lex_words.specs.Reading.{high, Read, ◌>>=◌, more_of, named_at}
use Rattle.lex_words.specs.Joins as spec
use Rattle.lex_words.proofs.Loops.{Front}
use Rattle.lex_words.proofs.KeyCodes.{at_key-is, at_key-same}
use Rattle.lex_words.proofs.Joins as joins
use Rattle.p4_tree.specs.Tree.{Expr, num, flag, path, valid, applied, error_name, negation, inversion, opposite, binary, conditional, slice, cast}
use Rattle.p4_tree.specs.Height.{expr_height}
use Rattle.p4_tree.specs.declared.statement.Op.{Op}
use Rattle.p4_spelling.specs.Operators.{op_at}
use Rattle.p4_expressions.specs.Reading.{Reader, op_in, square_at, right_at, bounds_at, slices_at, more_names_at, chain, expr_at, below_of}
use Rattle.p4_expressions.proofs.Layers.{below_is}

-- ---- operators

module _ (ws : List Lexeme) (n h b l p : ℕ) where
  abbrev pub Chain : ℕ → Expr → ℕ → Read Expr
  Chain k a q = chain ws n (below_of ws n h b) h l p k a q

  pub chain_ends : (k q : ℕ) (a : Expr) → 0 < k → op_in (l + 1) (key_in (slice_get ws q)) ≡ None → Chain k a q ≡ Ok (a, q)
  chain_ends = joins.chain_ends op_at expr_height (right_at ws n (below_of ws n h b)) ws h l p

  pub chain_high : (k q : ℕ) (a : Expr) (x : Op) → 0 < k → op_in (l + 1) (key_in (slice_get ws q)) ≡ Some x → h ≤ expr_height a → Chain k a q ≡ Err (high q)
  chain_high = joins.chain_high op_at expr_height (right_at ws n (below_of ws n h b)) ws h l p

  pub chain_goes_on : (k q : ℕ) (a : Expr) (x : Op) → 0 < k → op_in (l + 1) (key_in (slice_get ws q)) ≡ Some x → expr_height a < h
      → Chain k a q ≡ (right_at ws n (expr_at ws n (h - 1) b) l p a x (q + 1) >>= λ y. Chain (k - 1) y.0 y.1)
  chain_goes_on k q a x lt e le =
      let low : below_of ws n h b ≡ expr_at ws n (h - 1) b = below_is ws n h b (omega (arith, le)) in
      joins.chain_goes_on op_at expr_height (right_at ws n (below_of ws n h b)) ws h l p k q a x lt e le
      ∙ ap (λ (f : Reader). right_at ws n f l p a x (q + 1) >>= λ y. Chain (k - 1) y.0 y.1) low

-- ---- slices

-- `[` joins a slice
pub square_in : (o : Option Lexeme) → at_key SquareOpen o ≡ true → spec.join_in square_at 1 (key_in o) ≡ Some tt
square_in o e = rw (at_key-is SquareOpen o e) refl

-- and nothing else does
pub no_square : (o : Option Lexeme) → at_key SquareOpen o ≡ false → spec.join_in square_at 1 (key_in o) ≡ None
no_square None e = refl
no_square (Some (key SquareOpen)) e = absurd (let f = at_key-same SquareOpen in cc)
no_square (Some (key k)) e = refl
no_square (Some (name s)) e = refl
no_square (Some (number v)) e = refl
no_square (Some (quoted s)) e = refl
no_square (Some (include s)) e = refl
no_square (Some (strange s)) e = refl

module _ (ws : List Lexeme) (n h p : ℕ) where
  abbrev pub Slices : ℕ → Expr → ℕ → Read Expr
  Slices k a q = slices_at ws n h p k a q

  abbrev bounds : (l r : ℕ) → Expr → Unit {0} → ℕ → Read Expr
  bounds l r c x q = bounds_at ws n r c q

  pub slices_end : (k q : ℕ) (a : Expr) → 0 < k → at_key SquareOpen (slice_get ws q) ≡ false → Slices k a q ≡ Ok (a, q)
  slices_end k q a lt e = joins.chain_ends square_at expr_height bounds ws h 0 p k q a lt (no_square (slice_get ws q) e)

  pub slices_high : (k q : ℕ) (a : Expr) → 0 < k → at_key SquareOpen (slice_get ws q) ≡ true → h ≤ expr_height a → Slices k a q ≡ Err (high q)
  slices_high k q a lt e le = joins.chain_high square_at expr_height bounds ws h 0 p k q a tt lt (square_in (slice_get ws q) e) le

  pub slices_go_on : (k q : ℕ) (a : Expr) → 0 < k → at_key SquareOpen (slice_get ws q) ≡ true → expr_height a < h → Slices k a q ≡ (bounds_at ws n p a (q + 1) >>= λ y. Slices (k - 1) y.0 y.1)
  slices_go_on k q a lt e le = joins.chain_goes_on square_at expr_height bounds ws h 0 p k q a tt lt (square_in (slice_get ws q) e) le

-- ---- names

pub names_front : (ws : List Lexeme) (n : ℕ) (x : List ℕ) (i : ℕ) → more_names_at ws n x i ≡ Front (x ∷ []) (more_of ws Dot (named_at ws n) n i)
unfolding more_names_at
names_front ws n x i = refl

-- each expression is a node at least
pub expr_tall : (e : Expr) → 1 ≤ expr_height e
expr_tall (num p v) = omega arith
expr_tall (flag p v) = omega arith
expr_tall (path p xs) = omega arith
expr_tall (valid p xs) = omega arith
expr_tall (applied p x hit) = omega arith
expr_tall (error_name p x) = omega arith
expr_tall (negation p a) = omega arith
expr_tall (inversion p a) = omega arith
expr_tall (opposite p a) = omega arith
expr_tall (binary p op a c) = omega arith
expr_tall (conditional p a c d) = omega arith
expr_tall (slice p a x y) = omega arith
expr_tall (cast p t a) = omega arith
