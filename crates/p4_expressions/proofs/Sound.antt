-- Expressions: what is read is spelled so, and what was read up to a fault begins an expression.
use Rattle.std.proofs.Common.{◌≡◌, ℕ, zero, suc, ◌≤◌, List, [], subst, arith}
use Rattle.std.proofs.lemmas.List.{append-nil}
use Rattle.std.proofs.Math.Nat.{suc_inj}
use Rattle.lex_words.specs.Seen.{Lexeme}
use Rattle.lex_words.proofs.Standing.{Stands-length}
use Rattle.lex_words.proofs.Spelled.{Reads, Reads-bind}
use Rattle.p4_tree.specs.Height.{expr_height}
use Rattle.p4_spelling.specs.Expressions.{Spells, tighter}
use Rattle.p4_expressions.specs.Reading.{Reader, layer, expr_at, inside_of, below_of}
use Rattle.p4_expressions.proofs.Layers.{expr_at-layer}
use Rattle.p4_expressions.proofs.SoundOperands.{Low, ReadsEach, Reads-operand}
use Rattle.p4_expressions.proofs.SoundJoins.{Reads-behind}

module _ (ws : List Lexeme) (n : ℕ) where
  Reads-layer : (h b : ℕ) (inside below : Reader) → ((c : ℕ) → b ≡ suc c → ReadsEach ws inside h c) → ((g : ℕ) → h ≡ suc g → ReadsEach ws below g b) → ReadsEach ws (layer ws n inside below h b) h b
  unfolding layer
  Reads-layer h b inside below within lower zero i = Reads-operand ws n h b inside below lower within i
  Reads-layer h b inside below within lower (suc l) i =
      Reads-bind ws (Spells l i) _ (Low h) _ b b b i _ _ (Reads-layer h b inside below within lower l i)
      (λ a v t. (a, [], rw (append-nil v) (tighter t), λ fits. fits))
      (λ x v st t low. Reads-behind ws n below h b lower l i x.1 x.0 v t (Stands-length ws i x.1 v st) low)

  Reads-step : (h b : ℕ) → ((c : ℕ) → b ≡ suc c → ReadsEach ws (inside_of ws n h b) h c) → ((g : ℕ) → h ≡ suc g → ReadsEach ws (below_of ws n h b) g b) → ReadsEach ws (expr_at ws n h b) h b
  Reads-step h b within lower = rw (expr_at-layer ws n h b) (Reads-layer h b (inside_of ws n h b) (below_of ws n h b) within lower)

  -- with each number of brackets
  Reads-brackets : (h : ℕ) → ((b g : ℕ) → h ≡ suc g → ReadsEach ws (below_of ws n h b) g b) → (b : ℕ) → ReadsEach ws (expr_at ws n h b) h b
  unfolding inside_of
  Reads-brackets h lower zero = Reads-step h zero (λ c e. absurd (omega (arith, e))) (lower zero)
  Reads-brackets h lower (suc b) =
      let here = Reads-brackets h lower b in
      Reads-step h (suc b) (λ c e. subst (λ d. ReadsEach ws (expr_at ws n h b) h d) (suc_inj e) here) (lower (suc b))

  Reads-each : (h b : ℕ) → ReadsEach ws (expr_at ws n h b) h b
  unfolding below_of
  Reads-each zero b = Reads-brackets zero (λ b g e. absurd (omega (arith, e))) b
  Reads-each (suc h) b = Reads-brackets (suc h) (λ b g e. subst (λ d. ReadsEach ws (expr_at ws n h b) d b) (suc_inj e) (Reads-each h b)) b

  pub Reads-expr : (h b l p : ℕ) → Reads ws (Spells l p) (λ t. expr_height t ≤ h) b b p (expr_at ws n h b l p)
  Reads-expr h b l p = Reads-each h b l p
