-- The most digests that statements give: those behind each other add up, of the branches of an `if` the greater counts,
-- and `return` and `exit` are not looked at. What a call of an action gives, and the application of a table, stands in
-- the scope. Sums stop at the greatest number of 32 bits.
use Rattle.std.specs.Prelude.{ℕ, max, List, [], ◌∷◌, Option, Some, None}
use Rattle.lex_text.specs.Names.{parent}
use Rattle.p4_tree.specs.Tree.{Expr, applied, negation, Stmt, Stmts, MaybeStmt, nothing, block, var, assign, choice, return_, exit_, call, done, next, without, otherwise}
use Rattle.p4_scopes.specs.Scopes.{Scope, add_up}
use Rattle.p4_scopes.specs.Uses.{most_in}
use Rattle.p4_statement_rules.specs.Forms.{Form, digests, applies, acts, form_of}

-- the digests of a call of this form on what stands at these names
abbrev pub most_of_form : Scope → Form → List (List ℕ) → ℕ
most_of_form s digests x = 1
most_of_form s (acts ks) x = most_in (s x)
most_of_form s applies x = most_in (s (parent x))
most_of_form s _ x = 0

-- the digests that the test of an `if` gives, which may apply a table
abbrev pub most_of_test : Scope → Expr → ℕ
most_of_test s (applied p t h) = most_in (s (t ∷ []))
most_of_test s (negation q (applied p t h)) = most_in (s (t ∷ []))
most_of_test s _ = 0

abbrev mutual
  pub most_of_stmt : Scope → Stmt → ℕ
  most_of_stmt s (nothing p) = 0
  most_of_stmt s (block p ss) = most_of s ss
  most_of_stmt s (var p ty x e) = 0
  most_of_stmt s (assign p target e) = 0
  most_of_stmt s (choice p e a b) = add_up (most_of_test s e) (max (most_of_stmt s a) (most_of_else s b))
  most_of_stmt s (return_ p) = 0
  most_of_stmt s (exit_ p) = 0
  most_of_stmt s (call p x args) = most_of_form s (form_of s x) x

  pub most_of_else : Scope → MaybeStmt → ℕ
  most_of_else s without = 0
  most_of_else s (otherwise c) = most_of_stmt s c

  -- the most digests that statements give, where this is in scope before them
  pub most_of : Scope → Stmts → ℕ
  most_of s done = 0
  most_of s (next c ss) = add_up (most_of_stmt s c) (most_of s ss)

-- the greatest of what some actions give
abbrev pub greatest : Scope → List (List ℕ) → ℕ
greatest s [] = 0
greatest s (x ∷ xs) = max (most_in (s (x ∷ []))) (greatest s xs)

-- the most that the application of a table gives: that of its actions and its default
abbrev pub most_of_default : Scope → Option (List ℕ × List Expr) → ℕ
most_of_default s None = 0
most_of_default s (Some d) = most_in (s (d.0 ∷ []))

abbrev pub most_of_table : Scope → List (List ℕ) → Option (List ℕ × List Expr) → ℕ
most_of_table s xs d = max (most_of_default s d) (greatest s xs)
