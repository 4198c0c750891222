-- What is tested of statements. Read `Calls` before it.
use Rattle.std.specs.Prelude.{ℕ, List, [], ◌∷◌, Bool, not, Option, Some, None}
use Rattle.rule_tests.specs.Tests.{Tests, fine, test, both}
use Rattle.p4_tree.specs.Tree.{Expr, applied, negation, Stmt, Stmts, MaybeStmt, nothing, block, var, assign, choice, return_, exit_, call, done, next, without, otherwise}
use Rattle.p4_tree.specs.declared.statement.PTy.{PTy}
use Rattle.p4_scopes.specs.Scopes.{value_kind, Scope, value, declare, kind_in}
use Rattle.p4_scopes.specs.declared.kind.Kind.{Kind}
use Rattle.p4_scopes.specs.declared.kind.Kind.TheVariants.{Truth}
use Rattle.p4_scopes.specs.declared.thing.Access.TheVariants.{Writable}
use Rattle.p4_statement_rules.specs.Expressions.{new_tests, scalar_tests, applied_tests, expr_tests}
use Rattle.p4_statement_rules.specs.Forms.{takes_any, takes_assignments, takes_effects, takes_runs, takes_call, form_of}
use Rattle.p4_statement_rules.specs.Calls.{target_tests, form_tests}
use Rattle.p4_statement_rules.specs.declared.rule.ProgramRule.{ProgramRule}
use Rattle.p4_statement_rules.specs.declared.rule.ProgramRule.TheVariants.{WrongPlace}
use Rattle.p4_statement_rules.specs.declared.rule.Part.{Part}

-- ---- the test of an `if`, which may be the outcome of a table, perhaps behind `!`

abbrev pub negated_tests : Part → Scope → (at : ℕ) → Expr → Tests ProgramRule
negated_tests h s q (applied p t b) = applied_tests p (takes_runs h) (s (t ∷ []))
negated_tests h s q e = expr_tests s Truth (negation q e)

abbrev pub if_tests : Part → Scope → Expr → Tests ProgramRule
if_tests h s (applied p t b) = applied_tests p (takes_runs h) (s (t ∷ []))
if_tests h s (negation p a) = negated_tests h s p a
if_tests h s e = expr_tests s Truth e

-- ---- variables

-- a first value of which k is wanted, where there is one
abbrev pub start_tests : Scope → Kind → Option Expr → Tests ProgramRule
start_tests s k None = fine
start_tests s k (Some e) = expr_tests s k e

abbrev pub var_tests : (at : ℕ) → Scope → PTy → List ℕ → Option Expr → Tests ProgramRule
var_tests p s t x e = both (new_tests p s x) (both (scalar_tests p s t) (start_tests s (kind_in s t) e))

-- the scope behind a statement of a block
abbrev pub after : Scope → Stmt → Scope
after s (var p t x e) = declare s x (value Writable t)
after s _ = s

abbrev pub after_all : Scope → Stmts → Scope
after_all s done = s
after_all s (next c rest) = after_all (after s c) rest

-- ---- statements

-- a statement stands where it may
abbrev pub stands_tests : (at : ℕ) → (may : Bool) → Tests ProgramRule
stands_tests p may = test p WrongPlace (not may)

abbrev mutual
  -- a statement
  pub stmt_tests : Part → Scope → Stmt → Tests ProgramRule
  stmt_tests h s (nothing p) = stands_tests p (takes_any h)
  stmt_tests h s (block p b) = both (stands_tests p (takes_any h)) (block_tests h s b)
  stmt_tests h s (var p t x e) = both (stands_tests p (takes_any h)) (var_tests p s t x e)
  stmt_tests h s (assign p x e) = both (stands_tests p (takes_assignments h)) (both (target_tests p (s x)) (expr_tests s (value_kind (s x)) e))
  stmt_tests h s (choice p e a b) = both (stands_tests p (takes_any h)) (both (if_tests h s e) (both (stmt_tests h s a) (else_tests h s b)))
  stmt_tests h s (return_ p) = stands_tests p (takes_effects h)
  stmt_tests h s (exit_ p) = stands_tests p (takes_effects h)
  stmt_tests h s (call p x args) = both (stands_tests p (takes_call h (form_of s x))) (form_tests p s (form_of s x) args)

  -- the statements of a block, each behind the declarations before it
  pub block_tests : Part → Scope → Stmts → Tests ProgramRule
  block_tests h s done = fine
  block_tests h s (next c rest) = both (stmt_tests h s c) (block_tests h (after s c) rest)

  -- what an `else` holds
  pub else_tests : Part → Scope → MaybeStmt → Tests ProgramRule
  else_tests h s without = fine
  else_tests h s (otherwise c) = stmt_tests h s c
