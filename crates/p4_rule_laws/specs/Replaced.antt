-- An expression in the place of another, and statements with other expressions. Read `Statements` of
-- `p4_statement_rules` before it.
use Rattle.std.specs.Prelude.{◌≡◌, ℕ, List, [], ◌∷◌, Bool, true, false, Some}
use Rattle.rule_tests.specs.Tests.{IsFine}
use Rattle.p4_tree.specs.Tree.{Expr, applied, negation, inversion, opposite, binary, conditional, slice, cast, Arg, one, many, Stmt, Stmts, MaybeStmt, block, var, assign, choice, call, done, next, without, otherwise}
use Rattle.p4_tree.specs.declared.statement.Op.{Op}
use Rattle.p4_tree.specs.declared.statement.PTy.{PTy}
use Rattle.p4_scopes.specs.Scopes.{Scope, own}
use Rattle.p4_scopes.specs.declared.kind.Kind.{Kind}
use Rattle.p4_statement_rules.specs.Expressions.{is_error_name, expr_tests}
use Rattle.p4_statement_rules.specs.Forms.{Form, digests, sums, reads_cell, writes_cell, acts, form_of}
use Rattle.p4_statement_rules.specs.Statements.{after}

-- ---- expressions

-- the second expression is of the first one's kind, and fine where w is wanted. An error's name stands for an error's
-- name, since what holds an error is compared with no other
pub record IsReplaced (s : Scope) (w : Kind) (e f : Expr) : Type 0 where
  pub kind : own s f ≡ own s e
  pub named : is_error_name f ≡ is_error_name e
  pub fine : IsFine (expr_tests s w f)

-- wherever the first expression is fine, the second may stand in its place
pub record Replaces (s : Scope) (e f : Expr) : Type 0 where
  pub wherever : (w : Kind) → IsFine (expr_tests s w e) → IsReplaced s w e f

-- the same expression, with others in the place of some of its parts
pub data PartsReplaced (s : Scope) : Expr → Expr → Type 0 where
  unchanged : {e : Expr} → PartsReplaced s e e
  replaced : {e f : Expr} → Replaces s e f → PartsReplaced s e f
  in_negation : {a b : Expr} (p : ℕ) → PartsReplaced s a b → PartsReplaced s (negation p a) (negation p b)
  in_inversion : {a b : Expr} (p : ℕ) → PartsReplaced s a b → PartsReplaced s (inversion p a) (inversion p b)
  in_opposite : {a b : Expr} (p : ℕ) → PartsReplaced s a b → PartsReplaced s (opposite p a) (opposite p b)
  in_binary : {a b c d : Expr} (p : ℕ) (op : Op) → PartsReplaced s a c → PartsReplaced s b d → PartsReplaced s (binary p op a b) (binary p op c d)
  in_conditional : {t a b u c d : Expr} (p : ℕ) → PartsReplaced s t u → PartsReplaced s a c → PartsReplaced s b d → PartsReplaced s (conditional p t a b) (conditional p u c d)
  in_slice : {a b : Expr} (p h l : ℕ) → PartsReplaced s a b → PartsReplaced s (slice p a h l) (slice p b h l)
  in_cast : {a b : Expr} (p : ℕ) (t : PTy) → PartsReplaced s a b → PartsReplaced s (cast p t a) (cast p t b)

-- ---- arguments

abbrev pub ExprsReplaced : Scope → List Expr → List Expr → Type 0
ExprsReplaced s [] [] = Unit {0}
ExprsReplaced s (e ∷ es) (f ∷ fs) = Replaces s e f × ExprsReplaced s es fs
ExprsReplaced s _ _ = ⊥

abbrev pub ArgReplaced : Scope → Arg → Arg → Type 0
ArgReplaced s (one p e) (one q f) = (p ≡ q) × Replaces s e f
ArgReplaced s (many p es) (many q fs) = (p ≡ q) × ExprsReplaced s es fs
ArgReplaced s _ _ = ⊥

abbrev pub ArgsReplaced : Scope → List Arg → List Arg → Type 0
ArgsReplaced s [] [] = Unit {0}
ArgsReplaced s (a ∷ xs) (b ∷ ys) = ArgReplaced s a b × ArgsReplaced s xs ys
ArgsReplaced s _ _ = ⊥

-- the arguments of a call of this form, of which values alone are replaced: no path that is written, no receiver
abbrev pub CallReplaced : Scope → Form → List Arg → List Arg → Type 0
CallReplaced s (acts ks) xs ys = ArgsReplaced s xs ys
CallReplaced s (writes_cell k) xs ys = ArgsReplaced s xs ys
CallReplaced s (reads_cell k) (a ∷ xs) (b ∷ ys) = (a ≡ b) × ArgsReplaced s xs ys
CallReplaced s digests (a ∷ xs) (b ∷ ys) = (a ≡ b) × ArgsReplaced s xs ys
CallReplaced s (sums v) (a ∷ c ∷ xs) (b ∷ d ∷ ys) = ArgReplaced s a b × ArgReplaced s c d × (xs ≡ ys)
CallReplaced s _ xs ys = xs ≡ ys

-- ---- statements

-- the outcome of a table, perhaps behind `!`
abbrev pub is_outcome : Expr → Bool
is_outcome (applied p t h) = true
is_outcome (negation q (applied p t h)) = true
is_outcome _ = false

mutual
  -- the same statement, with other expressions
  pub data StmtReplaced : Scope → Stmt → Stmt → Type 0 where
    same : {s : Scope} {c : Stmt} → StmtReplaced s c c
    in_block : {s : Scope} {a b : Stmts} (p : ℕ) → BlockReplaced s a b → StmtReplaced s (block p a) (block p b)
    in_start : {s : Scope} {e f : Expr} (p : ℕ) (t : PTy) (x : List ℕ) → Replaces s e f → StmtReplaced s (var p t x (Some e)) (var p t x (Some f))
    in_value : {s : Scope} {e f : Expr} (p : ℕ) (x : List (List ℕ)) → Replaces s e f → StmtReplaced s (assign p x e) (assign p x f)
    -- a test that is no table's outcome, and the branches
    in_test : {s : Scope} {e f : Expr} {a b : Stmt} {c d : MaybeStmt} (p : ℕ) → is_outcome e ≡ false → Replaces s e f → StmtReplaced s a b → ElseReplaced s c d → StmtReplaced s (choice p e a c) (choice p f b d)
    in_branches : {s : Scope} {e : Expr} {a b : Stmt} {c d : MaybeStmt} (p : ℕ) → StmtReplaced s a b → ElseReplaced s c d → StmtReplaced s (choice p e a c) (choice p e b d)
    in_args : {s : Scope} {xs ys : List Arg} (p : ℕ) (x : List (List ℕ)) → CallReplaced s (form_of s x) xs ys → StmtReplaced s (call p x xs) (call p x ys)

  pub data ElseReplaced : Scope → MaybeStmt → MaybeStmt → Type 0 where
    no_else : {s : Scope} → ElseReplaced s without without
    in_else : {s : Scope} {a b : Stmt} → StmtReplaced s a b → ElseReplaced s (otherwise a) (otherwise b)

  -- each statement in the scope behind those before it
  pub data BlockReplaced : Scope → Stmts → Stmts → Type 0 where
    none_left : {s : Scope} → BlockReplaced s done done
    first_then : {s : Scope} {c d : Stmt} {a b : Stmts} → StmtReplaced s c d → BlockReplaced (after s c) a b → BlockReplaced s (next c a) (next d b)
