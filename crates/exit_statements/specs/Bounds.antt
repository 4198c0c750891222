-- What grows by at most so much: the digests that a control gives, how many statements there are, and how high they are.
-- Read `Actions` and `Controls` before it, `DigestBound` of the meaning and `Height` of the tree.
use Rattle.std.specs.Prelude.{◌≡◌, ◌≤◌, ℕ, ◌+◌, ◌*◌, List, map, Bool}
use Rattle.p4_tree.specs.Tree.{Stmt, Stmts, MaybeStmt, nothing, block, var, assign, choice, return_, exit_, call, done, next, without, otherwise}
use Rattle.p4_tree.specs.Height.{stmts_height}
use Rattle.p4_meaning.specs.Actions.{Action}
use Rattle.p4_meaning.specs.Tables.{Table}
use Rattle.p4_meaning.specs.Parts as parts
use Rattle.p4_meaning.specs.Parts.{whole}
use Rattle.p4_meaning.specs.DigestBound.{most_of, most_named, most_applied}
use Rattle.exit_statements.specs.Without.{Body, Flags, Exits, stmts_without}
use Rattle.exit_statements.specs.Actions.{action_without}
use Rattle.exit_statements.specs.Controls.{body_without}

-- the most digests that a control gives
abbrev pub most_of_control : List Action → List Table → parts.Body → ℕ
most_of_control as' ts b = most_of (most_named as') (most_applied as' ts) (whole b)

-- a control without exits gives at most as many
abbrev pub BoundsAgree : Type 0
BoundsAgree = (flagged : Bool) (n : Flags) (returned : List ℕ → List ℕ) (as' : List Action) (ts : List Table) (b : parts.Body)
    → most_of_control (map (action_without n.left returned) as') ts (body_without flagged n as' ts b) ≡ most_of_control as' ts b

abbrev mutual
  -- how many statements a statement is, with those inside it
  pub size : Stmt → ℕ
  size (nothing p) = 1
  size (block p ss) = 1 + sizes ss
  size (var p ty x e) = 1
  size (assign p target e) = 1
  size (choice p e s t) = 1 + size s + size_else t
  size (return_ p) = 1
  size (exit_ p) = 1
  size (call p callee args) = 1

  pub size_else : MaybeStmt → ℕ
  size_else without = 0
  size_else (otherwise s) = size s

  -- how many statements a list has, likewise
  pub sizes : Stmts → ℕ
  sizes done = 0
  sizes (next s ss) = size s + sizes ss

-- at most five times as many statements
abbrev pub SizesBounded : Type 0
SizesBounded = (n : Flags) (m : Exits) (body : Body) (left : Bool) (ss : Stmts) → sizes (stmts_without n m body left ss) ≤ 5 * sizes ss

-- at most three times as high, and one
abbrev pub HeightsBounded : Type 0
HeightsBounded = (n : Flags) (m : Exits) (body : Body) (left : Bool) (ss : Stmts) → stmts_height (stmts_without n m body left ss) ≤ 3 * stmts_height ss + 1
