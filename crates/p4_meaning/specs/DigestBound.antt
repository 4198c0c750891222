-- How many digests a passage of a switch gives at most: statements behind each other add up, of the branches of an `if`
-- the greater counts, and `return` and `exit` are not looked at. Read `Pass` before it.
use Rattle.std.specs.Prelude.{ℕ, ◌+◌, max, List, [], ◌∷◌, Bool, Option, Some, None}
use Rattle.p4_tree.specs.Tree.{Stmt, Stmts, MaybeStmt, nothing, block, var, assign, choice, return_, exit_, call, done, next, without, otherwise}
use Rattle.p4_meaning.specs.Statements.{Act, makes, drops, reads, writes, tells, sums, runs, applies, idle, act_of, application}
use Rattle.p4_meaning.specs.Actions.{Action, action_named}
use Rattle.p4_meaning.specs.Tables.{Table, table_named}
use Rattle.p4_meaning.specs.Parts.{Parts, whole}

-- action, table: the most that a call of an action gives, and the application of a table, by their full names
module _ (action table : List ℕ → ℕ) where
  abbrev pub most_of_act : Act → ℕ
  most_of_act (makes h b) = 0
  most_of_act drops = 0
  most_of_act (reads x t i) = 0
  most_of_act (writes x i v) = 0
  most_of_act (tells n es) = 1
  most_of_act (sums verifies c es field) = 0
  most_of_act (runs x es) = action x
  most_of_act (applies x) = table x
  most_of_act idle = 0

  -- a test may apply a table
  abbrev pub most_of_test : Option (List ℕ × Bool) → ℕ
  most_of_test None = 0
  most_of_test (Some t) = table t.0

  abbrev mutual
    pub most_of_stmt : Stmt → ℕ
    most_of_stmt (nothing p) = 0
    most_of_stmt (block p ss) = most_of ss
    most_of_stmt (var p ty x e) = 0
    most_of_stmt (assign p target e) = 0
    most_of_stmt (choice p e a b) = most_of_test (application e) + max (most_of_stmt a) (most_of_else b)
    most_of_stmt (return_ p) = 0
    most_of_stmt (exit_ p) = 0
    most_of_stmt (call p callee args) = most_of_act (act_of callee args)

    pub most_of_else : MaybeStmt → ℕ
    most_of_else without = 0
    most_of_else (otherwise s) = most_of_stmt s

    -- the most digests that statements give
    pub most_of : Stmts → ℕ
    most_of done = 0
    most_of (next s ss) = most_of_stmt s + most_of ss

-- no action is called and no table applied
abbrev pub none_told : List ℕ → ℕ
none_told x = 0

-- the most that an action gives; where there is none, as for `NoAction`, none
abbrev pub most_of_action : Option Action → ℕ
most_of_action None = 0
most_of_action (Some a) = most_of none_told none_told a.body

abbrev pub most_named : List Action → List ℕ → ℕ
most_named as' x = most_of_action (action_named as' x)

-- the greatest of what some actions give
abbrev pub greatest : List Action → List (List ℕ) → ℕ
greatest as' [] = 0
greatest as' (x ∷ xs) = max (most_named as' x) (greatest as' xs)

-- the most that the application of a table gives: that of its actions and its default
abbrev pub most_of_table : List Action → Option Table → ℕ
most_of_table as' None = 0
most_of_table as' (Some t) = greatest as' (t.default.action ∷ t.actions)

abbrev pub most_applied : List Action → List Table → List ℕ → ℕ
most_applied as' ts x = most_of_table as' (table_named ts x)

-- the most that the entry half gives. In verify checksum a well-typed program tells none
abbrev pub enter_bound : Parts → ℕ
enter_bound p = most_of none_told none_told p.verify + most_of (most_named p.actions) (most_applied p.actions p.tables) (whole p.ingress)

-- the most that the exit half gives
abbrev pub leave_bound : Parts → ℕ
leave_bound p = most_of (most_named p.actions) (most_applied p.actions p.tables) (whole p.egress)

-- the most that a passage gives
abbrev pub digest_bound : Parts → ℕ
digest_bound p = enter_bound p + leave_bound p
