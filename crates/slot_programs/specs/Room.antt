-- How many slots variables and parameters need beside those of a program's paths. Read `Parts` of the trees' meaning before
-- it; `Sight` after it.
use Rattle.std.specs.Prelude.{ℕ, ◌+◌, max, List, [], ◌∷◌, length}
use Rattle.p4_tree.specs.Tree.{Stmt, Stmts, MaybeStmt, nothing, block, var, assign, choice, return_, exit_, call, done, next, without, otherwise}
use Rattle.p4_meaning.specs.Actions.{Action}
use Rattle.p4_meaning.specs.Parts.{Parts, whole}

abbrev mutual
  -- the variables that a statement declares, in blocks too; of the branches of an `if` the greater number counts
  pub variables_of : Stmt → ℕ
  variables_of (nothing p) = 0
  variables_of (block p ss) = variables_in ss
  variables_of (var p ty x e) = 1
  variables_of (assign p target e) = 0
  variables_of (choice p e a b) = max (variables_of a) (variables_else b)
  variables_of (return_ p) = 0
  variables_of (exit_ p) = 0
  variables_of (call p callee args) = 0

  pub variables_else : MaybeStmt → ℕ
  variables_else without = 0
  variables_else (otherwise s) = variables_of s

  pub variables_in : Stmts → ℕ
  variables_in done = 0
  variables_in (next s ss) = variables_of s + variables_in ss

-- the parameters and the variables of an action, and the most that one of some actions has
abbrev pub action_room : Action → ℕ
action_room a = length a.params + variables_in a.body

abbrev pub actions_room : List Action → ℕ
actions_room [] = 0
actions_room (a ∷ as') = max (action_room a) (actions_room as')

-- the most variables that a control has at once, with those of an action
abbrev pub room_of : Parts → ℕ
room_of p =
    max (max (variables_in p.verify) (variables_in p.compute))
    (max (variables_in (whole p.ingress)) (variables_in (whole p.egress)) + actions_room p.actions)
