-- How many digests the trees of a property tell. Read `Rules` before it, and `Digests` of `linked_rules`.
use Rattle.std.specs.Prelude.{ℕ, ◌+◌, ◌≤◌, max, List}
use Rattle.indus_tree.specs.Tree.{Stmt, Stmts, assign, cell, push, choice, loop, reject, report, done, next}
use Rattle.indus_types.specs.Sums.{property_weight}
use Rattle.p4_meaning.specs.Scope.{Roots}
use Rattle.p4_scopes.specs.Scopes.{Scope, add_up}
use Rattle.linked_rules.specs.Digests.{Tells}
use Rattle.whole_properties.specs.Whole.{Given, init, tele, check}
use Rattle.whole_properties.specs.Asked.{IsGiven}
use Rattle.monitor_trees.specs.Trees.{trees_of}

abbrev mutual
  -- the most that a statement of flat code tells: a report is one, and of an `if` the arm that tells more counts
  pub told_by : Stmt → ℕ
  told_by (assign p x e) = 0
  told_by (cell p x i e) = 0
  told_by (push p x e) = 0
  told_by (choice p t a b) = max (told_in a) (told_in b)
  told_by (loop p xs ls a) = 0
  told_by (reject p) = 0
  told_by (report p n es) = 1

  pub told_in : Stmts → ℕ
  told_in done = 0
  told_in (next c ss) = add_up (told_by c) (told_in ss)

-- in front of what tells so many
abbrev pub told_before : Stmts → ℕ → ℕ
told_before done k = k
told_before (next c ss) k = add_up (told_by c) (told_before ss k)

module _ (g : Given) where
  abbrev pub entry_told : ℕ
  entry_told = told_in (init g)

  abbrev pub exit_told : ℕ
  exit_told = told_before (tele g) (told_in (check g))

-- the trees tell so many, in each scope in which a control of a linked program can stand
abbrev pub TreesTell : Type 0
TreesTell =
    (g : Given) → IsGiven g → (S : Scope) (H M : List ℕ) (r q : Roots) → Tells (trees_of g r q) S H M r q (entry_told g) (exit_told g)

-- both together are no more than the property weighs
abbrev pub TreesTellFew : Type 0
TreesTellFew = (g : Given) → entry_told g + exit_told g ≤ property_weight g.property
