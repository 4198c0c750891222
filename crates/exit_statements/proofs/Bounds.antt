-- A control without exits gives at most as many digests as the given one.
use Rattle.std.proofs.Common.{◌≡◌, ℕ, List, [], ◌∷◌, map, Bool, true, false, ◌||◌, ◌+◌, if◌then◌else◌, Option, Some, None, refl, ap, ap₂, ◌∙◌, arith}
use Rattle.std.specs.Prelude.{max}
use Rattle.std.specs.Option.{option_map}
use Rattle.p4_tree.specs.Tree.{Stmt, Stmts, MaybeStmt, nothing, block, var, assign, choice, return_, exit_, call, done, next, without, otherwise, and_then}
use Rattle.p4_meaning.specs.Actions.{Action, action_named}
use Rattle.p4_meaning.specs.Tables.{Table, table_named}
use Rattle.p4_meaning.specs.DigestBound.{most_of_test, most_of_stmt, most_of_else, most_of, none_told, most_of_action, most_named, greatest, most_of_table, most_applied}
use Rattle.p4_meaning.specs.Statements.{application}
use Rattle.exit_statements.specs.Without.{Body, in_action, in_control, Flags, exit_in, Exits, no_exits, test_leaves, stmt_leaves, stmts_leave, is_var, in_list, in_branch, stmt_without, else_without, stmts_without}
use Rattle.exit_statements.specs.Actions.{lowered, flags_in, action_without, exits_of}
use Rattle.exit_statements.specs.Controls.{with_flag}
use Rattle.exit_statements.specs.Bounds.{BoundsAgree}
use Rattle.exit_statements.proofs.Called.{same_action}

module _ (f g : List ℕ → ℕ) (n : Flags) (m : Exits) (body : Body) where
  list_bound : (l v : Bool) (s : Stmt) → most_of_stmt f g (in_list n m body l v s) ≡ most_of_stmt f g s
  list_bound false v s = refl
  list_bound true true s = refl
  list_bound true false s = omega arith

  branch_bound : (l : Bool) (s : Stmt) → most_of_stmt f g (in_branch n m body l s) ≡ most_of_stmt f g s
  branch_bound false s = refl
  branch_bound true s = omega arith

  exit_bound : (body : Body) → most_of_stmt f g (exit_in n body) ≡ 0
  exit_bound in_action = refl
  exit_bound in_control = refl

  mutual
    same_bound : (s : Stmt) → most_of_stmt f g (stmt_without n m body s) ≡ most_of_stmt f g s
    same_bound (nothing p) = refl
    same_bound (block p ss) = same_bounds false ss
    same_bound (var p ty x e) = refl
    same_bound (assign p target e) = refl
    same_bound (choice p e s t) = ap₂ (λ a b. most_of_test f g (application e) + max a b) (branch_bound (test_leaves m e) (stmt_without n m body s) ∙ same_bound s) (same_else (test_leaves m e) t)
    same_bound (return_ p) = refl
    same_bound (exit_ p) = exit_bound body
    same_bound (call p callee args) = refl

    same_else : (l : Bool) (s : MaybeStmt) → most_of_else f g (else_without n m body l s) ≡ most_of_else f g s
    same_else l without = refl
    same_else l (otherwise s) = branch_bound l (stmt_without n m body s) ∙ same_bound s

    same_bounds : (l : Bool) (ss : Stmts) → most_of f g (stmts_without n m body l ss) ≡ most_of f g ss
    same_bounds l done = refl
    same_bounds l (next s ss) = ap₂ (λ a b. a + b) (list_bound l (is_var s) (stmt_without n m body s) ∙ same_bound s) (same_bounds (l || stmt_leaves m s) ss)

module _ (left : List ℕ) (returned : List ℕ → List ℕ) where
  same_of_action : (o : Option Action) → most_of_action (option_map (action_without left returned) o) ≡ most_of_action o
  same_of_action None = refl
  same_of_action (Some a) = at (stmts_leave no_exits a.body)
    where
      at : (l : Bool) → most_of none_told none_told (if l then next (lowered (returned a.name)) (stmts_without (flags_in left returned a.name) no_exits in_action false a.body) else a.body) ≡ most_of none_told none_told a.body
      at true = omega (arith, same_bounds none_told none_told (flags_in left returned a.name) no_exits in_action false a.body)
      at false = refl

  same_named : (as' : List Action) (x : List ℕ) → most_named (map (action_without left returned) as') x ≡ most_named as' x
  same_named as' x = ap most_of_action (same_action left returned as' x) ∙ same_of_action (action_named as' x)

  same_greatest : (as' : List Action) (xs : List (List ℕ)) → greatest (map (action_without left returned) as') xs ≡ greatest as' xs
  same_greatest as' [] = refl
  same_greatest as' (x ∷ xs) = ap₂ max (same_named as' x) (same_greatest as' xs)

  same_table : (as' : List Action) (o : Option Table) → most_of_table (map (action_without left returned) as') o ≡ most_of_table as' o
  same_table as' None = refl
  same_table as' (Some t) = same_greatest as' (t.default.action ∷ t.actions)

-- statements behind others
behind : (f g : List ℕ → ℕ) (first ss ts : Stmts) → most_of f g ss ≡ most_of f g ts → most_of f g (and_then first ss) ≡ most_of f g (and_then first ts)
behind f g done ss ts h = h
behind f g (next s first) ss ts h = ap (λ k. most_of_stmt f g s + k) (behind f g first ss ts h)

pub bounds_agree : BoundsAgree
bounds_agree flagged n returned as' ts b =
    ap₂ (λ (f g : List ℕ → ℕ). most_of f g (and_then (with_flag flagged n.left b.locals) (stmts_without n (exits_of as' ts) in_control false b.body)))
    (λ i x. same_named n.left returned as' x i)
    (λ i x. same_table n.left returned as' (table_named ts x) i)
    ∙ (flag_counts flagged
    ∙ behind f g b.locals (stmts_without n (exits_of as' ts) in_control false b.body) b.body (same_bounds f g n (exits_of as' ts) in_control false b.body))
  where
    f : List ℕ → ℕ
    f = most_named as'

    g : List ℕ → ℕ
    g = most_applied as' ts

    zero_first : (k : ℕ) → 0 + k ≡ k
    zero_first k = omega arith

    flag_counts : (l : Bool) → most_of f g (and_then (with_flag l n.left b.locals) (stmts_without n (exits_of as' ts) in_control false b.body)) ≡ most_of f g (and_then b.locals (stmts_without n (exits_of as' ts) in_control false b.body))
    flag_counts true = zero_first (most_of f g (and_then b.locals (stmts_without n (exits_of as' ts) in_control false b.body)))
    flag_counts false = refl
