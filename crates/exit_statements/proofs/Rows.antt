-- Worked rows: statements, and what stands in their place. The flags are `l` and `r`; the action `a` and the table `t` may
-- exit.
use Rattle.std.proofs.Common.{◌≡◌, ℕ, List, [], ◌∷◌, true, false, refl, codes, Some, None}
use Rattle.lex_text.specs.Names.{same_text}
use Rattle.p4_tree.specs.Tree.{Expr, flag, path, applied, negation, Stmt, Stmts, block, var, assign, choice, return_, exit_, call, done, next, without, otherwise}
use Rattle.p4_tree.specs.declared.statement.PTy.TheVariants as type
use Rattle.exit_statements.specs.Without.{in_action, in_control, Flags, raised, Exits, no_exits, stmts_without}
use Rattle.exit_statements.specs.Actions.{body_without}

abbrev n : Flags
n = record { left = codes "l"; returned = codes "r" }

abbrev m : Exits
m = record { action = λ x. same_text x (codes "a"); table = λ x. same_text x (codes "t") }

abbrev one : Stmt → Stmts
one s = next s done

abbrev x : Expr
x = path 0 (codes "x" ∷ [])

abbrev sets : Stmt
sets = assign 0 (codes "x" ∷ []) (flag 0 true)

abbrev declares : Stmt
declares = var 0 type.Bool (codes "y") None

abbrev calls : List ℕ → Stmt
calls y = call 0 (y ∷ []) []

abbrev applies : Expr
applies = applied 0 (codes "t") true

abbrev guards : List ℕ → Stmt → Stmt
guards y s = choice 0 (negation 0 (path 0 (y ∷ []))) s without

-- exit; x = true;
exit_in_a_control : stmts_without n m in_control false (next (exit_ 0) (one sets)) ≡ next (raised (codes "l")) (one (guards (codes "l") sets))
exit_in_a_control = refl

-- return; x = true;
return_in_a_control : stmts_without n m in_control false (next (return_ 0) (one sets)) ≡ next (raised (codes "l")) (one (guards (codes "l") sets))
return_in_a_control = refl

-- exit; x = true; in an action
exit_in_an_action : stmts_without n no_exits in_action false (next (exit_ 0) (one sets)) ≡ next (block 0 (next (raised (codes "l")) (one (raised (codes "r"))))) (one (guards (codes "r") sets))
exit_in_an_action = refl

-- return; x = true; in an action
return_in_an_action : stmts_without n no_exits in_action false (next (return_ 0) (one sets)) ≡ next (raised (codes "r")) (one (guards (codes "r") sets))
return_in_an_action = refl

-- if (x) { return; } bool y; x = true;
declaration_behind_return : stmts_without n m in_control false (next (choice 0 x (block 0 (one (return_ 0))) without) (next declares (one sets))) ≡ next (choice 0 x (block 0 (one (raised (codes "l")))) without) (next declares (one (guards (codes "l") sets)))
declaration_behind_return = refl

-- a(); x = true;
behind_an_action : stmts_without n m in_control false (next (calls (codes "a")) (one sets)) ≡ next (calls (codes "a")) (one (guards (codes "l") sets))
behind_an_action = refl

-- b(); x = true;
behind_another_action : stmts_without n m in_control false (next (calls (codes "b")) (one sets)) ≡ next (calls (codes "b")) (one sets)
behind_another_action = refl

-- if (t.apply().hit) x = true; else b();
table_that_exits : stmts_without n m in_control false (one (choice 0 applies sets (otherwise (calls (codes "b"))))) ≡ one (choice 0 applies (block 0 (one (guards (codes "l") sets))) (otherwise (block 0 (one (guards (codes "l") (calls (codes "b")))))))
table_that_exits = refl

-- if (x) { if (x) exit; x = true; } else b(); x = true;
nested : stmts_without n m in_control false (next (choice 0 x (block 0 (next (choice 0 x (exit_ 0) without) (one sets))) (otherwise (calls (codes "b")))) (one sets)) ≡ next (choice 0 x (block 0 (next (choice 0 x (raised (codes "l")) without) (one (guards (codes "l") sets)))) (otherwise (calls (codes "b")))) (one (guards (codes "l") sets))
nested = refl

-- an action's body has a flag only where it may leave
body_that_leaves : body_without n (next sets (one (return_ 0))) ≡ next (var 0 type.Bool (codes "r") (Some (flag 0 false))) (next sets (one (raised (codes "r"))))
body_that_leaves = refl

body_that_stays : body_without n (next sets (one (calls (codes "a")))) ≡ next sets (one (calls (codes "a")))
body_that_stays = refl
