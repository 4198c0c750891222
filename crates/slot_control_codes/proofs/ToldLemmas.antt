-- How many digests steps give.
use Rattle.std.proofs.Common.{◌≡◌, ℕ, ◌+◌, ◌<◌, List, [], ◌∷◌, ◌++◌, length, get_or, drop, Some, None, ap, arith}
use Rattle.std.specs.Prelude.{max}
use Rattle.p4_tree.specs.View.{stmt_of, stmts_of}
use Rattle.p4_tree.specs.declared.statement.Stmt as code_stmt
use Rattle.p4_meaning.specs.DigestBound.{most_of_stmt, most_of}
use Rattle.slot_controls.specs.Steps.{Step, steps_from, most_told, most_told_all}
use Rattle.slot_statements.proofs.TreeLemmas.{drop_one}
use Rattle.slot_control_codes.specs.Found.{Test, by_term, by_table, test_branch, test_told}

-- a step behind others
pub told-append : (xs : List Step) (c : Step) → most_told_all (steps_from (xs ++ c ∷ [])) ≡ most_told_all (steps_from xs) + most_told c
told-append [] c = omega arith
told-append (x ∷ xs) c = (let e : most_told_all (steps_from (xs ++ c ∷ [])) ≡ most_told_all (steps_from xs) + most_told c = told-append xs c in omega (arith, e))

-- one statement more
pub told_more :
    (action table : List ℕ → ℕ) (whole : ℕ) (list : List code_stmt.Stmt) (i : ℕ) (x : code_stmt.Stmt) (xs : List Step) (c : Step) → i < length list → x ≡ get_or list i x → most_told c ≡ most_of_stmt action table (stmt_of x)
    → most_told_all (steps_from xs) + most_of action table (stmts_of (drop i list)) ≡ whole → most_told_all (steps_from (xs ++ c ∷ [])) + most_of action table (stmts_of (drop (i + 1) list)) ≡ whole
told_more action table whole list i x xs c lt is one all =
    let e : most_of action table (stmts_of (drop i list)) ≡ most_of_stmt action table (stmt_of x) + most_of action table (stmts_of (drop (i + 1) list)) = ap (λ ys. most_of action table (stmts_of ys)) (drop_one list i x lt is) in
    let f : most_told_all (steps_from (xs ++ c ∷ [])) ≡ most_told_all (steps_from xs) + most_told c = told-append xs c in
    omega (arith, e, f, one, all)

-- one of two steps, by a test
pub test_more : (t : Test) (a b : Step) (i j k : ℕ) → test_told t ≡ i → most_told a ≡ j → most_told b ≡ k → most_told (test_branch t a b) ≡ i + max j k
test_more (by_term t) a b i j k e f g = omega (arith, e, f, g)
test_more (by_table None asked) a b i j k e f g = omega (arith, e, f, g)
test_more (by_table (Some x) asked) a b i j k e f g = omega (arith, e, f, g)
