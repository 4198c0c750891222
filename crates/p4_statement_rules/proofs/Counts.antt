-- Lengths of lists of trees are those of the program's values.
use Rattle.std.proofs.Common.{◌≡◌, ◌∙◌, ℕ, suc, false, nat_eq, List, [], ◌∷◌, length, map, refl, arith}
use Rattle.std.proofs.lemmas.Bool.Decides.{nat_tests}
use Rattle.p4_tree.specs.View.{arg_of, expr_of}
use Rattle.p4_tree.specs.declared.statement.Arg.{Arg}
use Rattle.p4_tree.specs.declared.statement.Expr.{Expr}
use Rattle.rule_tests.specs.Tests.{fine}
use Rattle.p4_scopes.specs.Scopes.{Scope}
use Rattle.p4_scopes.specs.declared.kind.Kind.{Kind}
use Rattle.p4_statement_rules.specs.Calls.{as_many, args_tests}

pub exprs_counted : (es : List Expr) → length (map expr_of es) ≡ length es
exprs_counted [] = refl
exprs_counted (e ∷ es) = let more : length (map expr_of es) ≡ length es = exprs_counted es in omega (arith, more)

pub args_counted : (args : List Arg) → length (map arg_of args) ≡ length args
args_counted [] = refl
args_counted (a ∷ args) = let more : length (map arg_of args) ≡ length args = args_counted args in omega (arith, more)

none_some : (n : ℕ) → false ≡ nat_eq 0 (suc n)
none_some n = grind (arith, nat_tests)

some_none : (n : ℕ) → false ≡ nat_eq (suc n) 0
some_none n = grind (arith, nat_tests)

one_more : (m n : ℕ) → nat_eq m n ≡ nat_eq (suc m) (suc n)
one_more m n = grind (arith, nat_tests)

-- as many members is one length
pub many_by_lengths : {A B : Type 0} (xs : List A) (ys : List B) → as_many xs ys ≡ nat_eq (length xs) (length ys)
many_by_lengths [] [] = refl
many_by_lengths [] (y ∷ ys) = none_some (length ys)
many_by_lengths (x ∷ xs) [] = some_none (length xs)
many_by_lengths (x ∷ xs) (y ∷ ys) = many_by_lengths xs ys ∙ one_more (length xs) (length ys)

-- no argument is left
pub no_args : (s : Scope) (ks : List Kind) → args_tests s ks [] ≡ fine
no_args s [] = refl
no_args s (k ∷ ks) = refl
