-- Two forms of trees that the linker and a lowering share. Their places are 0.
use Rattle.std.specs.Prelude.{ℕ}
use Rattle.p4_tree.specs.Tree.{Expr, num, Stmts, Stmt, block, choice, without}

-- a number with a written width, or with none where that is 0
abbrev pub number : (width value : ℕ) → Expr
number w n = num 0 (record { width = w; value = n })

-- what stands in a test alone
abbrev pub only_if : Expr → Stmts → Stmt
only_if e ss = choice 0 e (block 0 ss) without
