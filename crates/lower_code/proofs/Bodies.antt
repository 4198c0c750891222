-- What a statement does is what it reads and what it does behind that.
use Rattle.std.proofs.Common.{◌≡◌, ℕ, ◌+◌, List, [], ◌++◌, length, refl, sym, append-nil, arith}
use Rattle.indus_tree.specs.Tree.{Decl, Stmt, assign, cell, push, choice, loop, reject, report}
use Rattle.p4_tree.specs.Tree.{and_then}
use Rattle.lowered_code.specs.Environment.{Environment}
use Rattle.lowered_code.specs.Reads.{reads_stmts}
use Rattle.lowered_code.specs.Statements.{stmt_code, stmt_end, stmt_reads}
use Rattle.lower_code.specs.Bodies.{body_code, body_end}

pub code_is : (a : Environment) (ds : List Decl) (s : Stmt) (n : ℕ) → and_then (reads_stmts a ds n [] n (stmt_reads ds s)) (body_code a ds s n (stmt_reads ds s)) ≡ stmt_code a ds s n
code_is a ds (assign p x e) n = refl
code_is a ds (cell p x i e) n = refl
code_is a ds (push p x e) n = refl
code_is a ds (choice p t b c) n = refl
code_is a ds (loop p xs ls b) n = refl
code_is a ds (reject p) n = refl
code_is a ds (report p m es) n = refl

pub end_is : (ds : List Decl) (s : Stmt) (n : ℕ) → body_end ds s (n + length (stmt_reads ds s)) ≡ stmt_end ds s n
end_is ds (assign p x e) n = refl
end_is ds (cell p x i e) n = refl
end_is ds (push p x e) n = omega arith
end_is ds (choice p t b c) n = refl
end_is ds (loop p xs ls b) n = omega arith
end_is ds (reject p) n = omega arith
end_is ds (report p m es) n = refl
