-- One statement of a block more.
use Rattle.std.proofs.Common.{◌≡◌, ℕ, suc, ◌+◌, ◌<◌, List, ◌∷◌, ◌++◌, length, get_or, drop, drop-cons, sym, ap, ◌∙◌, arith}
use Rattle.indus_tree.specs.Tree as indus
use Rattle.indus_tree.specs.Tree.{Decl}
use Rattle.indus_tree.specs.View.{block_of, stmt_of}
use Rattle.indus_tree.specs.declared.tree.Stmt as code_indus
use Rattle.p4_tree.specs.Tree.{Stmts, and_then}
use Rattle.p4_tree.specs.View.{stmts_of}
use Rattle.p4_tree.specs.declared.statement.Stmt as code
use Rattle.lowered_code.specs.Environment.{Environment}
use Rattle.lowered_code.specs.Statements.{stmt_code, stmt_end, block_code, block_end}
use Rattle.lower_code.proofs.Blocks.{block_more}

pub next_stmt : (ss : List code_indus.Stmt) (i : ℕ) (s : code_indus.Stmt) → i < length ss → s ≡ get_or ss i s → block_of (drop i ss) ≡ indus.next (stmt_of s) (block_of (drop (i + 1) ss))
next_stmt ss i s lt is =
    let more : suc i ≡ i + 1 = omega arith in
    ap block_of (drop-cons ss i s lt ∙ ap (λ (x : code_indus.Stmt). x ∷ drop (suc i) ss) (sym is)) ∙ ap (λ (n : ℕ). indus.next (stmt_of s) (block_of (drop n ss))) more

module _ (ds : List Decl) (ss : List code_indus.Stmt) (i : ℕ) (s : code_indus.Stmt) (lt : i < length ss) (is : s ≡ get_or ss i s) (from to : ℕ) (end : to ≡ stmt_end ds (stmt_of s) from) where
  pub end_more : (whole : ℕ) → block_end ds (block_of (drop i ss)) from ≡ whole → block_end ds (block_of (drop (i + 1) ss)) to ≡ whole
  end_more whole so = ap (λ (n : ℕ). block_end ds (block_of (drop (i + 1) ss)) n) end ∙ ap (λ (b : indus.Stmts). block_end ds b from) (sym (next_stmt ss i s lt is)) ∙ so

  pub code_more : (a : Environment) (old new more : List code.Stmt) → new ≡ old ++ more → stmts_of more ≡ stmt_code a ds (stmt_of s) from
      → (whole : Stmts) → and_then (stmts_of old) (block_code a ds (block_of (drop i ss)) from) ≡ whole → and_then (stmts_of new) (block_code a ds (block_of (drop (i + 1) ss)) to) ≡ whole
  code_more a old new more appended coded whole so =
      block_more new old more (stmt_code a ds (stmt_of s) from) (block_code a ds (block_of (drop (i + 1) ss)) to) appended coded
      ∙ ap (λ (n : ℕ). and_then (stmts_of old) (and_then (stmt_code a ds (stmt_of s) from) (block_code a ds (block_of (drop (i + 1) ss)) n))) end
      ∙ ap (λ (b : indus.Stmts). and_then (stmts_of old) (block_code a ds b from)) (sym (next_stmt ss i s lt is))
      ∙ so
