use Rattle.std.proofs.Common.{◌≡◌, List, [], drop_of_length-le, sym, ap, ◌∙◌}
use Rattle.indus_tree.specs.View.{block_of, stmt_of}
use Rattle.indus_tree.specs.declared.tree.Stmt as code
use Rattle.p4_tree.specs.Tree.{and_then}
use Rattle.p4_tree.specs.View.{stmts_of}
use Rattle.indus_tree.specs.Tree.{Expr}
use Rattle.lowered_code.specs.Reads.{reads_stmts}
use Rattle.lowered_code.specs.Statements.{block_code, stmt_reads}
use Rattle.lower_code.specs.Bodies.{body_code}
use Rattle.lower_reads.specs.View.{declared, lent}
use Rattle.lower_code.specs.View.{environment_of}
use Rattle.lower_code.proofs.Blocks.{block_is, joined_done}
use Rattle.lower_code.proofs.Bodies.{code_is}
use Rattle.lower_code.proofs.Turns.{code_more, end_more}
use Rattle.lower_code.proofs.statements.+code.Goals as goal

pub block_code-loop-s-preserved : goal.block_code-loop-s-preserved
block_code-loop-s-preserved t c =
    let ds = declared c.args.decls.now in
    record {
      stmts = code_more ds c.args.list.now c.loop-s.s-index c.s-item.result c.loop-s-test.true c.s-item.is c.loop-s.end c.in_ok-more.more.end c.in_ok-more.ensures.end
          (environment_of c.args.roots.now) c.loop-s.stmts.items c.append.new.self.items c.in_ok-more.more.stmts.items c.in_ok-append.ensures.items c.in_ok-more.ensures.stmts _ c.loop-s.invariant.stmts;
      end = end_more ds c.args.list.now c.loop-s.s-index c.s-item.result c.loop-s-test.true c.s-item.is c.loop-s.end c.in_ok-more.more.end c.in_ok-more.ensures.end _ c.loop-s.invariant.end;
    }

pub block_code-returns-clause-stmts : goal.block_code-returns-clause-stmts
block_code-returns-clause-stmts t c =
    sym (joined_done (stmts_of c.loop-s.stmts.items))
    ∙ ap (λ (ss : List code.Stmt). and_then (stmts_of c.loop-s.stmts.items) (block_code (environment_of c.args.roots.now) (declared c.args.decls.now) (block_of ss) c.loop-s.end)) (sym (drop_of_length-le c.args.list.now c.loop-s-test.false))
    ∙ c.loop-s.invariant.stmts

pub stmt_code-returns-clause-stmts : goal.stmt_code-returns-clause-stmts
stmt_code-returns-clause-stmts t c =
    let a = environment_of c.args.roots.now in
    let ds = declared c.args.decls.now in
    let s = stmt_of c.args.s.now in
    let n = c.args.base in
    let same : lent c.deref.result.now ≡ stmt_reads ds s = ap lent c.deref.ensures.value ∙ c.in_ok-reads.ensures in
    block_is c.append.new.self.items c.in_ok-stmts.stmts.items c.in_ok-body.body.stmts.items (reads_stmts a ds n [] n (stmt_reads ds s)) (body_code a ds s n (stmt_reads ds s)) c.in_ok-append.ensures.items
    (c.in_ok-stmts.ensures ∙ ap (λ (l : List Expr). reads_stmts a ds n [] n l) same)
    (c.in_ok-body.ensures.stmts ∙ ap (body_code a ds s n) same)
    ∙ code_is a ds s n
