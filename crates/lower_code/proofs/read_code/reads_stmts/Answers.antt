use Rattle.std.proofs.Common.{◌≡◌, ◌+◌, List, Bor, drop_of_length-le, get_or, take, sym, ap, ◌∙◌}
use Rattle.indus_tree.specs.declared.tree.Expr.{Expr}
use Rattle.p4_tree.specs.Tree.{and_then}
use Rattle.p4_tree.specs.View.{stmts_of}
use Rattle.lowered_code.specs.Reads.{reads_stmts}
use Rattle.lower_reads.specs.View.{declared, lent}
use Rattle.lower_code.specs.View.{environment_of}
use Rattle.lower_code.proofs.Blocks.{joined_done}
use Rattle.lower_code.proofs.Keys.{read_step}
use Rattle.lower_code.proofs.read_code.reads_stmts.Goals as goal

pub loop-i-preserved : goal.loop-i-preserved
loop-i-preserved c =
    let p = c.args.place.now in
    let same : c.index-place-i.result.now ≡ (get_or p.reads.now c.loop-i.i c.index-place-i.result).now = ap (λ (e : Bor Expr). e.now) c.index-place-i.is in
    read_step (environment_of p.roots.now) (declared p.decls.now) p.base p.reads.now c.loop-i.i c.loop-i-test.true c.index-place-i.result _ c.in_ok-number_at.field-0 c.loop-i.out.items c.append.new.self.items c.in_ok-more.more.items _
    c.in_ok-number_at.ensures c.in_ok-append.ensures.items c.in_ok-more.ensures (cc) c.loop-i.invariant

pub returns : goal.returns
returns c =
    let p = c.args.place.now in
    sym (joined_done (stmts_of c.loop-i.out.items))
    ∙ ap (λ (es : List (Bor Expr)). and_then (stmts_of c.loop-i.out.items) (reads_stmts (environment_of p.roots.now) (declared p.decls.now) p.base (lent (take c.loop-i.i p.reads.now)) (p.base + c.loop-i.i) (lent es))) (sym (drop_of_length-le p.reads.now c.loop-i-test.false))
    ∙ c.loop-i.invariant
