use Rattle.std.proofs.Common.{◌≡◌, ◌<◌, ◌≤◌, get_or, min, length, sym, ap, ◌∙◌, arith}
use Rattle.p4_tree.specs.Tree.{Stmt, and_then, done, next}
use Rattle.p4_tree.specs.View.{stmt_of, stmts_of}
use Rattle.lowered_code.specs.Reads.{apply}
use Rattle.lower_reads.specs.View.{declared, lent}
use Rattle.lower_code.specs.View.{environment_of}
use Rattle.lower_code.proofs.Blocks.{joined_done, stmt_more}
use Rattle.lower_code.proofs.Keys.{key_more, keys_end}
use Rattle.lower_code.proofs.read_code.read_control.Goals as goal

pub loop-part-preserved : goal.loop-part-preserved
loop-part-preserved c =
    let a = environment_of c.args.place.now.roots.now in
    let ds = declared c.args.place.now.decls.now in
    let base = c.args.place.now.base in
    let in_types : c.loop-part.part < length c.key_types-types.result.now = omega (arith, c.loop-part-test.true, c.min-part-end.ensures) in
    let in_key : c.loop-part.part < length c.args.key.now = omega (arith, c.loop-part-test.true, c.min-part-end.ensures) in
    stmt_more c.push.new.self.items c.loop-part.out.items c.in_ok-key_stmt.field-0 _ c.in_ok-push.ensures.items
    ∙ ap (and_then (stmts_of c.loop-part.out.items))
    (sym (key_more a ds base (lent c.args.place.now.reads.now) c.args.read (next (apply a ds base c.args.read) done) c.key_types-types.result.now c.args.key.now c.loop-part.part _ _ c.index-key-part.result in_types in_key
    (stmt_of c.in_ok-key_stmt.field-0) c.in_ok-key_stmt.ensures (let item : c.index-key-part.result ≡ get_or c.args.key.now c.loop-part.part c.index-key-part.result = c.index-key-part.is in cc)))
    ∙ c.loop-part.invariant

pub returns : goal.returns
returns c =
    let a = environment_of c.args.place.now.roots.now in
    let ds = declared c.args.place.now.decls.now in
    let base = c.args.place.now.base in
    let past : min (length c.key_types-types.result.now) (length c.args.key.now) ≤ c.loop-part.part = omega (arith, c.loop-part-test.false, c.min-part-end.ensures) in
    sym (joined_done (stmts_of c.push-2.new.self.items))
    ∙ stmt_more c.push-2.new.self.items c.loop-part.out.items c.in_ok-apply.field-0 done c.in_ok-push-2.ensures.items
    ∙ ap (and_then (stmts_of c.loop-part.out.items))
    (ap (λ (s : Stmt). next s done) c.in_ok-apply.ensures
    ∙ sym (keys_end a ds base (lent c.args.place.now.reads.now) c.args.read (next (apply a ds base c.args.read) done) c.key_types-types.result.now c.args.key.now c.loop-part.part past))
    ∙ c.loop-part.invariant
