use Rattle.std.proofs.Common.{sym, ◌∙◌, arith}
use Rattle.wire_job.proofs.Control.{found_behind}
use Rattle.wire_job.proofs.load.first_control.Goals as goal

pub loop-decl-preserved : goal.loop-decl-preserved
loop-decl-preserved c =
    sym (found_behind c.args.decls.now c.loop-decl.decl-index c.decl-item.result (omega arith) c.decl-item.is (sym c.is_control.ensures ∙ c.if-is_control.false)) ∙ c.loop-decl.invariant
