use Rattle.std.proofs.Common.{[], arith}
use Rattle.p4_types.specs.Numbers.{registers}
use Rattle.p4_types.proofs.Numbered.{tops_next}
use Rattle.register_texts.proofs.Named.{names_more}
use Rattle.register_texts.proofs.names.tops_names.Goals as goal

pub loop-top-preserved : goal.loop-top-preserved
loop-top-preserved c =
    names_more [] _ _ _ _ _ c.loop-top.invariant c.in_ok-put_top.ensures
    (tops_next registers c.args.tops.now c.loop-top.top-index c.top-item.result (omega arith) c.top-item.is)
