use Rattle.std.proofs.Common.{length, length-set, false, ◌∙◌, arith}
use Rattle.slot_parsers.proofs.RunLemmas.{cleared_more, all_cleared}
use Rattle.slot_parsers.proofs.running.clear.Goals as goal

pub loop-i-preserved : goal.loop-i-preserved
loop-i-preserved c = record {
  cleared = cleared_more c.loop-i.passed c.loop-i.i (omega arith) c.loop-i.invariant.cleared;
  long = length-set c.loop-i.passed c.loop-i.i false ∙ c.loop-i.invariant.long;
}

pub returns : goal.returns
returns c = all_cleared c.loop-i.passed c.loop-i.i (length c.args.passed.now) (omega arith) c.loop-i.invariant.long c.loop-i.invariant.cleared
