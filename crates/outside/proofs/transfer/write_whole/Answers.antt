use Rattle.std.proofs.Common.{rules, arith, length-take, length-drop}
use Rattle.outside.proofs.TransferLemmas.{appends_more}
use Rattle.outside.proofs.transfer.write_whole.Goals as goal
use Rattle.outside.proofs.transfer.write_whole.Goals.{in-Ok, in-Err+else-not-matches}

pub loop-preserved : goal.loop-preserved
loop-preserved g c =
    elim c.match-write.branch [
      | in-Ok w ↦ rw w.at-is (record {
        within = omega (arith, simp (length-take, length-drop) at w.in-Ok.ensures.bound);
        written = appends_more _ _ _ _ _ _ c.loop.invariant.written w.in-Ok.ensures.bytes;
      })
      | in-Err+else-not-matches w ↦ search rules
    ]
