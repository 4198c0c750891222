use Rattle.std.proofs.Common.{rules, arith, ◌-◌}
use Rattle.outside.proofs.PuttingLemmas.{takes_front}
use Rattle.outside.proofs.mem_sink.MemSinkSink.put.Goals as goal

pub returns-else-bytes-spare-clause-content : goal.returns-else-bytes-spare-clause-content
returns-else-bytes-spare-clause-content c =
    takes_front _ _ _ _ (c.args.self.now.room - c.len.result) _ (omega arith) c.append-else-bytes-spare.ensures.items (search rules)
