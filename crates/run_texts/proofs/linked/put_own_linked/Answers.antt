use Rattle.run_texts.proofs.Behind.{then_more}
use Rattle.run_texts.proofs.linked.put_own_linked.Goals as goal

pub returns : goal.returns
returns c = then_more _ _ _ _ _ c.in_ok-put_own_programs.ensures c.in_ok-put_tables.ensures
