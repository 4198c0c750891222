use Rattle.p4_tables.specs.State.{Held}
use Rattle.table_entries.specs.View.{act_of}
use Rattle.p4_tables.proofs.Changed.{put_at}
use Rattle.p4_tables.proofs.held.put_default.Goals as goal

pub returns : goal.returns
returns c = put_at c.args.tables.now.items c.args.table c.index_mut.result.now c.set_default.new.self (λ (h : Held). record h { default = act_of c.args.default }) c.requires c.index_mut.ensures.value c.set_default.ensures
