use Rattle.std.proofs.Common.{◌∙◌}
use Rattle.indus_types.proofs.NamesLemmas.{table_step}
use Rattle.indus_types.proofs.names.name_table.Goals as goal

pub loop-d-preserved : goal.loop-d-preserved
loop-d-preserved c = table_step c.args.decls.now c.loop-d.d-index c.d-item.result c.loop-d.table.keys c.insert.new.self.keys c.in_ok-name.name c.loop-d-test.true c.d-item.is c.loop-d.invariant.0 c.loop-d.invariant.1 (c.in_ok-name.ensures.ok ∙ c.as_str.ensures) c.in_ok-insert.ensures.keys
