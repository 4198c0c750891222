use Rattle.p4_declaration_rules.proofs.NameTables.{table_next}
use Rattle.p4_declaration_rules.proofs.names.name_table.Goals as goal

pub loop-name-preserved : goal.loop-name-preserved
loop-name-preserved c = λ x.
    table_next c.loop-name.table.keys c.insert.new.self.keys c.as_str.result c.name-item.result c.as_str.ensures c.in_ok-insert.ensures.keys c.args.names.now c.loop-name.name-index c.loop-name-test.true c.name-item.is x
    (c.loop-name.invariant x)
