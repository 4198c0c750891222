use Rattle.p4_declaration_rules.proofs.NameTables.{states_table_next}
use Rattle.p4_declaration_rules.proofs.parsers.state_table.Goals as goal

pub loop-state-preserved : goal.loop-state-preserved
loop-state-preserved c = λ x.
    states_table_next c.loop-state.table.keys c.insert.new.self.keys c.as_str.result c.state-item.result c.as_str.ensures c.in_ok-insert.ensures.keys c.args.states.now c.loop-state.state-index c.loop-state-test.true c.state-item.is x
    (c.loop-state.invariant x)
