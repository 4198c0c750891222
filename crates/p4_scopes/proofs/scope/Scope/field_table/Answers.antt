use Rattle.std.proofs.Common.{sym, ◌∙◌}
use Rattle.p4_scopes.proofs.Changes.{table_set, field_again, field_new}
use Rattle.p4_scopes.proofs.scope.Scope.field_table.Goals as goal
use Rattle.p4_scopes.proofs.scope.Scope.field_table.Goals.{then-not-contains_key+in_ok-insert, else-not-contains_key}

pub loop-f-preserved : goal.loop-f-preserved
loop-f-preserved c =
    elim c.if-not-contains_key.branch [
      | then-not-contains_key+in_ok-insert w ↦ rw w.table-is
          (field_new c.args.self.now c.args.fields.now c.loop-f.f-index c.f-item.result c.loop-f.table.entries w.insert.new.self.entries w.resolve.result c.loop-f-test.true c.f-item.is c.loop-f.invariant
          c.as_str-name.result.now c.as_str-name.ensures (sym c.contains_key.ensures ∙ w.if-not-contains_key.true) w.resolve.ensures
          (table_set c.loop-f.table.entries w.insert.new.self.entries c.as_str-name.result w.resolve.result w.in_ok-insert.ensures.updates.0))
      | else-not-contains_key w ↦ rw w.table-is
          (field_again c.args.self.now c.args.fields.now c.loop-f.f-index c.f-item.result c.loop-f.table.entries c.loop-f-test.true c.f-item.is c.loop-f.invariant
          c.as_str-name.result.now c.as_str-name.ensures (sym c.contains_key.ensures ∙ w.if-not-contains_key.false))
    ]
