use Rattle.std.proofs.Common.{refl, sym}
use Rattle.table_entries.proofs.Noted.{no_one, priority_noted}
use Rattle.table_entries.proofs.index.note_priority.Goals as goal

pub returns-in_ok-insert-clause-ok : goal.returns-in_ok-insert-clause-ok
returns-in_ok-insert-clause-ok c =
    priority_noted c.args.places.now c.insert.new.self (record { 0 = c.args.priority }) c.args.place (no_one _ _ (sym c.if-not-contains_key.ensures) refl) c.in_ok-insert.ensures.updates
