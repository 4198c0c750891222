use Rattle.std.proofs.Common.{ap, ◌∙◌}
use Rattle.p4_scopes.specs.Resolving.{or_missing}
use Rattle.p4_scopes.specs.Entries.{table_at}
use Rattle.p4_scopes.proofs.entry.entry_field.Goals as goal

pub returns-in-Some : goal.returns-in-Some
returns-in-Some c = rw c.in-Fields.is (ap or_missing (c.in-Some.ensures.value ∙ ap (table_at c.in-Fields.fields.entries) c.as_str.ensures))

pub returns-in-None : goal.returns-in-None
returns-in-None c = rw c.in-Fields.is (ap or_missing (c.in-None.ensures.value ∙ ap (table_at c.in-Fields.fields.entries) c.as_str.ensures))
