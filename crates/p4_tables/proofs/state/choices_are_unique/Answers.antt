use Rattle.std.proofs.Common.{subst}
use Rattle.p4_tables.specs.Laws.{ChoicesAreUnique}
use Rattle.p4_tables.proofs.Applied.{choices_are_unique}
use Rattle.p4_tables.proofs.state.choices_are_unique.Goals as goal

pub returns : goal.returns
returns c = subst ChoicesAreUnique c.state.view_is (choices_are_unique _ c.state.invariant.sound)
