-- Without a first broken rule none is broken.
use Rattle.std.proofs.Common.{sym, ◌∙◌}
use Rattle.indus_tree.specs.View.{property_of}
use Rattle.indus_types.proofs.Checked.{no_fault}
use Rattle.indus_types.proofs.typed.check_property.Goals as goal

pub with_names-requires : goal.with_names-requires
with_names-requires c = no_fault (property_of c.args.p) (sym c.in_ok-place.ensures ∙ c.in-None.is)

pub returns-in-Some-clause-cause : goal.returns-in-Some-clause-cause
returns-in-Some-clause-cause c = sym c.in_ok-place.ensures ∙ c.in-Some.is

pub returns-in_ok-with_names-in-None-clause-typed : goal.returns-in_ok-with_names-in-None-clause-typed
returns-in_ok-with_names-in-None-clause-typed c = no_fault (property_of c.args.p) (sym c.in_ok-place.ensures ∙ c.in-None.is)
