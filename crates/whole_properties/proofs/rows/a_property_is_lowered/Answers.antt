use Rattle.std.proofs.Common.{refl, arith}
use Rattle.std.specs.Fmt.{digits}
use Rattle.indus_types.proofs.Checked.{no_fault}
use Rattle.lower_lists.specs.Names.{item_name, count_name}
use Rattle.flat_laws.specs.Meaning.{IsPlainProperty}
use Rattle.whole_properties.specs.Asked.{IsGiven}
use Rattle.whole_properties.specs.Example.{looks, looking}
use Rattle.whole_properties.proofs.rows.a_property_is_lowered.Goals as goal

plain : IsPlainProperty looks
plain = record { typed = no_fault looks refl; plain = (refl, (refl, (refl, (refl, tt)))); few = omega arith }

given : IsGiven looking
given = record { plain = plain; light = omega arith; reports = record { init = (((tt, tt), tt), tt); tele = tt; check = tt }; own_views = ((refl, refl), tt) }

pub returns : goal.returns
unfolding item_name count_name digits
returns c = record { given = given; telemetry = refl; registers = refl; tables = refl; locals = refl; code = refl }
