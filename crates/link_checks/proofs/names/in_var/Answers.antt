use Rattle.std.proofs.Common.{◌∷◌, []}
use Rattle.link_faults.specs.WrittenNames.{names_of_type}
use Rattle.link_checks.proofs.names.in_var.Goals as goal

pub returns : goal.returns
returns c ns start = c.first-2.ensures (names_of_type c.args.ty.now) (c.args.x.now ∷ ns) c.in_type.ensures (c.first.ensures (c.args.x.now ∷ []) ns c.in_name.ensures start)
