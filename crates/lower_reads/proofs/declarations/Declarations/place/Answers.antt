use Rattle.std.proofs.Common.{◌∙◌, ap}
use Rattle.p4_types.specs.Kept.{at_name}
use Rattle.lower_reads.proofs.declarations.Declarations.place.Goals as goal

pub returns : goal.returns
returns c = c.copied.ensures ∙ c.get.ensures.value ∙ ap (at_name c.args.self.now.places.entries) c.as_str.ensures ∙ c.args.self.now.placed c.args.name.now
