use Rattle.p4_typing_laws.proofs.TiedNames.{type_width, after_tied}
use Rattle.p4_typing_laws.proofs.TiedPlaces.{each_tied}
use Rattle.p4_typing_laws.proofs.laws.scopes_are_tied.Goals as goal

pub returns : goal.returns
returns c = record { programs = each_tied; variables = after_tied; types = type_width }
