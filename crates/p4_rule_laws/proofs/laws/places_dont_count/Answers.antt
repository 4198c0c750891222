use Rattle.p4_rule_laws.proofs.PlainPrograms.{well_typed_anywhere, block_anywhere}
use Rattle.p4_rule_laws.proofs.laws.places_dont_count.Goals as goal

pub returns : goal.returns
returns c = record { blocks = block_anywhere; programs = well_typed_anywhere }
