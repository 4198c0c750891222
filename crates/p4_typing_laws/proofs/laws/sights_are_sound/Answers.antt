use Rattle.p4_typing_laws.proofs.FineUses.{each_sound}
use Rattle.p4_typing_laws.proofs.laws.sights_are_sound.Goals as goal

pub returns : goal.returns
returns c = each_sound
