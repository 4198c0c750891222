use Rattle.indus_types.proofs.SoundSights.{sights_sound}
use Rattle.indus_types.proofs.laws.sights_are_sound.Goals as goal

pub returns : goal.returns
returns c = sights_sound
