use Rattle.solo_law.proofs.Law.{sound}
use Rattle.solo_law.proofs.interleavings.the_law_is_sound.Goals as goal

pub returns : goal.returns
returns c = sound
