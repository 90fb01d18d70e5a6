use Rattle.solo_law.proofs.Placed.{solo-lawful}
use Rattle.solo_law.proofs.interleavings.is_lawful.Goals as goal

pub returns : goal.returns
returns c = solo-lawful
