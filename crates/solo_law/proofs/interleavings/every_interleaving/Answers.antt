use Rattle.solo_law.proofs.Reached.{reached-holds}
use Rattle.solo_law.proofs.interleavings.every_interleaving.Goals as goal

pub returns : goal.returns
returns c = reached-holds
