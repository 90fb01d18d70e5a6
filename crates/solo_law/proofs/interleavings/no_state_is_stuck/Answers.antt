use Rattle.solo_law.proofs.NeverStuck.{never-stuck}
use Rattle.solo_law.proofs.interleavings.no_state_is_stuck.Goals as goal

pub returns : goal.returns
returns c = never-stuck
