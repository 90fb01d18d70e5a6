use Rattle.pascal_check.proofs.FramesKept.{vars_kept}
use Rattle.pascal_check.proofs.laws.frames_have_their_size.Goals as goal

pub returns : goal.returns
returns c = vars_kept
