use Rattle.stack_machine.proofs.Frames.{words_kept}
use Rattle.stack_machine.proofs.laws.words_are_kept.Goals as goal

pub returns : goal.returns
returns c = words_kept
