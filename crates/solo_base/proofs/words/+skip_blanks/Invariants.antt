use Rattle.std.proofs.Common.{length}
use Rattle.solo_base.proofs.words.+skip_blanks.Given as goal

abbrev pub decreases-skip_blanks : goal.decreases-skip_blanks
decreases-skip_blanks l = length l.text.now
