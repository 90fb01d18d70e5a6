use Rattle.std.proofs.Common.{length}
use Rattle.solo_commands.proofs.words.+trim.Given as goal

abbrev pub decreases-trim : goal.decreases-trim
decreases-trim l = length l.text.now
