use Rattle.std.proofs.Common.{length}
use Rattle.solo_base.proofs.words.+spells.Given as goal

abbrev pub decreases-spells : goal.decreases-spells
decreases-spells l = length l.word.now
