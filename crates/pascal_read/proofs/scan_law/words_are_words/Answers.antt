use Rattle.pascal_read.proofs.WordsKeep.{words_kept}
use Rattle.pascal_read.proofs.scan_law.words_are_words.Goals as goal

pub returns : goal.returns
returns c = words_kept
