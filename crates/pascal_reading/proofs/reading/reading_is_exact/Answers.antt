use Rattle.pascal_reading.proofs.Readings.{read_tree, tree_read, read_bad, bad_read, read_error, error_read}
use Rattle.pascal_reading.proofs.reading.reading_is_exact.Goals as goal

pub returns-clause-tree : goal.returns-clause-tree
returns-clause-tree c cards program lines = (read_tree cards program lines, λ h. tree_read cards program lines h.0 h.1)

pub returns-clause-bad_word : goal.returns-clause-bad_word
returns-clause-bad_word c cards line = (read_bad cards line, bad_read cards line)

pub returns-clause-error : goal.returns-clause-error
returns-clause-error c cards tokens line lines words = (read_error cards tokens line lines words, error_read cards tokens line lines words)
