use Rattle.pascal_read.proofs.ParsePlace.{read_words_spell, stuck_is_error_place}
use Rattle.pascal_read.proofs.parse_place.reading_tells.Goals as goal

pub returns-clause-tree : goal.returns-clause-tree
returns-clause-tree c = read_words_spell

pub returns-clause-error : goal.returns-clause-error
returns-clause-error c = stuck_is_error_place
