use Rattle.pascal_read.proofs.ParseOnePlace.{no_tree, one_place}
use Rattle.pascal_read.proofs.parse_place.errors_have_one_place.Goals as goal

pub returns-clause-none : goal.returns-clause-none
returns-clause-none c = no_tree

pub returns-clause-one : goal.returns-clause-one
returns-clause-one c = one_place
