use Rattle.code_law.proofs.Lawful.{does_what_it_means}
use Rattle.code_law.proofs.laws.compiled_code_does_what_its_source_means.Goals as goal

pub returns : goal.returns
returns c = does_what_it_means
