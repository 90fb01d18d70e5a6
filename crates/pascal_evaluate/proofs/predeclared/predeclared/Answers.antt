use Rattle.std.proofs.Common.{◌∙◌}
use Rattle.pascal_mean.specs.Predeclared.{predeclared}
use Rattle.pascal_evaluate.proofs.Tables.{named_is}
use Rattle.pascal_evaluate.proofs.predeclared.predeclared.Goals as goal

pub returns : goal.returns
returns c = c.find.ensures ∙ named_is predeclared c.args.letters.now
