use Rattle.std.proofs.Common.{◌∙◌, sym}
use Rattle.pascal_mean.specs.Predeclared.{predeclared}
use Rattle.pascal_code.specs.Frames.{plain_frame}
use Rattle.pascal_compile.proofs.PredeclaredNames.{as_tests}
use Rattle.pascal_compile.proofs.predeclared.predeclared.Goals as goal

pub returns : goal.returns
returns c = c.find.ensures ∙ sym (as_tests (plain_frame predeclared) predeclared c.args.letters.now)
