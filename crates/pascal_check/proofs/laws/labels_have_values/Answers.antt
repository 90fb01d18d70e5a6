use Rattle.pascal_check.proofs.Unbroken.{label_valued}
use Rattle.pascal_check.proofs.laws.labels_have_values.Goals as goal

pub returns : goal.returns
returns c = label_valued
