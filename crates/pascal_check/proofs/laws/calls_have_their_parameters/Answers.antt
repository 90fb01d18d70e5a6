use Rattle.pascal_tree.specs.Scopes.{means_of}
use Rattle.pascal_check.proofs.Unbroken.{procedure_called, function_called}
use Rattle.pascal_check.proofs.laws.calls_have_their_parameters.Goals as goal

pub returns : goal.returns
returns c = record {
  statements = λ s x count suit h. procedure_called (means_of s x.letters) x.line count suit h;
  factors = λ s x count suit some h. function_called (means_of s x.letters) x.line count suit some h;
}
