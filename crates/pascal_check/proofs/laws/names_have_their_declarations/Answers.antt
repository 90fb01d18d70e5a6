use Rattle.pascal_tree.specs.Scopes.{means_of}
use Rattle.pascal_tree.specs.DeclarationRules.{scalar_named}
use Rattle.pascal_check.proofs.Unbroken.{declared, type_declared}
use Rattle.pascal_check.proofs.laws.names_have_their_declarations.Goals as goal

pub returns : goal.returns
returns c = record {
  factors = λ s x a h. declared (means_of s x.letters) x.line _ h;
  elements = λ s x t h. declared (means_of s x.letters) x.line _ h;
  constants = λ s x h. declared (means_of s x.letters) x.line _ h;
  targets = λ s x v l h. declared (means_of s x.letters) x.line _ h;
  set_elements = λ s x i v l h. declared (means_of s x.letters) x.line _ h;
  controls = λ s x b l h. declared (means_of s x.letters) x.line _ h;
  types = λ s x h. type_declared (scalar_named s x) x.line h;
}
