use Rattle.std.proofs.Common.{sym, ◌∙◌, ap}
use Rattle.pascal_evaluate.specs.SeenStore.{seen_activation}
use Rattle.pascal_evaluate.proofs.Activations.{map_at-here, map_at-past}
use Rattle.pascal_evaluate.proofs.run.activation_at.Goals as goal

pub returns-then-number-activations : goal.returns-then-number-activations
returns-then-number-activations c =
    let found = c.index-activations-number.result in
    map_at-here seen_activation c.args.activations.now c.args.number found c.if-number-activations.true ∙ ap seen_activation (sym c.index-activations-number.is)

pub returns-else-number-activations : goal.returns-else-number-activations
returns-else-number-activations c = map_at-past seen_activation c.args.activations.now c.args.number c.if-number-activations.false
