use Rattle.std.proofs.Common.{ℤ, get_or, sym, ◌∙◌, ap}
use Rattle.std.specs.Int.{w16}
use Rattle.std.proofs.lemmas.Int.{to_z-of_z}
use Rattle.pascal_mean.specs.Variables.{put_value}
use Rattle.pascal_evaluate.specs.SeenStore.{seen_activation}
use Rattle.pascal_evaluate.proofs.Activations.{with_map-here, with_map-past, on_ok}
use Rattle.pascal_evaluate.proofs.run.put_value.Goals as goal

pub returns-then-number-activations : goal.returns-then-number-activations
returns-then-number-activations c =
    let found = c.index-activations-number.result in
    on_ok c.put_value.result _ _ c.put_value.ensures (λ is. with_map-here seen_activation c.args.activations.now c.args.number found c.put_value.new.self
    (put_value c.args.letters.now c.args.value) c.if-number-activations.true
    (is ∙ ap (λ (v : ℤ). put_value c.args.letters.now v (seen_activation (get_or c.args.activations.now c.args.number found)))
    (to_z-of_z w16 c.args.value c.ranges.value)))

pub returns-else-number-activations : goal.returns-else-number-activations
returns-else-number-activations c =
    sym (with_map-past seen_activation c.args.activations.now c.args.number (put_value c.args.letters.now c.args.value) c.if-number-activations.false)
