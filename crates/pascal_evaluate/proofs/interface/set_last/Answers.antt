use Rattle.std.proofs.Common.{ℤ, sym, ◌∙◌, ap}
use Rattle.std.specs.Int.{w16}
use Rattle.std.proofs.lemmas.Int.{to_z-of_z}
use Rattle.pascal_mean.specs.Variables.{stored}
use Rattle.pascal_evaluate.specs.SeenStore.{seen_place, situation, all_given}
use Rattle.pascal_evaluate.proofs.Activations.{on_ok}
use Rattle.pascal_evaluate.proofs.Answered.{sets_last, sets_none}
use Rattle.pascal_evaluate.proofs.interface.set_last.Goals as goal

pub returns-in-Some : goal.returns-in-Some
returns-in-Some c =
    let now = situation c.args.run.now in
    let place = seen_place c.in-Some.place.now in
    on_ok c.store.result _ _ c.store.ensures (λ is. is
    ∙ ap (λ (v : ℤ). stored place v now) (to_z-of_z w16 c.args.value c.ranges.value)
    ∙ sym (sets_last (all_given c.args.given.now) place c.args.value now (sym c.in-Some.ensures)))

pub returns-in-None : goal.returns-in-None
returns-in-None c = sym (sets_none (all_given c.args.given.now) c.args.value (situation c.args.run.now) (sym c.in-None.ensures))
