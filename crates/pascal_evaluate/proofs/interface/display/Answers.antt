use Rattle.std.proofs.Common.{refl}
use Rattle.solo_base.specs.declared.system_call.SysCall.TheVariants as calls
use Rattle.pascal_evaluate.specs.SeenStore.{situation, all_given}
use Rattle.pascal_evaluate.proofs.Parts.{ends_here}
use Rattle.pascal_evaluate.proofs.Answered.{refused}
use Rattle.solo_base.specs.declared.outcome.ProgResult.TheVariants as result
use Rattle.pascal_evaluate.proofs.interface.display.Goals as goal

pub returns-in-Some : goal.returns-in-Some
returns-in-Some c text limit =
    rw (← c.in-Some.ensures) (refused text (calls.Display c.in-Some.field-0) (all_given c.args.given.now) (situation c.args.run.now) (λ left. refl) refl)

pub returns-in-None : goal.returns-in-None
returns-in-None c text limit = rw (← c.in-None.ensures) (ends_here result.RangeError (situation c.args.run.now))
