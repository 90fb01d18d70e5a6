use Rattle.std.proofs.Common.{refl}
use Rattle.solo_base.specs.declared.outcome.ProgResult.TheVariants as result
use Rattle.pascal_evaluate.specs.SeenStore.{situation, all_given}
use Rattle.pascal_evaluate.proofs.Parts.{ends_here}
use Rattle.pascal_evaluate.proofs.Answered.{refused}
use Rattle.pascal_evaluate.proofs.interface.put.Goals as goal

pub returns-then-gives_bytes : goal.returns-then-gives_bytes
returns-then-gives_bytes c text limit =
    rw (← c.if-gives_bytes.ensures) (refused text _ (all_given c.args.given.now) (situation c.args.run.now) (λ left. refl) refl)

pub returns-else-gives_bytes : goal.returns-else-gives_bytes
returns-else-gives_bytes c text limit = rw (← c.if-gives_bytes.ensures) (ends_here result.RangeError (situation c.args.run.now))
