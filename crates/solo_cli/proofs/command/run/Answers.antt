use Rattle.std.proofs.Common.{Some, refl, ◌∙◌, ap, subst}
use Rattle.solo_cli.specs.Words.{HasNumber}
use Rattle.solo_cli.proofs.Finishing.{batch-finishes, core-finishes, make-finishes}
use Rattle.solo_cli.proofs.command.run.Goals as goal

pub make-ended-requires-clause-number : goal.make-ended-requires-clause-number
make-ended-requires-clause-number g c = subst HasNumber (c.in-Some.is ∙ ap Some c.in-Make.is) c.requires.number

pub returns-in-Batch-clause-finishes : goal.returns-in-Batch-clause-finishes
returns-in-Batch-clause-finishes g c =
    rw (c.in-Some.is, c.in-Batch.is, c.beside.ensures) (batch-finishes c.batch-ended.ensures refl refl)

pub returns-in-Core-clause-finishes : goal.returns-in-Core-clause-finishes
returns-in-Core-clause-finishes g c =
    rw (c.in-Some.is, c.in-Core.is, c.beside-in-Core.ensures) (core-finishes c.in-Core.schedule c.core-ended.ensures refl refl)

pub returns-in-Make-clause-finishes : goal.returns-in-Make-clause-finishes
returns-in-Make-clause-finishes g c =
    rw (c.in-Some.is, c.in-Make.is, c.beside-in-Make.ensures) (make-finishes c.in-Make.number c.make-ended.ensures refl refl)
