use Rattle.std.proofs.Common.{ℤ, pos, subst}
use Rattle.std.specs.Int.{w16}
use Rattle.std.proofs.lemmas.Int.{to_z-of_z}
use Rattle.pascal_mean.specs.Values.{within}
use Rattle.pascal_evaluate.specs.Ran.{Ran}
use Rattle.pascal_evaluate.proofs.operators.standard.Goals as goal

pub returns-in-Chr : goal.returns-in-Chr
returns-in-Chr c now =
    rw c.in-Chr.is
    (subst (λ (v : ℤ). Ran (within (record { low = pos 0; high = pos 127 }) v now) c.within.result now) (to_z-of_z w16 c.args.value c.ranges.value)
    (c.within.ensures now))
