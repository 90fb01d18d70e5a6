use Rattle.std.proofs.Common.{rules}
use Rattle.std.proofs.lemmas.Int.{to_z-of_z}
use Rattle.std.specs.Int.{w16}
use mir.Val.{SFits}
use Rattle.pascal_evaluate.proofs.statement.assign_name.Goals as goal

pub returns : goal.returns
returns g c =
    let word : SFits w16 c.in_ok-value.value = search rules in
    let set = rw (to_z-of_z w16 c.in_ok-value.value word) at c.in_ok-set_named.ensures in
    rw (c.in_ok-value.ensures, set)
