use Rattle.std.proofs.Common.{[], ◌∷◌, ◌∙◌, List, rules}
use Rattle.pascal_tree.specs.declared.token.Symbol.TheVariants as symbol
use Rattle.pascal_read.specs.ParseWants.{Want, mark}
use Rattle.pascal_read.specs.ParseWants as want
use Rattle.pascal_read.proofs.parse_program.program.Goals as goal

pub returns-in_err-period-clause-fault : goal.returns-in_err-period-clause-fault
returns-in_err-period-clause-fault c =
    λ line e.
    let behind : List Want = mark symbol.Period ∷ want.end ∷ [] in
    c.in_ok-heading.ensures.goes want.consts (want.vars ∷ want.routines ∷ want.body ∷ behind) ∙ c.in_ok-consts.ensures.goes want.vars (want.routines ∷ want.body ∷ behind)
    ∙ c.in_ok-vars.ensures.goes want.routines (want.body ∷ behind) ∙ c.in_ok-routines.ensures.goes want.body behind ∙ c.in_ok-body.ensures.goes (mark symbol.Period) (want.end ∷ [])
    ∙ c.in_err-period.ensures.fault line (search rules) want.end []

pub returns-in_err-routines-clause-fault : goal.returns-in_err-routines-clause-fault
returns-in_err-routines-clause-fault c =
    λ line e.
    let last : List Want = mark symbol.Period ∷ want.end ∷ [] in
    c.in_ok-heading.ensures.goes want.consts (want.vars ∷ want.routines ∷ want.body ∷ last) ∙ c.in_ok-consts.ensures.goes want.vars (want.routines ∷ want.body ∷ last)
    ∙ c.in_ok-vars.ensures.goes want.routines (want.body ∷ last) ∙ c.in_err-routines.ensures.fault line (search rules) want.body last

pub returns-in_err-body-clause-fault : goal.returns-in_err-body-clause-fault
returns-in_err-body-clause-fault c =
    λ line e.
    let behind : List Want = mark symbol.Period ∷ want.end ∷ [] in
    c.in_ok-heading.ensures.goes want.consts (want.vars ∷ want.routines ∷ want.body ∷ behind) ∙ c.in_ok-consts.ensures.goes want.vars (want.routines ∷ want.body ∷ behind)
    ∙ c.in_ok-vars.ensures.goes want.routines (want.body ∷ behind) ∙ c.in_ok-routines.ensures.goes want.body behind ∙ c.in_err-body.ensures.fault line (search rules) (mark symbol.Period) (want.end ∷ [])
