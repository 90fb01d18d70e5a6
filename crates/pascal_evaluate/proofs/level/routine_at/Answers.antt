use Rattle.std.proofs.Common.{Some, sym, ◌∙◌, ap}
use Rattle.pascal_evaluate.specs.SeenNames.{seen_declared}
use Rattle.pascal_evaluate.proofs.Opened.{got_here, got_past}
use Rattle.pascal_evaluate.proofs.level.routine_at.Goals as goal

pub returns-then-number-routines : goal.returns-then-number-routines
returns-then-number-routines c =
    let found = c.index-routines-number.result in
    got_here seen_declared c.args.routines.now c.args.number found c.if-number-routines.true
    ∙ ap (λ d. Some (seen_declared d)) (sym c.index-routines-number.is)

pub returns-else-number-routines : goal.returns-else-number-routines
returns-else-number-routines c = got_past seen_declared c.args.routines.now c.args.number c.if-number-routines.false
