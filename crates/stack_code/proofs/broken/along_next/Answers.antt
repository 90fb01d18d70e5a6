use Rattle.std.proofs.Common.{sym, ◌∙◌, arith}
use Rattle.stack_code.proofs.Along.{along_begins, along_goes_on}
use Rattle.stack_code.proofs.broken.along_next.Goals as goal

pub overflow_add-result : goal.overflow_add-result
overflow_add-result c = omega (arith, c.requires.along.few, c.requires.place)

pub returns-then-not-is_in : goal.returns-then-not-is_in
returns-then-not-is_in c = along_begins c.args.code.now c.args.place c.args.along c.requires.rise c.requires.along (sym c.is_in.ensures
    ∙ c.if-not-is_in.true)

pub returns : goal.returns
returns c =
    along_goes_on c.args.code.now c.args.place c.args.along _ _ c.requires.along (sym c.is_in.ensures ∙ c.if-not-is_in.false)
    (rw (← c.instr_at-op.ensures) (omega (arith, c.saturating_sub.ensures, c.pops.ensures.count, c.pushes.ensures.count)))
    (rw (← c.instr_at-op.ensures) (omega (arith, c.pushes.ensures.count, c.pushes.ensures.bound)))
    (rw (← c.requires.target) (rw (← c.instr_at-op.ensures) c.leads_on-behind_tick.ensures))
