use Rattle.std.proofs.Common.{length, ap, sym, ◌∙◌}
use Rattle.std.proofs.lemmas.Bool.{eq-eqb}
use Rattle.stack_code.proofs.Starts.{starts_later, is_last, next_starts}
use Rattle.stack_code.proofs.places.is_in.Goals as goal

pub returns-then-routine-count : goal.returns-then-routine-count
returns-then-routine-count c =
    eq-eqb _ _ c.if-routine-count.true
    ∙ is_last c.args.code.now c.args.routine c.args.place c.requires.rise c.requires.number (rw (← c.routine_at.ensures) c.if-routine_at-place.true)
    (c.if-routine-count.true ∙ ap length c.routines-count.ensures.list)

pub returns-else-routine-count : goal.returns-else-routine-count
returns-else-routine-count c = rw c.routine_at-else-routine-count.ensures
    (next_starts c.args.code.now c.args.routine c.args.place c.requires.rise c.requires.number
    (rw (← c.routine_at.ensures) c.if-routine_at-place.true) (λ last. c.if-routine-count.false (last ∙ ap length (sym c.routines-count.ensures.list))))

pub returns-else-routine_at-place : goal.returns-else-routine_at-place
returns-else-routine_at-place c = rw c.routine_at.ensures
    (starts_later c.args.code.now c.args.routine c.args.place c.requires.rise c.requires.number (rw (← c.routine_at.ensures) c.if-routine_at-place.false))
