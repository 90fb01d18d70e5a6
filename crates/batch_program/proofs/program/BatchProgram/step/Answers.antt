use Rattle.std.proofs.Common.{sym, subst, arith}
use Rattle.stack_machine.specs.declared.running.Pause.TheVariants.{Call}
use Rattle.batch_program.specs.contracts.program.BatchProgram.{the_view}
use Rattle.batch_program.specs.Told.{IsAt}
use Rattle.batch_program.proofs.Steps.{WentTo, Passed, told_at_end, stands_at_end, told_waits, stands_waiting, stands_past, told_past, less_past, less_at_end, less_waiting}
use Rattle.batch_program.proofs.program.BatchProgram.step.Goals as goal

-- ---- The program has ended

pub returns-in-Finished-clause-tells : goal.returns-in-Finished-clause-tells
returns-in-Finished-clause-tells c =
    λ w given at.
    let says = c.in-Finished.ensures in
    rw c.last_told.ensures.told (told_at_end (the_view c.self.inside) w given c.in-Finished.finish c.go.new.self
    (record { pauses = says.pauses; runs = says.runs; history = says.history; code = says.code; limit = says.limit; well = says.well })
    (subst (λ p. IsAt p w given) (sym c.self.view_is) at))

pub returns-in-Finished-clause-stands : goal.returns-in-Finished-clause-stands
returns-in-Finished-clause-stands c =
    λ w given at.
    let says = c.in-Finished.ensures in
    rw (c.last_told.ensures.told, c.last_told.ensures.line) (stands_at_end (the_view c.self.inside) w given c.in-Finished.finish c.go.new.self
    (record { pauses = says.pauses; runs = says.runs; history = says.history; code = says.code; limit = says.limit; well = says.well })
    (subst (λ p. IsAt p w given) (sym c.self.view_is) at))

-- ---- It needs a card

pub returns-in-None-clause-tells : goal.returns-in-None-clause-tells
returns-in-None-clause-tells c =
    λ w given at.
    let says = c.in-Call.ensures in
    told_waits (the_view c.self.inside) w given c.in-Call.call c.go.new.self
    (record { pauses = says.pauses; runs = says.runs; history = says.history; code = says.code; limit = says.limit; well = says.well })
    (sym c.in-None.ensures.reply) (subst (λ p. IsAt p w given) (sym c.self.view_is) at)

pub returns-in-None-clause-stands : goal.returns-in-None-clause-stands
returns-in-None-clause-stands c =
    λ w given at.
    let says = c.in-Call.ensures in
    rw c.answer.ensures.rest (stands_waiting (the_view c.self.inside) w given c.in-Call.call c.go.new.self
    (record { pauses = says.pauses; runs = says.runs; history = says.history; code = says.code; limit = says.limit; well = says.well })
    (sym c.in-None.ensures.reply) (subst (λ p. IsAt p w given) (sym c.self.view_is) at))

-- ---- Its call was answered

passed : (c : goal.After-told_of)
    → Passed (the_view c.self.inside) c.in-Call.call c.in-Some.reply c.go.new.self c.answer-in-Some.new.self c.print_call.result c.print_call.new.line
passed c =
    let says = c.in-Call.ensures in
    let answers = c.answer-in-Some.ensures in
    record {
      went = record { pauses = says.pauses; runs = says.runs; history = says.history; code = says.code; limit = says.limit; well = says.well };
      replied = sym c.in-Some.ensures.reply;
      was_answered = record { is = answers.answered; history = answers.history; well = answers.well };
      prints = c.print_call.ensures;
    }

pub returns-in-Some-clause-tells : goal.returns-in-Some-clause-tells
returns-in-Some-clause-tells c =
    λ w given at.
    rw c.told_of.ensures (told_past (the_view c.self.inside) w given c.in-Call.call c.in-Some.reply c.go.new.self c.answer-in-Some.new.self
    c.print_call.result c.print_call.new.line (passed c)
    (subst (λ p. IsAt p w given) (sym c.self.view_is) at))

pub returns-in-Some-clause-stands : goal.returns-in-Some-clause-stands
returns-in-Some-clause-stands c =
    λ w given at.
    rw (c.answer.ensures.rest, c.told_of.ensures) (stands_past (the_view c.self.inside) w given c.in-Call.call c.in-Some.reply c.go.new.self
    c.answer-in-Some.new.self c.print_call.result c.print_call.new.line (passed c)
    (subst (λ p. IsAt p w given) (sym c.self.view_is) at))

pub returns-in-Some-clause-left : goal.returns-in-Some-clause-left
returns-in-Some-clause-left c =
    rw (c.told_of.ensures, ← c.self.view_is)
    (less_past (the_view c.self.inside) c.in-Call.call c.in-Some.reply c.go.new.self c.answer-in-Some.new.self c.print_call.result c.print_call.new.line
    (passed c))

-- ---- Less is left

pub returns-in-Finished-clause-left : goal.returns-in-Finished-clause-left
returns-in-Finished-clause-left c =
    let says = c.in-Finished.ensures in
    rw (c.last_told.ensures.told, c.last_told.ensures.line, ← c.self.view_is) (less_at_end (the_view c.self.inside) c.in-Finished.finish c.go.new.self
    (record { pauses = says.pauses; runs = says.runs; history = says.history; code = says.code; limit = says.limit; well = says.well }))

pub returns-in-None-clause-left : goal.returns-in-None-clause-left
returns-in-None-clause-left c =
    let says = c.in-Call.ensures in
    let went : WentTo c.self.inside.machine (Call c.in-Call.call) c.go.new.self =
    record { pauses = says.pauses; runs = says.runs; history = says.history; code = says.code; limit = says.limit; well = says.well } in
    rw (← c.self.view_is) (omega (arith, less_waiting (the_view c.self.inside) c.in-Call.call c.go.new.self went))
