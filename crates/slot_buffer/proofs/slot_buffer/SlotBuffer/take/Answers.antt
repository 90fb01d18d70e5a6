use Rattle.std.proofs.Common.{◌≡◌, subst}
use Rattle.slot_buffer.specs.declared.answers.Take.TheVariants as Take
use Rattle.slot_buffer.specs.Slot.{take_answer, after_take}
use Rattle.slot_buffer.specs.History.{take-stands}
use Rattle.slot_buffer.proofs.slot_buffer.SlotBuffer.take.Goals as goal

pub returns-then-waits_to_take-clause-history : goal.returns-then-waits_to_take-clause-history
returns-then-waits_to_take-clause-history g c =
    let waits = c.waits_to_take.ensures.waits c.if-waits_to_take.true in
    take-stands c.args.self.now _ c.args.p Take.Delayed c.requires.may_enter c.requires.not_stopped waits.0 waits.1

pub returns-in-Some-clause-answer : goal.returns-in-Some-clause-answer
returns-in-Some-clause-answer g c = subst (λ s. Take.Item c.in-Some.item ≡ take_answer s) (c.waits_to_take.ensures.goes_on c.if-waits_to_take.false).0 c.in-Some.ensures.answer

pub returns-in-Some-clause-after : goal.returns-in-Some-clause-after
returns-in-Some-clause-after g c =
    subst (λ s. c.take_out.new.self ≡ after_take s c.args.p (Take.Item c.in-Some.item)) (c.waits_to_take.ensures.goes_on c.if-waits_to_take.false).0 (c.in-Some.ensures.after c.args.p)

pub returns-in-Some-clause-history : goal.returns-in-Some-clause-history
returns-in-Some-clause-history g c =
    take-stands c.args.self.now _ c.args.p (Take.Item c.in-Some.item) c.requires.may_enter c.requires.not_stopped (returns-in-Some-clause-answer g c) (returns-in-Some-clause-after g c)

pub returns-in-None-clause-answer : goal.returns-in-None-clause-answer
returns-in-None-clause-answer g c = subst (λ s. Take.Stopped ≡ take_answer s) (c.waits_to_take.ensures.goes_on c.if-waits_to_take.false).0 c.in-None.ensures.answer

pub returns-in-None-clause-after : goal.returns-in-None-clause-after
returns-in-None-clause-after g c =
    subst (λ s. c.take_out.new.self ≡ after_take s c.args.p (Take.Stopped)) (c.waits_to_take.ensures.goes_on c.if-waits_to_take.false).0 (c.in-None.ensures.after c.args.p)

pub returns-in-None-clause-history : goal.returns-in-None-clause-history
returns-in-None-clause-history g c =
    take-stands c.args.self.now _ c.args.p (Take.Stopped) c.requires.may_enter c.requires.not_stopped (returns-in-None-clause-answer g c) (returns-in-None-clause-after g c)
