use Rattle.std.proofs.Common.{◌≡◌, sym, ap, ◌∙◌, subst}
use Rattle.queue_var.specs.Sides.{stopped_by}
use Rattle.slot_buffer.specs.declared.answers.Put.TheVariants as Put
use Rattle.slot_buffer.specs.Slot.{put_answer, after_put}
use Rattle.slot_buffer.specs.History.{put-stands}
use Rattle.slot_buffer.proofs.Running.{stopped_answer}
use Rattle.slot_buffer.proofs.slot_buffer.SlotBuffer.put.Goals as goal

pub returns-then-waits_to_put-clause-after : goal.returns-then-waits_to_put-clause-after
returns-then-waits_to_put-clause-after g c = (c.waits_to_put.ensures.waits c.if-waits_to_put.true).1

pub returns-then-waits_to_put-clause-history : goal.returns-then-waits_to_put-clause-history
returns-then-waits_to_put-clause-history g c =
    let waits = c.waits_to_put.ensures.waits c.if-waits_to_put.true in
    put-stands c.args.self.now _ c.args.p c.args.item (Put.Delayed c.args.item) c.requires.may_enter c.requires.not_stopped (waits.0 c.args.item) waits.1

pub returns-then-refuses_put-clause-stopped : goal.returns-then-refuses_put-clause-stopped
returns-then-refuses_put-clause-stopped g c back is =
    ap (λ s. stopped_by s.sides) (sym (c.waits_to_put.ensures.goes_on c.if-waits_to_put.false).0) ∙ (c.refuses_put.ensures.refuses c.if-refuses_put.true).0

pub returns-then-refuses_put-clause-answer : goal.returns-then-refuses_put-clause-answer
returns-then-refuses_put-clause-answer g c =
    let now = c.args.self.now in
    let by = ap (λ s. stopped_by s.sides) (sym (c.waits_to_put.ensures.goes_on c.if-waits_to_put.false).0) ∙ (c.refuses_put.ensures.refuses c.if-refuses_put.true).0 in
    stopped_answer (stopped_by now.sides) now.inside c.args.item by

pub returns-then-refuses_put-clause-after : goal.returns-then-refuses_put-clause-after
returns-then-refuses_put-clause-after g c =
    subst (λ s. c.refuses_put.new.self ≡ after_put s c.args.p c.args.item (Put.Stopped c.args.item)) (c.waits_to_put.ensures.goes_on c.if-waits_to_put.false).0 (c.refuses_put.ensures.refuses c.if-refuses_put.true).1

pub returns-then-refuses_put-clause-history : goal.returns-then-refuses_put-clause-history
returns-then-refuses_put-clause-history g c =
    put-stands c.args.self.now _ c.args.p c.args.item (Put.Stopped c.args.item) c.requires.may_enter c.requires.not_stopped (returns-then-refuses_put-clause-answer g c) (returns-then-refuses_put-clause-after g c)

pub returns-clause-answer : goal.returns-clause-answer
returns-clause-answer g c =
    let same = (c.refuses_put.ensures.goes_on c.if-refuses_put.false).0 ∙ (c.waits_to_put.ensures.goes_on c.if-waits_to_put.false).0 in
    subst (λ s. Put.Done ≡ put_answer s c.args.item) same c.put_in.ensures.answer

pub returns-clause-after : goal.returns-clause-after
returns-clause-after g c =
    let same = (c.refuses_put.ensures.goes_on c.if-refuses_put.false).0 ∙ (c.waits_to_put.ensures.goes_on c.if-waits_to_put.false).0 in
    subst (λ s. c.put_in.new.self ≡ after_put s c.args.p c.args.item Put.Done) same c.put_in.ensures.after

pub returns-clause-history : goal.returns-clause-history
returns-clause-history g c =
    put-stands c.args.self.now _ c.args.p c.args.item Put.Done c.requires.may_enter c.requires.not_stopped (returns-clause-answer g c) (returns-clause-after g c)
