use Rattle.std.proofs.Common.{sym, ◌∙◌}
use Rattle.solo_run.proofs.Going.{going-first, ends-here, goes-on}
use Rattle.solo_run.proofs.InputRuns.{input-follows, input-may_next, input-did_next}
use Rattle.solo_run.proofs.run.run_input.Goals as goal

pub loop-init : goal.loop-init
loop-init g c = going-first c.new-machine.ensures.stands c.requires

pub perform-reply-requires-clause-may : goal.perform-reply-requires-clause-may
perform-reply-requires-clause-may g c κs within = input-may_next c.loop.invariant c.next-action.ensures.next

pub returns-in-Some-end : goal.returns-in-Some-end
returns-in-Some-end g c =
    ends-here c.loop.invariant c.next-action.ensures.next (input-follows c.loop.invariant c.next-action.ensures.next)
    (input-did_next c.loop.invariant c.next-action.ensures.next c.perform-reply.new.self c.perform-reply.result c.perform-reply.ensures.performs)
    (sym c.end_of-end.ensures ∙ c.in-Some-end.is)

pub loop-preserved : goal.loop-preserved
loop-preserved g c =
    goes-on c.loop.invariant c.next-action.ensures.next (λ proc at need. ⊥) c.give.result
    (input-did_next c.loop.invariant c.next-action.ensures.next c.perform-reply.new.self c.perform-reply.result c.perform-reply.ensures.performs)
    (sym c.end_of-end.ensures ∙ c.in_default.is) c.give.ensures.ok c.give.ensures.err c.give.ensures.lacks
