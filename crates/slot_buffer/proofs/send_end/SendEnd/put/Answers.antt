use Rattle.std.proofs.Common.{sym, ap, ◌∙◌, subst, rules}
use Rattle.solo_base.specs.declared.outcome.Side.TheVariants.{Sender}
use Rattle.queue_var.specs.Sides.{stopped_by}
use Rattle.slot_buffer.specs.Ends.{Finds}
use Rattle.slot_buffer.proofs.Running.{has_put, was_refused_put, stopped_answer}
use Rattle.slot_buffer.proofs.send_end.SendEnd.put.Goals as goal

pub leave-requires-clause-moved : goal.leave-requires-clause-moved
leave-requires-clause-moved g c κs within =
    let inside = c.enter-inside in
    let now = c.state.result.now in
    let number_is = ap (λ p. p.view.number) inside.ensures.pass.0 ∙ c.self.invariant.3 in
    let told = c.refuses_put.ensures.refuses c.if-refuses_put.true in
    let refused = was_refused_put inside.result.pass.now.view.number inside.result.state now c.refuses_put.new.self c.args.item
    c.of-seen.result.value number_is c.state.ensures.value c.of-seen.ensures inside.ensures.may in (
      inside.result.state,
      search rules,
      refused c.args.item (stopped_answer (stopped_by now.sides) now.inside c.args.item told.0) told.1,
    )

pub returns-then-refuses_put-clause-answer : goal.returns-then-refuses_put-clause-answer
returns-then-refuses_put-clause-answer g c =
    let state = c.enter-inside.result.state in
    let told = c.refuses_put.ensures.refuses c.if-refuses_put.true in (
      state,
      subst (λ calls. Finds Sender calls state) (ap (λ v. v.calls) c.self.view_is) c.enter-inside.ensures.found,
      stopped_answer (stopped_by state.sides) state.inside c.args.item
          (ap (λ s. stopped_by s.sides) (sym c.state.ensures.value) ∙ told.0),
    )

pub leave-requires-2-clause-moved : goal.leave-requires-2-clause-moved
leave-requires-2-clause-moved g c κs within =
    let inside = c.enter-inside in
    let number_is = ap (λ p. p.view.number) inside.ensures.pass.0 ∙ c.self.invariant.3 in
    let same = c.state-2.ensures.value ∙ (c.refuses_put.ensures.goes_on c.if-refuses_put.false).0 ∙ c.state.ensures.value in
    let put = has_put inside.result.pass.now.view.number inside.result.state c.state-2.result.now c.put_in.new.self c.args.item
    c.of-seen.result.value number_is same c.of-seen.ensures inside.ensures.may in
    (inside.result.state, search rules, put c.put_in.ensures.answer c.put_in.ensures.after)
