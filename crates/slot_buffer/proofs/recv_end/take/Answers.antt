use Rattle.std.proofs.Common.{ap, ◌∙◌, rules}
use Rattle.slot_buffer.specs.declared.answers.Take.TheVariants as Take
use Rattle.slot_buffer.proofs.Running.{has_taken}
use Rattle.slot_buffer.proofs.recv_end.take.Goals as goal

pub leave-requires-clause-moved : goal.leave-requires-clause-moved
leave-requires-clause-moved g c κs within =
    let inside = c.enter-inside in
    let number_is = ap (λ p. p.view.number) inside.ensures.pass.0 ∙ c.requires.pass.number_is in
    let taken = has_taken inside.result.pass.now.view.number inside.result.state c.state.result.now c.take_out.new.self number_is
    c.state.ensures.value inside.ensures.may in
    (inside.result.state, search rules, taken Take.Stopped c.in_default.ensures.answer (c.in_default.ensures.after 2))

pub leave-requires-2-clause-moved : goal.leave-requires-2-clause-moved
leave-requires-2-clause-moved g c κs within =
    let inside = c.enter-inside in
    let number_is = ap (λ p. p.view.number) inside.ensures.pass.0 ∙ c.requires.pass.number_is in
    let taken = has_taken inside.result.pass.now.view.number inside.result.state c.state.result.now c.take_out.new.self number_is
    c.state.ensures.value inside.ensures.may in (
      inside.result.state,
      search rules,
      taken (Take.Item c.of.result.value) (rw c.of.ensures c.in-Some.ensures.answer)
          (c.in-Some.ensures.after 2),
    )
