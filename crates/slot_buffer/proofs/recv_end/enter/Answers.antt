use Rattle.std.proofs.Common.{◌≡◌, false, refl, sym, ap, ◌∙◌, subst, rules}
use Rattle.solo_base.specs.declared.outcome.Side.TheVariants.{Receiver}
use Rattle.queue_var.specs.Sides.{MayEnter, has_stopped, stopped_by}
use Rattle.slot_buffer.specs.declared.answers.Take.TheVariants as Take
use Rattle.slot_buffer.specs.Calls.Rests.{take_rests}
use Rattle.slot_buffer.proofs.Running.{finds, enters, resumes, goes_on, take_goes_on, has_taken}
use Rattle.slot_buffer.proofs.recv_end.enter.Goals as goal

pub waits_to_take-requires : goal.waits_to_take-requires
waits_to_take-requires g c =
    let inside = c.enter-inside in
    let pass = c.args.pass.now.view in
    let found = finds Receiver c.args.gate.now.opening pass.number pass.entries pass.entries inside.result.state inside.ensures.tied c.requires.pass.number_is refl in
    let may = enters Receiver _ pass.number inside.result.state found c.requires.pass.number_is inside.ensures.free inside.ensures.not_waiting c.requires.not_stopped in
    record { may_enter = rw c.state.ensures.value may.0 }

pub delay-requires-clause-rested : goal.delay-requires-clause-rested
delay-requires-clause-rested g c κs within =
    let inside = c.enter-inside in
    let pass = c.args.pass.now.view in
    let found = finds Receiver c.args.gate.now.opening pass.number pass.entries pass.entries inside.result.state inside.ensures.tied c.requires.pass.number_is refl in
    let may = enters Receiver _ pass.number inside.result.state found c.requires.pass.number_is inside.ensures.free inside.ensures.not_waiting c.requires.not_stopped in
    let number_is = ap (λ p. p.view.number) inside.ensures.pass.0 ∙ c.requires.pass.number_is in
    let waits = c.waits_to_take.ensures.waits c.if-waits_to_take.true in
    (inside.result.state, search rules, take_rests (has_taken inside.result.pass.now.view.number inside.result.state c.state.result.now c.waits_to_take.new.self number_is c.state.ensures.value may Take.Delayed waits.0 waits.1))

pub returns-then-waits_to_take-clause-found : goal.returns-then-waits_to_take-clause-found
returns-then-waits_to_take-clause-found g c =
    let first = c.enter-inside in
    let pass = first.result.pass.now.view in
    let number_is = ap (λ p. p.view.number) first.ensures.pass.0 ∙ c.requires.pass.number_is in
    finds Receiver first.result.gate.now.opening pass.number pass.entries c.args.pass.now.view.entries c.delay.result.state c.delay.ensures.tied number_is (ap (λ p. p.view.entries) first.ensures.pass.0)

pub returns-then-waits_to_take-clause-may : goal.returns-then-waits_to_take-clause-may
returns-then-waits_to_take-clause-may g c =
    let first = c.enter-inside in
    let pass = first.result.pass.now.view in
    let number_is = ap (λ p. p.view.number) first.ensures.pass.0 ∙ c.requires.pass.number_is in
    resumes Receiver _ pass.number c.delay.result.state (returns-then-waits_to_take-clause-found g c) number_is c.delay.ensures.handed c.requires.not_stopped

pub returns-then-waits_to_take-clause-not_delayed : goal.returns-then-waits_to_take-clause-not_delayed
returns-then-waits_to_take-clause-not_delayed g c =
    let first = c.enter-inside in
    let pass = first.result.pass.now.view in
    let number_is = ap (λ p. p.view.number) first.ensures.pass.0 ∙ c.requires.pass.number_is in
    let found = returns-then-waits_to_take-clause-found g c in
    let state = c.delay.result.state in
    let can = goes_on Receiver _ pass.number state found number_is c.delay.ensures.woken in
    λ is. take_goes_on (stopped_by state.sides) state.inside can is

pub returns-clause-may : goal.returns-clause-may
returns-clause-may g c =
    let inside = c.enter-inside in
    let pass = c.args.pass.now.view in
    let found = finds Receiver c.args.gate.now.opening pass.number pass.entries pass.entries inside.result.state inside.ensures.tied c.requires.pass.number_is refl in
    let may = enters Receiver _ pass.number inside.result.state found c.requires.pass.number_is inside.ensures.free inside.ensures.not_waiting c.requires.not_stopped in
    let same = (c.waits_to_take.ensures.goes_on c.if-waits_to_take.false).0 ∙ c.state.ensures.value in
    subst (λ s. MayEnter s.sides Receiver 2 × (has_stopped s.sides Receiver ≡ false)) (sym same) may
