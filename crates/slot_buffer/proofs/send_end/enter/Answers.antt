use Rattle.std.proofs.Common.{◌≡◌, false, refl, sym, ap, ◌∙◌, subst, rules}
use Rattle.solo_base.specs.declared.outcome.Side.TheVariants.{Sender}
use Rattle.queue_var.specs.Sides.{MayEnter, has_stopped, stopped_by}
use Rattle.slot_buffer.proofs.Running.{finds, enters, resumes, goes_on, put_goes_on, waits_to_put}
use Rattle.slot_buffer.proofs.send_end.enter.Goals as goal

pub waits_to_put-requires : goal.waits_to_put-requires
waits_to_put-requires g c =
    let inside = c.enter-inside in
    let pass = c.args.pass.now.view in
    let found = finds Sender c.args.gate.now.opening pass.number pass.entries pass.entries inside.result.state inside.ensures.tied c.requires.pass.number_is refl in
    let may = enters Sender _ pass.number inside.result.state found c.requires.pass.number_is inside.ensures.free inside.ensures.not_waiting c.requires.not_stopped in
    record { may_enter = rw c.state.ensures.value may.0 }

pub delay-requires-clause-rested : goal.delay-requires-clause-rested
delay-requires-clause-rested g c κs within =
    let inside = c.enter-inside in
    let pass = c.args.pass.now.view in
    let found = finds Sender c.args.gate.now.opening pass.number pass.entries pass.entries inside.result.state inside.ensures.tied c.requires.pass.number_is refl in
    let may = enters Sender _ pass.number inside.result.state found c.requires.pass.number_is inside.ensures.free inside.ensures.not_waiting c.requires.not_stopped in
    let number_is = ap (λ p. p.view.number) inside.ensures.pass.0 ∙ c.requires.pass.number_is in
    let waits = c.waits_to_put.ensures.waits c.if-waits_to_put.true in
    (inside.result.state, search rules, waits_to_put inside.result.pass.now.view.number inside.result.state c.state.result.now c.waits_to_put.new.self number_is c.state.ensures.value may (c.waits_to_put.ensures.full c.if-waits_to_put.true) waits.0 waits.1)

pub returns-then-waits_to_put-clause-found : goal.returns-then-waits_to_put-clause-found
returns-then-waits_to_put-clause-found g c =
    let first = c.enter-inside in
    let pass = first.result.pass.now.view in
    let number_is = ap (λ p. p.view.number) first.ensures.pass.0 ∙ c.requires.pass.number_is in
    finds Sender first.result.gate.now.opening pass.number pass.entries c.args.pass.now.view.entries c.delay.result.state c.delay.ensures.tied number_is (ap (λ p. p.view.entries) first.ensures.pass.0)

pub returns-then-waits_to_put-clause-may : goal.returns-then-waits_to_put-clause-may
returns-then-waits_to_put-clause-may g c =
    let first = c.enter-inside in
    let pass = first.result.pass.now.view in
    let number_is = ap (λ p. p.view.number) first.ensures.pass.0 ∙ c.requires.pass.number_is in
    resumes Sender _ pass.number c.delay.result.state (returns-then-waits_to_put-clause-found g c) number_is c.delay.ensures.handed c.requires.not_stopped

pub returns-then-waits_to_put-clause-not_delayed : goal.returns-then-waits_to_put-clause-not_delayed
returns-then-waits_to_put-clause-not_delayed g c =
    let first = c.enter-inside in
    let pass = first.result.pass.now.view in
    let number_is = ap (λ p. p.view.number) first.ensures.pass.0 ∙ c.requires.pass.number_is in
    let found = returns-then-waits_to_put-clause-found g c in
    let state = c.delay.result.state in
    let can = goes_on Sender _ pass.number state found number_is c.delay.ensures.woken in
    λ item back is. put_goes_on (stopped_by state.sides) state.inside item back found.tied.stands.hands_over.within can is

pub returns-clause-may : goal.returns-clause-may
returns-clause-may g c =
    let inside = c.enter-inside in
    let pass = c.args.pass.now.view in
    let found = finds Sender c.args.gate.now.opening pass.number pass.entries pass.entries inside.result.state inside.ensures.tied c.requires.pass.number_is refl in
    let may = enters Sender _ pass.number inside.result.state found c.requires.pass.number_is inside.ensures.free inside.ensures.not_waiting c.requires.not_stopped in
    let same = (c.waits_to_put.ensures.goes_on c.if-waits_to_put.false).0 ∙ c.state.ensures.value in
    subst (λ s. MayEnter s.sides Sender 1 × (has_stopped s.sides Sender ≡ false)) (sym same) may
