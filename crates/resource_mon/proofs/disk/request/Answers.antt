use Rattle.std.proofs.Common.{rules, ap, ◌∙◌, inl, lit<}
use Rattle.resource_mon.specs.DiskCalls.{has_grant}
use Rattle.resource_mon.proofs.Desk.{asks, rests}
use Rattle.resource_mon.proofs.Room.{has_room}
use Rattle.resource_mon.proofs.disk.request.Goals as goal

pub request-requires : goal.request-requires
request-requires g c =
    let inside = c.enter-inside in
    let state = inside.result.state in
    let tied = inside.ensures.tied in
    let may = asks tied.lists state tied.tied c.args.pass.now.view.number c.requires.seat.seated (ap has_grant tied.mine ∙ c.requires.no_pass) inside.ensures.free inside.ensures.not_waiting in
    rw (c.state.ensures.value, c.number-process.ensures) (lit< tt, (inl inside.ensures.free, (may.no_claim, has_room state.holder state.waiting c.args.pass.now.view.number tied.tied.stands.each_once tied.tied.seated may.seat may.no_claim)))

pub delay-inside-requires-clause-rested : goal.delay-inside-requires-clause-rested
delay-inside-requires-clause-rested g c κs within =
    let inside = c.enter-inside in
    let state = inside.result.state in
    let tied = inside.ensures.tied in
    let may = asks tied.lists state tied.tied c.args.pass.now.view.number c.requires.seat.seated (ap has_grant tied.mine ∙ c.requires.no_pass) inside.ensures.free inside.ensures.not_waiting in
    let waits = rests inside.result.pass.now.view.number state c.state.result.now c.request.new.self c.args.pass.now.view.number (ap (λ p. p.view.number) inside.ensures.pass.0) c.state.ensures.value may c.in-Wait.ensures.answer in
    (state, search rules, waits (rw (← c.number-process.ensures) c.in-Wait.ensures.after))
