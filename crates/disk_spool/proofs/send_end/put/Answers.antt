use Rattle.std.proofs.Common.{refl, ap, rules}
use Rattle.solo_base.specs.declared.outcome.Side.TheVariants.{Sender}
use Rattle.solo_base.specs.declared.page.Page.{Page}
use Rattle.solo_devices.specs.declared.area.Moved.TheVariants as Moved
use Rattle.disk_spool.proofs.Running.{finds, may_move, puts}
use Rattle.disk_spool.proofs.send_end.put.Goals as goal

pub put-requires-clause-nobody_waits : goal.put-requires-clause-nobody_waits
put-requires-clause-nobody_waits g c =
    let inside = c.enter-inside in
    let pass = c.args.pass.now.view in
    let opening = c.args.gate.now.opening in
    let found = finds g.A.Area.pages g.A.Area.faults Sender opening pass.number pass.entries pass.entries inside.result.state inside.ensures.tied c.requires.pass.number_is refl in
    let may = may_move g.A.Area.pages g.A.Area.faults opening.area Sender _ pass.number inside.result.state found c.requires.pass.number_is inside.ensures.free inside.ensures.not_waiting c.requires.not_stopped c.requires.ready in
    rw c.state.ensures.value may.may.1

pub put-requires-clause-room : goal.put-requires-clause-room
put-requires-clause-room g c =
    let inside = c.enter-inside in
    let pass = c.args.pass.now.view in
    let opening = c.args.gate.now.opening in
    let found = finds g.A.Area.pages g.A.Area.faults Sender opening pass.number pass.entries pass.entries inside.result.state inside.ensures.tied c.requires.pass.number_is refl in
    let may = may_move g.A.Area.pages g.A.Area.faults opening.area Sender _ pass.number inside.result.state found c.requires.pass.number_is inside.ensures.free inside.ensures.not_waiting c.requires.not_stopped c.requires.ready in
    rw c.state.ensures.value may.has

pub leave-requires-clause-moved : goal.leave-requires-clause-moved
leave-requires-clause-moved g c κs within =
    let inside = c.enter-inside in
    let pass = c.args.pass.now.view in
    let opening = c.args.gate.now.opening in
    let found = finds g.A.Area.pages g.A.Area.faults Sender opening pass.number pass.entries pass.entries inside.result.state inside.ensures.tied c.requires.pass.number_is refl in
    let may = may_move g.A.Area.pages g.A.Area.faults opening.area Sender _ pass.number inside.result.state found c.requires.pass.number_is inside.ensures.free inside.ensures.not_waiting c.requires.not_stopped c.requires.ready in
    let entry = puts g.A.Area.pages g.A.Area.faults pass.number inside.result.pass.now.view.number inside.result.state c.state.result.now c.put.new.self c.args.page.now.0 c.of.result.value.0 (ap (λ p. p.view.number) inside.ensures.pass.0) c.state.ensures.value (ap (λ (p : Page). p.0) c.of.ensures) in
    (inside.result.state, search rules, entry Moved.Done may c.in-Done.ensures.area c.in-Done.ensures.cause c.in-Done.ensures.after)

pub leave-requires-in-Failed-clause-moved : goal.leave-requires-in-Failed-clause-moved
leave-requires-in-Failed-clause-moved g c κs within =
    let inside = c.enter-inside in
    let pass = c.args.pass.now.view in
    let opening = c.args.gate.now.opening in
    let found = finds g.A.Area.pages g.A.Area.faults Sender opening pass.number pass.entries pass.entries inside.result.state inside.ensures.tied c.requires.pass.number_is refl in
    let may = may_move g.A.Area.pages g.A.Area.faults opening.area Sender _ pass.number inside.result.state found c.requires.pass.number_is inside.ensures.free inside.ensures.not_waiting c.requires.not_stopped c.requires.ready in
    let entry = puts g.A.Area.pages g.A.Area.faults pass.number inside.result.pass.now.view.number inside.result.state c.state.result.now c.put.new.self c.args.page.now.0 c.of-in-Failed.result.value.0 (ap (λ p. p.view.number) inside.ensures.pass.0) c.state.ensures.value (ap (λ (p : Page). p.0) c.of-in-Failed.ensures) in
    (inside.result.state, search rules, entry Moved.Failed may c.in-Failed.ensures.area c.in-Failed.ensures.cause c.in-Failed.ensures.after)
