use Rattle.std.proofs.Common.{refl, ap, rules}
use Rattle.solo_base.specs.declared.outcome.Side.TheVariants.{Receiver}
use Rattle.solo_base.specs.declared.page.Page.{Page}
use Rattle.disk_spool.specs.declared.answers.Fetched.TheVariants as Fetched
use Rattle.disk_spool.proofs.Running.{finds, may_move, takes}
use Rattle.disk_spool.proofs.receive_end.take.Goals as goal

pub take-requires-clause-nobody_waits : goal.take-requires-clause-nobody_waits
take-requires-clause-nobody_waits g c =
    let inside = c.enter-inside in
    let pass = c.args.pass.now.view in
    let opening = c.args.gate.now.opening in
    let found = finds g.A.Area.pages g.A.Area.faults Receiver opening pass.number pass.entries pass.entries inside.result.state inside.ensures.tied c.requires.pass.number_is refl in
    let may = may_move g.A.Area.pages g.A.Area.faults opening.area Receiver _ pass.number inside.result.state found c.requires.pass.number_is inside.ensures.free inside.ensures.not_waiting c.requires.not_stopped c.requires.ready in
    rw c.state.ensures.value may.may.1

pub take-requires-clause-item : goal.take-requires-clause-item
take-requires-clause-item g c =
    let inside = c.enter-inside in
    let pass = c.args.pass.now.view in
    let opening = c.args.gate.now.opening in
    let found = finds g.A.Area.pages g.A.Area.faults Receiver opening pass.number pass.entries pass.entries inside.result.state inside.ensures.tied c.requires.pass.number_is refl in
    let may = may_move g.A.Area.pages g.A.Area.faults opening.area Receiver _ pass.number inside.result.state found c.requires.pass.number_is inside.ensures.free inside.ensures.not_waiting c.requires.not_stopped c.requires.ready in
    rw c.state.ensures.value may.has

pub leave-requires-clause-moved : goal.leave-requires-clause-moved
leave-requires-clause-moved g c κs within =
    let inside = c.enter-inside in
    let pass = c.args.pass.now.view in
    let opening = c.args.gate.now.opening in
    let found = finds g.A.Area.pages g.A.Area.faults Receiver opening pass.number pass.entries pass.entries inside.result.state inside.ensures.tied c.requires.pass.number_is refl in
    let may = may_move g.A.Area.pages g.A.Area.faults opening.area Receiver _ pass.number inside.result.state found c.requires.pass.number_is inside.ensures.free inside.ensures.not_waiting c.requires.not_stopped c.requires.ready in
    let entry = takes g.A.Area.pages g.A.Area.faults pass.number inside.result.pass.now.view.number inside.result.state c.state.result.now c.take.new.self c.take.new.page.0 c.of.result.value.0 (ap (λ p. p.view.number) inside.ensures.pass.0) c.state.ensures.value (ap (λ (p : Page). p.0) c.of.ensures) in
    (inside.result.state, search rules, entry (Fetched.Done c.in-Done.last) may c.in-Done.ensures.area c.in-Done.ensures.cause c.in-Done.ensures.last c.in-Done.ensures.after)

pub leave-requires-in-Failed-clause-moved : goal.leave-requires-in-Failed-clause-moved
leave-requires-in-Failed-clause-moved g c κs within =
    let inside = c.enter-inside in
    let pass = c.args.pass.now.view in
    let opening = c.args.gate.now.opening in
    let found = finds g.A.Area.pages g.A.Area.faults Receiver opening pass.number pass.entries pass.entries inside.result.state inside.ensures.tied c.requires.pass.number_is refl in
    let may = may_move g.A.Area.pages g.A.Area.faults opening.area Receiver _ pass.number inside.result.state found c.requires.pass.number_is inside.ensures.free inside.ensures.not_waiting c.requires.not_stopped c.requires.ready in
    let entry = takes g.A.Area.pages g.A.Area.faults pass.number inside.result.pass.now.view.number inside.result.state c.state.result.now c.take.new.self c.take.new.page.0 c.take.new.page.0 (ap (λ p. p.view.number) inside.ensures.pass.0) c.state.ensures.value refl in
    (inside.result.state, search rules, (c.take.new.page.0, entry Fetched.Failed may c.in-Failed.ensures.area c.in-Failed.ensures.cause c.in-Failed.ensures.last c.in-Failed.ensures.after))
