use Rattle.std.proofs.Common.{refl, ap, ◌∙◌, rules}
use Rattle.disk_spool.proofs.Running.{finds, lets_in, stops}
use Rattle.disk_spool.proofs.send_end.stop.Goals as goal

pub leave-requires-clause-moved : goal.leave-requires-clause-moved
leave-requires-clause-moved g c κs within =
    let inside = c.enter-inside in
    let pass = c.args.pass.now.view in
    let opening = c.args.gate.now.opening in
    let found = finds g.A.Area.pages g.A.Area.faults c.args.side opening pass.number pass.entries pass.entries inside.result.state inside.ensures.tied c.requires.number_is refl in
    let may = lets_in g.A.Area.pages g.A.Area.faults opening.area c.args.side _ pass.number inside.result.state found c.requires.number_is inside.ensures.free inside.ensures.not_waiting in
    let entry = stops g.A.Area.pages g.A.Area.faults c.args.side inside.result.pass.now.view.number inside.result.state c.state.result.now c.stop.new.self (ap (λ p. p.view.number) inside.ensures.pass.0 ∙ c.requires.number_is) c.state.ensures.value may c.stop.ensures.after in
    (inside.result.state, search rules, entry)
