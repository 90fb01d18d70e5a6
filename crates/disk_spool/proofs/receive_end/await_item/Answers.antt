use Rattle.std.proofs.Common.{refl, sym, ap, ◌∙◌, rules}
use Rattle.solo_base.specs.declared.outcome.Side.TheVariants.{Receiver}
use Rattle.disk_spool.specs.declared.answers.Await.TheVariants as Await
use Rattle.disk_spool.specs.Spool.{item_answer}
use Rattle.disk_spool.proofs.Running.{finds, enters, resumes, awaits}
use Rattle.disk_spool.proofs.receive_end.await_item.Goals as goal

pub await_item-requires-clause-may_enter : goal.await_item-requires-clause-may_enter
await_item-requires-clause-may_enter g c =
    let inside = c.enter-inside in
    let pass = c.args.pass.now.view in
    let opening = c.args.gate.now.opening in
    let found = finds g.A.Area.pages g.A.Area.faults Receiver opening pass.number pass.entries pass.entries inside.result.state inside.ensures.tied c.requires.pass.number_is refl in
    let may = enters g.A.Area.pages g.A.Area.faults opening.area Receiver _ pass.number inside.result.state found c.requires.pass.number_is inside.ensures.free inside.ensures.not_waiting c.requires.not_stopped in
    rw c.state.ensures.value may.0

pub leave-requires-clause-moved : goal.leave-requires-clause-moved
leave-requires-clause-moved g c κs within =
    let inside = c.enter-inside in
    let pass = c.args.pass.now.view in
    let opening = c.args.gate.now.opening in
    let found = finds g.A.Area.pages g.A.Area.faults Receiver opening pass.number pass.entries pass.entries inside.result.state inside.ensures.tied c.requires.pass.number_is refl in
    let may = enters g.A.Area.pages g.A.Area.faults opening.area Receiver _ pass.number inside.result.state found c.requires.pass.number_is inside.ensures.free inside.ensures.not_waiting c.requires.not_stopped in
    let entry = awaits g.A.Area.pages g.A.Area.faults Receiver inside.result.pass.now.view.number inside.result.state c.state.result.now c.await_item.new.self Await.Ready (ap (λ p. p.view.number) inside.ensures.pass.0 ∙ c.requires.pass.number_is) c.state.ensures.value may c.in-Ready.ensures.answer c.in-Ready.ensures.after in
    (inside.result.state, search rules, entry)

pub leave-requires-in-Stopped-clause-moved : goal.leave-requires-in-Stopped-clause-moved
leave-requires-in-Stopped-clause-moved g c κs within =
    let inside = c.enter-inside in
    let pass = c.args.pass.now.view in
    let opening = c.args.gate.now.opening in
    let found = finds g.A.Area.pages g.A.Area.faults Receiver opening pass.number pass.entries pass.entries inside.result.state inside.ensures.tied c.requires.pass.number_is refl in
    let may = enters g.A.Area.pages g.A.Area.faults opening.area Receiver _ pass.number inside.result.state found c.requires.pass.number_is inside.ensures.free inside.ensures.not_waiting c.requires.not_stopped in
    let entry = awaits g.A.Area.pages g.A.Area.faults Receiver inside.result.pass.now.view.number inside.result.state c.state.result.now c.await_item.new.self Await.Stopped (ap (λ p. p.view.number) inside.ensures.pass.0 ∙ c.requires.pass.number_is) c.state.ensures.value may c.in-Stopped.ensures.answer c.in-Stopped.ensures.after in
    (inside.result.state, search rules, entry)

pub delay-inside-requires-clause-rested : goal.delay-inside-requires-clause-rested
delay-inside-requires-clause-rested g c κs within =
    let inside = c.enter-inside in
    let pass = c.args.pass.now.view in
    let opening = c.args.gate.now.opening in
    let found = finds g.A.Area.pages g.A.Area.faults Receiver opening pass.number pass.entries pass.entries inside.result.state inside.ensures.tied c.requires.pass.number_is refl in
    let may = enters g.A.Area.pages g.A.Area.faults opening.area Receiver _ pass.number inside.result.state found c.requires.pass.number_is inside.ensures.free inside.ensures.not_waiting c.requires.not_stopped in
    let entry = awaits g.A.Area.pages g.A.Area.faults Receiver inside.result.pass.now.view.number inside.result.state c.state.result.now c.await_item.new.self Await.Delayed (ap (λ p. p.view.number) inside.ensures.pass.0 ∙ c.requires.pass.number_is) c.state.ensures.value may c.in-Delayed.ensures.answer c.in-Delayed.ensures.after in
    (inside.result.state, search rules, record { side = Receiver; awaits = entry })

pub leave-requires-in-Ready-await_item-clause-moved : goal.leave-requires-in-Ready-await_item-clause-moved
leave-requires-in-Ready-await_item-clause-moved g c κs within =
    let first = c.enter-inside in
    let inside = c.delay-inside in
    let pass = first.result.pass.now.view in
    let opening = first.result.gate.now.opening in
    let number_is = ap (λ p. p.view.number) first.ensures.pass.0 ∙ c.requires.pass.number_is in
    let found = finds g.A.Area.pages g.A.Area.faults Receiver opening pass.number pass.entries c.args.pass.now.view.entries inside.result.state inside.ensures.tied number_is (ap (λ p. p.view.entries) first.ensures.pass.0) in
    let may = resumes g.A.Area.pages g.A.Area.faults opening.area Receiver _ pass.number inside.result.state found number_is inside.ensures.handed c.requires.not_stopped in
    let entry = awaits g.A.Area.pages g.A.Area.faults Receiver inside.result.pass.now.view.number inside.result.state c.state-in-Delayed.result.now c.await_item-in-Delayed.new.self Await.Ready (ap (λ p. p.view.number) inside.ensures.pass.0 ∙ number_is) c.state-in-Delayed.ensures.value may c.in-Ready-await_item.ensures.answer c.in-Ready-await_item.ensures.after in
    (inside.result.state, search rules, entry)

pub leave-requires-in-Stopped-await_item-clause-moved : goal.leave-requires-in-Stopped-await_item-clause-moved
leave-requires-in-Stopped-await_item-clause-moved g c κs within =
    let first = c.enter-inside in
    let inside = c.delay-inside in
    let pass = first.result.pass.now.view in
    let opening = first.result.gate.now.opening in
    let number_is = ap (λ p. p.view.number) first.ensures.pass.0 ∙ c.requires.pass.number_is in
    let found = finds g.A.Area.pages g.A.Area.faults Receiver opening pass.number pass.entries c.args.pass.now.view.entries inside.result.state inside.ensures.tied number_is (ap (λ p. p.view.entries) first.ensures.pass.0) in
    let may = resumes g.A.Area.pages g.A.Area.faults opening.area Receiver _ pass.number inside.result.state found number_is inside.ensures.handed c.requires.not_stopped in
    let entry = awaits g.A.Area.pages g.A.Area.faults Receiver inside.result.pass.now.view.number inside.result.state c.state-in-Delayed.result.now c.await_item-in-Delayed.new.self Await.Stopped (ap (λ p. p.view.number) inside.ensures.pass.0 ∙ number_is) c.state-in-Delayed.ensures.value may c.in-Stopped-await_item.ensures.answer c.in-Stopped-await_item.ensures.after in
    (inside.result.state, search rules, entry)

pub returns-in-Ready-clause-answer : goal.returns-in-Ready-clause-answer
returns-in-Ready-clause-answer g c =
    let inside = c.enter-inside in
    let pass = c.args.pass.now.view in
    let opening = c.args.gate.now.opening in
    let found = finds g.A.Area.pages g.A.Area.faults Receiver opening pass.number pass.entries pass.entries inside.result.state inside.ensures.tied c.requires.pass.number_is refl in
    (inside.result.state, found, c.in-Ready.ensures.answer ∙ ap item_answer c.state.ensures.value)

pub returns-in-Stopped-clause-answer : goal.returns-in-Stopped-clause-answer
returns-in-Stopped-clause-answer g c =
    let inside = c.enter-inside in
    let pass = c.args.pass.now.view in
    let opening = c.args.gate.now.opening in
    let found = finds g.A.Area.pages g.A.Area.faults Receiver opening pass.number pass.entries pass.entries inside.result.state inside.ensures.tied c.requires.pass.number_is refl in
    (inside.result.state, found, c.in-Stopped.ensures.answer ∙ ap item_answer c.state.ensures.value)

pub returns-in-Ready-await_item-clause-answer : goal.returns-in-Ready-await_item-clause-answer
returns-in-Ready-await_item-clause-answer g c =
    let first = c.enter-inside in
    let inside = c.delay-inside in
    let pass = first.result.pass.now.view in
    let opening = first.result.gate.now.opening in
    let number_is = ap (λ p. p.view.number) first.ensures.pass.0 ∙ c.requires.pass.number_is in
    let found = finds g.A.Area.pages g.A.Area.faults Receiver opening pass.number pass.entries c.args.pass.now.view.entries inside.result.state inside.ensures.tied number_is (ap (λ p. p.view.entries) first.ensures.pass.0) in
    (inside.result.state, rw (sym (ap (λ o. o.opening) first.ensures.gate)) found, c.in-Ready-await_item.ensures.answer ∙ ap item_answer c.state-in-Delayed.ensures.value)

pub returns-in-Stopped-await_item-clause-answer : goal.returns-in-Stopped-await_item-clause-answer
returns-in-Stopped-await_item-clause-answer g c =
    let first = c.enter-inside in
    let inside = c.delay-inside in
    let pass = first.result.pass.now.view in
    let opening = first.result.gate.now.opening in
    let number_is = ap (λ p. p.view.number) first.ensures.pass.0 ∙ c.requires.pass.number_is in
    let found = finds g.A.Area.pages g.A.Area.faults Receiver opening pass.number pass.entries c.args.pass.now.view.entries inside.result.state inside.ensures.tied number_is (ap (λ p. p.view.entries) first.ensures.pass.0) in
    (inside.result.state, rw (sym (ap (λ o. o.opening) first.ensures.gate)) found, c.in-Stopped-await_item.ensures.answer ∙ ap item_answer c.state-in-Delayed.ensures.value)
