use Rattle.std.proofs.Common.{[], ◌∷◌}
use Rattle.network_run.proofs.RunMore.{turn-taken}
use Rattle.network_run.proofs.Along.{place-behind}
use Rattle.network_run.specs.Law.{Placed}
use Rattle.network_run.proofs.running.take_turn.Goals as goal

pub returns-clause-turn : goal.returns-clause-turn
returns-clause-turn g c = λ at may.
    let law = g.N.Network.law in
    let steps = c.step-stepped.ensures.steps at may in
    let there : Placed law (g.N.Network.Stands c.step-stepped.new.self) = place-behind law _ _ at (steps.event ∷ []) (steps.enabled, tt) steps.stands in
    turn-taken law g.N.Network.Stands g.N.Network.left g.N.Network.Moves c.args.net.now c.step-stepped.new.self at c.args.p c.step-stepped.result
    c.args.counts.now c.with.result c.holder-before.result c.holder-after.result steps
    (g.met.N.Falling.falls c.args.net.now c.step-stepped.new.self at steps.event steps.enabled steps.stands steps.moves)
    (g.met.N.Network.sound.granted at.opening at.state steps.event at.reached steps.enabled) (c.holder-before.ensures at) (c.holder-after.ensures there)
    c.with.ensures

pub returns-clause-keeps : goal.returns-clause-keeps
returns-clause-keeps g c = λ first kept.
    let may = c.requires.may in
    let steps = c.step-stepped.ensures.steps may.at may.may in
    g.met.N.Network.keeps_on first c.args.net.now c.step-stepped.new.self may.at steps.event steps.enabled steps.stands steps.moves kept
