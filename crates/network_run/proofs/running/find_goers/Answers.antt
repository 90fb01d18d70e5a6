use Rattle.std.proofs.Common.{◌+◌, ◌<◌, length, refl, arith, rules}
use Rattle.network_run.proofs.Picking.{none-yet, one-more, one-at-most, all-found}
use Rattle.network_run.proofs.running.find_goers.Goals as goal

pub asking-init : goal.asking-init
asking-init g c = (λ at. none-yet g.N.Network.law at.state c.args.goers.now, omega arith)

pub asking-preserved : goal.asking-preserved
asking-preserved g c =
    let law = g.N.Network.law in
    let room : c.asking.found < length c.asking.goers = search rules in
    let from = c.from-found.ensures in
    let one = one-at-most c.enabled.result in
    let few = c.asking.invariant.1 in (
      λ at.
          one-more law at.state c.asking.before (c.asking.before + 1) c.asking.found (c.asking.found + c.from-found.result) c.asking.goers c.enabled.result
          (c.asking.invariant.0 at) refl room (omega (arith, from)) (c.enabled.ensures at),
      omega (arith, from, one, few),
    )

pub returns-clause-few : goal.returns-clause-few
returns-clause-few g c =
    let few = c.asking.invariant.1 in
    let end = c.asking.auto.before-end in
    let size = c.size-size.ensures in
    let most = g.met.N.Network.sound.few in
    omega (arith, few, end, size, most)

pub returns-clause-are : goal.returns-clause-are
returns-clause-are g c = λ at.
    let end = c.asking.auto.before-end in
    let test = c.asking-test.false in
    let size = c.size-size.ensures in
    all-found g.N.Network.law at.state c.asking.before _ (omega (arith, end, test, size)) (c.asking.invariant.0 at)
