use Rattle.std.proofs.Common.{arith, refl, get_or}
use Rattle.network_run.proofs.Along.{none-taken, taken-more, place-taken, halted, halts-at, halts-past}
use Rattle.network_run.proofs.network.Network.run.Goals as goal

pub returns-then-not-enabled-clause-runs : goal.returns-then-not-enabled-clause-runs
returns-then-not-enabled-clause-runs g c = λ at.
    let so_far = c.taking.invariant.0 at in
    let law = g.Self.Network.law in
    halted law _ c.args.schedule.now at.state c.taking.taken so_far
    (halts-at law (law.MayGo (place-taken law _ _ c.args.schedule.now c.taking.taken at so_far).state) c.args.schedule.now c.taking.taken c.taking-test.true
    (λ may. (let yes = (c.enabled.ensures (place-taken law _ _ c.args.schedule.now c.taking.taken at so_far)).1 may in let not = c.if-not-enabled.true in cc)))

pub step-requires : goal.step-requires
step-requires g c =
    let law = g.Self.Network.law in
    let at = c.requires.before in
    let here = place-taken law _ _ c.args.schedule.now c.taking.taken at (c.taking.invariant.0 at) in
    record { may = record { at = here; may = (c.enabled.ensures here).0 (let yes = c.if-not-enabled.false in cc) } }

pub taking-preserved : goal.taking-preserved
taking-preserved g c =
    let law = g.Self.Network.law in (
      λ at.
          let so_far = c.taking.invariant.0 at in
          let here = place-taken law _ _ c.args.schedule.now c.taking.taken at so_far in
          taken-more law g.Self.Network.Stands g.Self.Network.Moves c.taking.self c.step.new.self c.args.schedule.now at.state c.taking.taken
          (get_or c.args.schedule.now c.taking.taken 0) c.step.result c.taking-test.true refl so_far
          (c.step.ensures.steps here ((c.enabled.ensures here).0 (let yes = c.if-not-enabled.false in cc))),
      (let below = c.taking-test.true in omega (arith, below)),
      (let at = c.requires.before in
          let here = place-taken law _ _ c.args.schedule.now c.taking.taken at (c.taking.invariant.0 at) in
          let steps = c.step.ensures.steps here ((c.enabled.ensures here).0 (let yes = c.if-not-enabled.false in cc)) in
          g.met.Self.Network.keeps_on c.args.self.now c.taking.self c.step.new.self here steps.event steps.enabled steps.stands
          steps.moves c.taking.invariant.2),
    )

pub taking-init : goal.taking-init
taking-init g c = (
  λ at. none-taken g.Self.Network.law _ c.args.schedule.now at.state at.stands,
  omega arith,
  g.met.Self.Network.keeps_itself c.args.self.now,
)

pub returns-clause-runs : goal.returns-clause-runs
returns-clause-runs g c = λ at.
    let so_far = c.taking.invariant.0 at in
    let law = g.Self.Network.law in
    halted law _ c.args.schedule.now at.state c.taking.taken so_far
    (halts-past law (law.MayGo (place-taken law _ _ c.args.schedule.now c.taking.taken at so_far).state) c.args.schedule.now c.taking.taken
    (let past = c.taking-test.false in omega (arith, past)))

pub returns-then-not-enabled-clause-after : goal.returns-then-not-enabled-clause-after
returns-then-not-enabled-clause-after g c =
    place-taken g.Self.Network.law _ _ c.args.schedule.now c.taking.taken c.requires.before (c.taking.invariant.0 c.requires.before)

pub returns-clause-after : goal.returns-clause-after
returns-clause-after g c = place-taken g.Self.Network.law _ _ c.args.schedule.now c.taking.taken c.requires.before (c.taking.invariant.0 c.requires.before)
