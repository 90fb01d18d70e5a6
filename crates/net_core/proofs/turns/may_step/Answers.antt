use Rattle.std.proofs.Common.{subst}
use Rattle.net_core.specs.Turns.{HasPlace}
use Rattle.net_core.proofs.Asking.{never}
use Rattle.net_core.proofs.Stepping.{next-is}
use Rattle.net_core.proofs.Turning.{never-at-turn, some-next, at-turn}
use Rattle.net_core.proofs.turns.may_step.Goals as goal

pub returns-then-has_ended : goal.returns-then-has_ended
returns-then-has_ended g c = λ h s stands shared places. (
  λ yes. never _ yes,
  λ at. absurd (never-at-turn g.J.HasJobs.are_jobs g.W.Work.process h s c.args.p ((c.has_ended.ensures h stands).0 c.if-has_ended.true) at),
)

pub returns : goal.returns
returns g c = λ h s stands shared places.
    let (action, next) = some-next g.J.HasJobs.are_jobs g.W.Work.process h c.has_ended.result (c.has_ended.ensures h stands) c.if-has_ended.false in
    let same = next-is _ action c.next-action.result (c.next-action.ensures.next h stands) next in
    at-turn g.J.HasJobs.are_jobs g.W.Work.process h s c.args.p action c.next-action.result c.may_call.result next same
    (c.may_call.ensures s shared (subst (HasPlace s c.args.p) same (places action next)))
