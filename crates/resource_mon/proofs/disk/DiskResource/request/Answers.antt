use Rattle.std.proofs.Common.{ap, ◌∙◌, false}
use Rattle.resource_mon.specs.Laws.{holds-granted}
use Rattle.resource_mon.specs.DiskCalls.{has_grant}
use Rattle.resource_mon.proofs.disk.DiskResource.request.Goals as goal

pub returns-clause-has_grant : goal.returns-clause-has_grant
returns-clause-has_grant g c = ap (λ p. has_grant p.view.entries) c.request.ensures.call ∙ holds-granted false c.seat.inside.pass.view.entries
