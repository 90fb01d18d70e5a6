use Rattle.std.proofs.Common.{rules, ap, ◌∙◌, false}
use Rattle.resource_mon.specs.Laws.{holds-released}
use Rattle.resource_mon.specs.DiskCalls.{has_grant}
use Rattle.resource_mon.proofs.disk.DiskResource.release.Goals as goal

pub returns-clause-idle : goal.returns-clause-idle
returns-clause-idle g c = (search rules, ap (λ p. has_grant p.view.entries) c.release.ensures ∙ holds-released false c.seat.inside.pass.view.entries, search rules)
