use Rattle.twin_net.proofs.Finishing.{same-six}
use Rattle.twin_net.proofs.net.TwinNet.ended_as.Goals as goal

pub returns : goal.returns
returns g c =
    same-six _ _ _ _ _ _ _ _ _ _ _ _ c.outcome.ensures.is c.outcome-2.ensures.is c.outcome-3.ensures.is c.outcome-4.ensures.is c.outcome-5.ensures.is
    c.outcome-6.ensures.is
