use Rattle.net_core.proofs.Asking.{goes-else}
use Rattle.net_core.proofs.shared.Shared.goes.Goals as goal

pub returns-in_default : goal.returns-in_default
returns-in_default g c = λ s stands place.
    goes-else s c.args.p c.args.action.now c.in_default.not-PutFeed c.in_default.not-TakeFeed c.in_default.not-AwaitRoom c.in_default.not-AwaitItem
    c.in_default.not-Request c.in_default.not-Ended
