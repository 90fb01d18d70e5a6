use Rattle.std.proofs.Common.{refl}
use Rattle.net_core.proofs.Asking.{may-put, may-take, may-else}
use Rattle.net_core.proofs.shared.Shared.may_call.Goals as goal

pub returns-in-PutFeed : goal.returns-in-PutFeed
returns-in-PutFeed g c = λ s stands place.
    may-put s c.args.p c.may_enter-in-PutFeed.result c.args.action.now c.in-PutFeed.is place (c.may_enter-in-PutFeed.ensures s stands)

pub returns-in-TakeFeed : goal.returns-in-TakeFeed
returns-in-TakeFeed g c = λ s stands place.
    may-take s c.args.p c.may_enter.result c.args.action.now c.upstream-in-TakeFeed.result c.upstream-in-TakeFeed.ensures c.in-TakeFeed.is place
    (c.may_enter.ensures s stands)

pub returns-in_default : goal.returns-in_default
returns-in_default g c = λ s stands place.
    may-else s c.args.p _ c.args.action.now c.in_default.not-PutFeed c.in_default.not-TakeFeed c.in_default.not-AwaitRoom c.in_default.not-AwaitItem
    c.in_default.not-Request c.in_default.not-PutPage c.in_default.not-TakePage c.in_default.not-Release c.in_default.not-Stop refl
