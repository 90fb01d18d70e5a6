use Rattle.solo_net.proofs.Calling.{acts-alone}
use Rattle.solo_net.proofs.buffers.Buffers.goes.Goals as goal

pub returns-in_default : goal.returns-in_default
returns-in_default c = λ p s six place.
    acts-alone c.args.action.now c.in_default.not-PutArg c.in_default.not-TakeArg c.in_default.not-PutPage c.in_default.not-TakePage
    c.in_default.not-Ended p s
