use Rattle.solo_devices.proofs.Judging.{without_return-front, without_return-own}
use Rattle.solo_devices.proofs.judge.without_return.Goals as goal

pub returns-in-len1-up : goal.returns-in-len1-up
returns-in-len1-up c = without_return-front c.args.line.now c.in-len1-up.len_at_least c.if-last-eq13.true

pub returns-in_default-2 : goal.returns-in_default-2
returns-in_default-2 c = without_return-own c.args.line.now c.in-len1-up.len_at_least c.if-last-eq13.false
