use Rattle.batch_job.proofs.Account.{holds-line}
use Rattle.batch_job.proofs.item_lines.ItemLines.hold.Goals as goal

pub returns : goal.returns
returns c = rw (c.clear.ensures, c.copy.ensures) (holds-line c.args.line.now)
