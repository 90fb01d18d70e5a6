use Rattle.std.proofs.Common.{arith}
use Rattle.disk_system.proofs.Needed.{mapped_read}
use Rattle.disk_system.proofs.lengths.length_of.Goals as goal

pub returns-clause-length : goal.returns-clause-length
returns-clause-length g c = λ pages told few.
    let is = mapped_read pages c.args.entry.now c.read.new.page.0 c.if-entry-eq0.false (c.in_ok-read.ensures.page pages told) in
    omega (arith, is, few, c.number.ensures, c.min.ensures)
