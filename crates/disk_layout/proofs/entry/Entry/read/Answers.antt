use Rattle.disk_layout.specs.Disk.{entry_in}
use Rattle.disk_layout.proofs.entry.Entry.read.Goals as goal

pub returns : goal.returns
unfolding entry_in
returns c = cc
