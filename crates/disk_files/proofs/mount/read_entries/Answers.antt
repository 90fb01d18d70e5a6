use Rattle.disk_layout.specs.Disk.{disk_of}
use Rattle.disk_files.proofs.CatalogueRead.{has_entry}
use Rattle.disk_files.proofs.mount.read_entries.Goals as goal

pub returns-clause-judged : goal.returns-clause-judged
returns-clause-judged g c =
    λ pages told read j. c.judge_entries.ensures.judged (disk_of pages) (λ k small. has_entry pages c.args.n k _ small (c.in_ok-read.ensures.page pages told))
    read j
