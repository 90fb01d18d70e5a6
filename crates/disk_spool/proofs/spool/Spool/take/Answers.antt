use Rattle.std.proofs.Common.{rules}
use Rattle.disk_spool.specs.declared.answers.Fetched.TheVariants as Fetched
use Rattle.disk_spool.specs.History.{take-stands}
use Rattle.disk_spool.proofs.spool.Spool.take.Goals as goal

pub returns-clause-history : goal.returns-clause-history
returns-clause-history g c = λ sent taken stops h.
    take-stands g.A.Area.pages c.args.self.now _ sent taken stops c.read.new.self c.read.new.page.0 (Fetched.Done c.remove-last.result) h c.requires.nobody_waits (search rules) (search rules) (search rules)
