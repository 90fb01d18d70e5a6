use Rattle.std.proofs.Common.{rules}
use Rattle.disk_spool.specs.History.{stop-stands}
use Rattle.disk_spool.proofs.spool.Spool.stop.Goals as goal

pub returns-clause-history : goal.returns-clause-history
returns-clause-history g c = λ sent taken stops h. stop-stands g.A.Area.pages c.args.self.now _ sent taken stops h c.args.side c.requires.nobody_waits (search rules)
