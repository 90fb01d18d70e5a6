use Rattle.disk_spool.proofs.Opening.{opening-tied}
use Rattle.disk_spool.proofs.gate.SpoolGate.make.Goals as goal

pub make-requires-2-clause-tied : goal.make-requires-2-clause-tied
make-requires-2-clause-tied g c κs within = opening-tied g.A.Area.pages g.A.Area.faults c.make.result _ _ c.make.ensures.empty c.make.ensures.history
