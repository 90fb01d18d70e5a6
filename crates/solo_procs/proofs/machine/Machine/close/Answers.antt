use Rattle.std.proofs.Common.{◌∙◌, sym}
use Rattle.solo_procs.proofs.Machines.{closes-some, closes-none}
use Rattle.solo_procs.proofs.machine.Machine.close.Goals as goal

pub returns-in-Some-clause-closes : goal.returns-in-Some-clause-closes
returns-in-Some-clause-closes g c = closes-some g.P.Proc.process g.P.Proc.is_at g.P.Proc.ready c.args.self.now _ _ g.met.P.Proc.closes
    c.saturating_add-self.ensures (sym c.buffer.ensures ∙ c.in-Some.is)

pub returns-in-None-clause-closes : goal.returns-in-None-clause-closes
returns-in-None-clause-closes g c = closes-none g.P.Proc.process g.P.Proc.is_at g.P.Proc.ready c.args.self.now g.met.P.Proc.closes
    (sym c.buffer.ensures ∙ c.in-None.is)
