use Rattle.std.proofs.Common.{◌∙◌, sym}
use Rattle.solo_procs.proofs.Machines.{next-stop, next-end}
use Rattle.solo_procs.proofs.machine.Machine.closing.Goals as goal

pub returns-in-Some : goal.returns-in-Some
returns-in-Some g c = λ h st is. next-stop st.tracks c.args.cause c.in-Some.buffer is (sym c.buffer.ensures ∙ c.in-Some.is)

pub returns-in-None : goal.returns-in-None
returns-in-None g c = λ h st is. next-end st.tracks c.args.cause is (sym c.buffer.ensures ∙ c.in-None.is)
