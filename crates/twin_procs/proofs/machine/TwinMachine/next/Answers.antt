use Rattle.std.proofs.Common.{sym, ◌∙◌}
use Rattle.twin_procs.proofs.Machines.{closing-caused, closing-done, waits-on}
use Rattle.twin_procs.proofs.machine.TwinMachine.next.Goals as goal

pub returns-in-Some-clause-next : goal.returns-in-Some-clause-next
returns-in-Some-clause-next g c = λ h st. c.close.ensures h st (closing-caused st c.in-Some.field-0 c.in-Some.is)

pub returns-in-Some-clause-waits : goal.returns-in-Some-clause-waits
returns-in-Some-clause-waits g c = λ h a st. waits-on st a

pub returns-then-is_end-clause-next : goal.returns-then-is_end-clause-next
returns-then-is_end-clause-next g c = λ h st.
    c.close-then-is_end.ensures h st (closing-done st c.in-None.is c.aim-aim.result c.aim-aim.ensures
    (sym c.is_end.ensures ∙ c.if-is_end.true))

pub returns-then-is_end-clause-waits : goal.returns-then-is_end-clause-waits
returns-then-is_end-clause-waits g c = λ h a st. waits-on st a
