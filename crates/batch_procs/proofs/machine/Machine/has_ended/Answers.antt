use Rattle.std.proofs.Common.{refl, sym, ◌∙◌, ap}
use Rattle.batch_procs.specs.Machine.{step_after}
use Rattle.batch_procs.proofs.Machines.{ended-step}
use Rattle.batch_procs.proofs.machine.Machine.has_ended.Goals as goal

pub returns-in-Ended : goal.returns-in-Ended
returns-in-Ended g c = λ h st. (λ yes. ended-step _ (sym st.step ∙ c.in-Ended.is), λ ended. refl)

pub returns-in_default : goal.returns-in_default
returns-in_default g c = λ h st. (λ yes. absurd cc, λ ended. absurd (c.in_default.not-Ended (st.step ∙ ap step_after ended.1)))
