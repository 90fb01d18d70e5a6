use Rattle.solo_procs.proofs.OutputSteps.{output-no_card}
use Rattle.solo_procs.proofs.output_proc.OutputProcProc.card.Goals as goal

pub returns-clause-ready : goal.returns-clause-ready
returns-clause-ready c = λ at kept fits. absurd (output-no_card at c.args._card fits)
