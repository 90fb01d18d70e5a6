use Rattle.solo_procs.proofs.InputSteps.{input-no_page}
use Rattle.solo_procs.proofs.input_proc.InputProcProc.page.Goals as goal

pub returns-clause-ok : goal.returns-clause-ok
returns-clause-ok c = λ at kept fits. absurd (input-no_page at c.args._page fits)
