use Rattle.solo_procs.specs.declared.output_proc.OutputAt.TheVariants as here
use Rattle.solo_procs.proofs.OutputSteps.{output-does}
use Rattle.solo_procs.proofs.output_proc.OutputProcProc.does.Goals as goal

pub returns-in-AwaitsPrinting : goal.returns-in-AwaitsPrinting
returns-in-AwaitsPrinting c = λ at kept. output-does _ here.AwaitsPrinting _ _ _ at c.in-AwaitsPrinting.is kept

pub returns-in-TakesPage : goal.returns-in-TakesPage
returns-in-TakesPage c = λ at kept. output-does _ here.TakesPage _ _ _ at c.in-TakesPage.is kept

pub returns-in-PrintsLine : goal.returns-in-PrintsLine
returns-in-PrintsLine c = λ at kept. rw c.copy.ensures (output-does _ (here.PrintsLine c.in-PrintsLine.line) _ _ _ at c.in-PrintsLine.is kept)

pub returns-in-ReportsPrinted : goal.returns-in-ReportsPrinted
returns-in-ReportsPrinted c = λ at kept. output-does _ here.ReportsPrinted _ _ _ at c.in-ReportsPrinted.is kept

pub returns-in-IsDone : goal.returns-in-IsDone
returns-in-IsDone c = λ at kept. output-does _ here.IsDone _ _ _ at c.in-IsDone.is kept
