use Rattle.solo_procs.specs.declared.input_proc.InputAt.TheVariants as here
use Rattle.solo_procs.proofs.InputSteps.{input-does}
use Rattle.solo_procs.proofs.input_proc.InputProcProc.does.Goals as goal

pub returns-in-AwaitsOrder : goal.returns-in-AwaitsOrder
returns-in-AwaitsOrder c = λ at kept. input-does _ here.AwaitsOrder _ _ at c.in-AwaitsOrder.is kept

pub returns-in-Reads : goal.returns-in-Reads
returns-in-Reads c = λ at kept. input-does _ here.Reads _ _ at c.in-Reads.is kept

pub returns-in-PutsFull : goal.returns-in-PutsFull
returns-in-PutsFull c = λ at kept. input-does _ (here.PutsFull c.in-PutsFull.page) _ _ at c.in-PutsFull.is kept

pub returns-in-PutsLast : goal.returns-in-PutsLast
returns-in-PutsLast c = λ at kept. input-does _ (here.PutsLast c.in-PutsLast.page) _ _ at c.in-PutsLast.is kept

pub returns-in-Reports : goal.returns-in-Reports
returns-in-Reports c = λ at kept. input-does _ here.Reports _ _ at c.in-Reports.is kept

pub returns-in-IsOver : goal.returns-in-IsOver
returns-in-IsOver c = λ at kept. input-does _ here.IsOver _ _ at c.in-IsOver.is kept
