use Rattle.solo_procs.specs.declared.job_proc.JobAt.TheVariants as here
use Rattle.solo_procs.proofs.JobSteps.{job-does}
use Rattle.solo_procs.proofs.job_proc.JobProcProc.does.Goals as goal

pub returns-in-Listens : goal.returns-in-Listens
returns-in-Listens g c = λ at kept. job-does c.args.self.now.place here.Listens at c.in-Listens.is kept

pub returns-in-Toils : goal.returns-in-Toils
returns-in-Toils g c = λ at kept. job-does c.args.self.now.place here.Toils at c.in-Toils.is kept

pub returns-in-OrdersCards : goal.returns-in-OrdersCards
returns-in-OrdersCards g c = λ at kept. rw c.cards_order.ensures (job-does c.args.self.now.place here.OrdersCards at c.in-OrdersCards.is kept)

pub returns-in-TakesCards : goal.returns-in-TakesCards
returns-in-TakesCards g c = λ at kept. job-does c.args.self.now.place here.TakesCards at c.in-TakesCards.is kept

pub returns-in-TakesReport : goal.returns-in-TakesReport
returns-in-TakesReport g c = λ at kept. job-does c.args.self.now.place here.TakesReport at c.in-TakesReport.is kept

pub returns-in-Accepts : goal.returns-in-Accepts
returns-in-Accepts g c = λ at kept. job-does c.args.self.now.place here.Accepts at c.in-Accepts.is kept

pub returns-in-Displays : goal.returns-in-Displays
returns-in-Displays g c = λ at kept. rw c.copy.ensures (job-does c.args.self.now.place (here.Displays c.in-Displays.line) at c.in-Displays.is kept)

pub returns-in-OrdersPrinter : goal.returns-in-OrdersPrinter
returns-in-OrdersPrinter g c = λ at kept. rw c.printer_order.ensures (job-does c.args.self.now.place (here.OrdersPrinter c.in-OrdersPrinter.field-0) at
    c.in-OrdersPrinter.is kept)

pub returns-in-PutsPage : goal.returns-in-PutsPage
returns-in-PutsPage g c = λ at kept. job-does c.args.self.now.place (here.PutsPage c.in-PutsPage.page) at c.in-PutsPage.is kept

pub returns-in-TakesPrinted : goal.returns-in-TakesPrinted
returns-in-TakesPrinted g c = λ at kept. job-does c.args.self.now.place here.TakesPrinted at c.in-TakesPrinted.is kept

pub returns-in-AnswersLine : goal.returns-in-AnswersLine
returns-in-AnswersLine g c = λ at kept. rw c.copy-in-AnswersLine.ensures (job-does c.args.self.now.place (here.AnswersLine c.in-AnswersLine.line) at
    c.in-AnswersLine.is kept)

pub returns-in-DismissesInput : goal.returns-in-DismissesInput
returns-in-DismissesInput g c = λ at kept. job-does c.args.self.now.place here.DismissesInput at c.in-DismissesInput.is kept

pub returns-in-DismissesOutput : goal.returns-in-DismissesOutput
returns-in-DismissesOutput g c = λ at kept. job-does c.args.self.now.place here.DismissesOutput at c.in-DismissesOutput.is kept

pub returns-in-HasLeft : goal.returns-in-HasLeft
returns-in-HasLeft g c = λ at kept. job-does c.args.self.now.place here.HasLeft at c.in-HasLeft.is kept
