use Rattle.solo_procs.specs.declared.commands.Given.TheVariants as given
use Rattle.solo_procs.specs.declared.job_proc.JobAt.TheVariants as here
use Rattle.solo_procs.specs.Job.{JobStands}
use Rattle.solo_procs.proofs.JobSteps.{no-toils, done-toils, done-else, done-orders_cards, done-displays, done-orders_printer, done-puts, done-answers, done-dismisses_input, done-dismisses_output, done-idle}
use Rattle.solo_procs.proofs.JobNeeds.{same-commands}
use Rattle.solo_procs.proofs.job_proc.JobProcProc.done.Goals as goal

pub returns-in-Toils-clause-ready : goal.returns-in-Toils-clause-ready
returns-in-Toils-clause-ready g c = done-toils g.C.Commands.awaits c.args.self.now (λ to. JobStands g.C.Commands.awaits c.meet.new.self to) c.in-Toils.is
    c.meet.ensures.ready

pub returns-in-OrdersCards-clause-ready : goal.returns-in-OrdersCards-clause-ready
returns-in-OrdersCards-clause-ready g c =
    done-else g.C.Commands.awaits c.args.self.now (λ to. JobStands g.C.Commands.awaits c.order_cards.new.self to) (no-toils _ _ c.in-OrdersCards.is tt)
    (done-orders_cards g.C.Commands.awaits c.args.self.now (λ to. JobStands g.C.Commands.awaits c.order_cards.new.self to) c.in-OrdersCards.is
    c.order_cards.ensures.ready)

pub returns-in-Displays-clause-ready : goal.returns-in-Displays-clause-ready
returns-in-Displays-clause-ready g c = rw c.toil.ensures (
    done-else g.C.Commands.awaits c.args.self.now (λ to. JobStands g.C.Commands.awaits (record c.args.self.now { place = here.Toils; given = given.Nothing })
    to)
    (no-toils _ _ c.in-Displays.is tt) (done-displays g.C.Commands.awaits c.args.self.now c.in-Displays.field-0 c.in-Displays.is))

pub returns-in-OrdersPrinter-clause-ready : goal.returns-in-OrdersPrinter-clause-ready
returns-in-OrdersPrinter-clause-ready g c =
    done-else g.C.Commands.awaits c.args.self.now (λ to. JobStands g.C.Commands.awaits (record c.args.self.now
    { place = here.PutsPage c.in-OrdersPrinter.page }) to) (no-toils _ _ c.in-OrdersPrinter.is tt)
    (done-orders_printer g.C.Commands.awaits c.args.self.now c.in-OrdersPrinter.page c.in-OrdersPrinter.is)

pub returns-in-PutsPage-clause-ready : goal.returns-in-PutsPage-clause-ready
returns-in-PutsPage-clause-ready g c =
    done-else g.C.Commands.awaits c.args.self.now (λ to. JobStands g.C.Commands.awaits c.put.new.self to) (no-toils _ _ c.in-PutsPage.is tt)
    (done-puts g.C.Commands.awaits c.args.self.now c.in-PutsPage.field-0 (λ to. JobStands g.C.Commands.awaits c.put.new.self to) c.in-PutsPage.is
    c.put.ensures.ready)

pub returns-in-AnswersLine-clause-ready : goal.returns-in-AnswersLine-clause-ready
returns-in-AnswersLine-clause-ready g c =
    done-else g.C.Commands.awaits c.args.self.now (λ to. JobStands g.C.Commands.awaits c.answer.new.self to) (no-toils _ _ c.in-AnswersLine.is tt)
    (done-answers g.C.Commands.awaits c.args.self.now c.in-AnswersLine.field-0 (λ to. JobStands g.C.Commands.awaits c.answer.new.self to) c.in-AnswersLine.is
    c.answer.ensures.ready)

pub returns-in-DismissesInput-clause-ready : goal.returns-in-DismissesInput-clause-ready
returns-in-DismissesInput-clause-ready g c =
    done-else g.C.Commands.awaits c.args.self.now (λ to. JobStands g.C.Commands.awaits (record c.args.self.now { place = here.DismissesOutput }) to)
    (no-toils _ _ c.in-DismissesInput.is tt)
    (done-dismisses_input g.C.Commands.awaits c.args.self.now c.in-DismissesInput.is)

pub returns-in-DismissesOutput-clause-ready : goal.returns-in-DismissesOutput-clause-ready
returns-in-DismissesOutput-clause-ready g c =
    done-else g.C.Commands.awaits c.args.self.now (λ to. JobStands g.C.Commands.awaits (record c.args.self.now { place = here.HasLeft }) to)
    (no-toils _ _ c.in-DismissesOutput.is tt)
    (done-dismisses_output g.C.Commands.awaits c.args.self.now c.in-DismissesOutput.is)

pub returns-in_default-clause-ready : goal.returns-in_default-clause-ready
returns-in_default-clause-ready g c =
    done-else g.C.Commands.awaits c.args.self.now (λ to. JobStands g.C.Commands.awaits c.args.self.now to) c.in_default.not-Toils
    (done-idle g.C.Commands.awaits c.args.self.now record {
      cards = c.in_default.not-OrdersCards;
      displays = c.in_default.not-Displays;
      printer = c.in_default.not-OrdersPrinter;
      puts = c.in_default.not-PutsPage;
      answers = c.in_default.not-AnswersLine;
      input = c.in_default.not-DismissesInput;
      output = c.in_default.not-DismissesOutput;
    })

pub returns-in-Displays-clause-kept : goal.returns-in-Displays-clause-kept
returns-in-Displays-clause-kept g c = same-commands _ _ c.toil.ensures
