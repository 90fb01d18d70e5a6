use Rattle.std.proofs.Common.{◌≡◌, ◌∙◌, ap, refl, subst, sym}
use Rattle.solo_base.specs.Text.{text}
use Rattle.solo_base.specs.declared.outcome.Outcome.TheVariants as outcome
use Rattle.solo_devices.specs.PrinterUnit.{Gains}
use Rattle.real_time.specs.Starts.{times}
use Rattle.time_net.specs.declared.task_proc.Phase.TheVariants.{Runs}
use Rattle.time_net.specs.declared.task_proc.TaskProc.{TaskProc}
use Rattle.time_net.specs.TimeStands.{outcome_with, tellers}
use Rattle.time_net.proofs.Finishing.{all-taken, eight-of, reads, runs, shows}
use Rattle.time_net.proofs.net.TimeNet.finish.Goals as goal

pub returns-clause-shows : goal.returns-clause-shows
returns-clause-shows g c =
    let tells = tellers g.Y.Source.left g.Y.Source.taken g.Y.Source.faults g.T.Sink.given g.T.Sink.faults in λ at items told.
    subst (λ o. Gains at.opening.console (g.T.Sink.given c.args.self.typewriter.console.sink) (text (times items)) (o ≡ outcome.Done))
    (sym (c.outcome_with.ensures ∙ ap outcome_with c.fault.ensures)) (shows tells c.args.self c.requires.ended at items told)

pub returns-clause-reads : goal.returns-clause-reads
returns-clause-reads g c =
    let tells = tellers g.Y.Source.left g.Y.Source.taken g.Y.Source.faults g.T.Sink.given g.T.Sink.faults in λ at items told done.
    reads tells c.args.self c.requires.ended at items told (sym (c.outcome_with.ensures ∙ ap outcome_with c.fault.ensures) ∙ done)

pub returns-clause-all_taken : goal.returns-clause-all_taken
returns-clause-all_taken g c =
    let tells = tellers g.Y.Source.left g.Y.Source.taken g.Y.Source.faults g.T.Sink.given g.T.Sink.faults in λ done.
    all-taken tells c.args.self c.requires.ended (sym (c.outcome_with.ensures ∙ ap outcome_with c.fault.ensures) ∙ done)

pub returns-clause-runs : goal.returns-clause-runs
returns-clause-runs g c =
    let tells = tellers g.Y.Source.left g.Y.Source.taken g.Y.Source.faults g.T.Sink.given g.T.Sink.faults in λ at.
    rw (c.runs.ensures, c.runs-2.ensures, c.runs-3.ensures, c.runs-4.ensures, c.runs-5.ensures, c.runs-6.ensures, c.runs-7.ensures, c.runs-8.ensures)
    (eight-of (λ (task : TaskProc). task.runs) (record { runs = 0; phase = Runs }) c.args.self.tasks at.stands.is.tasks.eight
    ∙ runs tells c.args.self c.requires.ended at c.args.self.tasks refl)
