use Rattle.std.proofs.Common.{ap}
use Rattle.std.specs.Prelude.{not}
use Rattle.solo_procs.proofs.JobNeeds.{file-taken, same-commands}
use Rattle.solo_procs.proofs.job_proc.JobProc.take_file.Goals as goal

pub returns-clause-ready : goal.returns-clause-ready
returns-clause-ready g c = λ items pages kept.
    rw (c.toil.ensures, c.replace-cards.ensures.value) (file-taken g.C.Commands.awaits c.args.self.now c.args.report.now _ c.replace-cards.new.dest
    (ap not c.says_true-spoiled.ensures) items pages
    kept)

pub returns-clause-kept : goal.returns-clause-kept
returns-clause-kept g c = same-commands _ _ c.toil.ensures
