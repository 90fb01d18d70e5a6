use Rattle.std.proofs.Common.{◌≡◌, refl}
use Rattle.solo_law.specs.Work.{OfTyped}
use Rattle.solo_procs.specs.Commands.{AtTyped}
use Rattle.solo_task.specs.Needs.{Pause, resumes}
use Rattle.program_run.specs.Sight.{StandsFor}
use Rattle.session_work.proofs.Working.{worked-from}
use Rattle.session_work.proofs.Answering.{lacks-memory}
use Rattle.session_work.proofs.Programs.{RunIs, takes-line}
use Rattle.session_work.proofs.session.Session.accept.Goals as goal

pub returns-in-Ok-clause-worked : goal.returns-in-Ok-clause-worked
returns-in-Ok-clause-worked g c = λ pages hand is.
    worked-from pages (λ all x. (pause : Pause) × StandsFor AtTyped c.args.program hand all pause × (x ≡ resumes (OfTyped c.args.typed.now) all pause)) (RunIs c.take_line.new.self hand) (g.A.Area.pages c.args.files.now.area) (g.A.Area.pages c.args.files.now.area) c.run_on.result c.run_on.new.self (g.A.Area.pages c.run_on.new.files.area) refl
    (λ told here x makes. takes-line c.args.typed.now c.args.program c.take_line.new.self hand _ x c.in-Ok.ensures makes) (c.run_on.ensures.worked pages hand is)

pub returns-in-Err-clause-worked : goal.returns-in-Err-clause-worked
returns-in-Err-clause-worked g c = λ pages hand is. lacks-memory pages (λ all x. (pause : Pause) × StandsFor AtTyped c.args.program hand all pause × (x ≡ resumes (OfTyped c.args.typed.now) all pause)) c.args.self.now (g.A.Area.pages c.args.files.now.area) (g.A.Area.pages c.args.files.now.area) refl
