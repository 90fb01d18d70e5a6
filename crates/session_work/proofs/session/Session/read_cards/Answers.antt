use Rattle.std.proofs.Common.{◌≡◌, refl}
use Rattle.solo_law.specs.Work.{OfCards}
use Rattle.solo_procs.specs.Commands.{AtCards}
use Rattle.solo_task.specs.Needs.{Pause, resumes}
use Rattle.program_run.specs.Sight.{StandsFor}
use Rattle.session_work.proofs.Working.{worked-from}
use Rattle.session_work.proofs.Answering.{lacks-memory}
use Rattle.session_work.proofs.Programs.{RunIs, takes-cards}
use Rattle.session_work.proofs.session.Session.read_cards.Goals as goal

pub returns-in-Ok-clause-worked : goal.returns-in-Ok-clause-worked
returns-in-Ok-clause-worked g c = λ pages hand is.
    worked-from pages (λ all x. (pause : Pause) × StandsFor AtCards c.args.program hand all pause × (x ≡ resumes (OfCards c.args.cards.now c.args.spoiled) all pause)) (RunIs c.take_cards.new.self hand) (g.A.Area.pages c.args.files.now.area) (g.A.Area.pages c.args.files.now.area) c.run_on.result c.run_on.new.self (g.A.Area.pages c.run_on.new.files.area) refl
    (λ told here x makes. takes-cards c.args.cards.now c.args.spoiled c.args.program c.take_cards.new.self hand _ x c.in-Ok.ensures makes) (c.run_on.ensures.worked pages hand is)

pub returns-in-Err-clause-worked : goal.returns-in-Err-clause-worked
returns-in-Err-clause-worked g c = λ pages hand is. lacks-memory pages (λ all x. (pause : Pause) × StandsFor AtCards c.args.program hand all pause × (x ≡ resumes (OfCards c.args.cards.now c.args.spoiled) all pause)) c.args.self.now (g.A.Area.pages c.args.files.now.area) (g.A.Area.pages c.args.files.now.area) refl
