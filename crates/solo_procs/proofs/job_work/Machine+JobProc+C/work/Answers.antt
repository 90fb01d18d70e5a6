use Rattle.std.proofs.Common.{◌++◌, ◌∷◌, [], Some, refl, ◌∙◌, ap, subst}
use Rattle.std.specs.Prelude.{Err}
use Rattle.solo_procs.specs.declared.actions.SoloReply.TheVariants as hear
use Rattle.solo_procs.specs.Commands.{given_of, LeadsSo}
use Rattle.solo_procs.proofs.Working.{has-worked, has-come, given-same}
use Rattle.solo_procs.proofs.job_work.Machine+JobProc+C.work.Goals as goal

pub returns-in-Ok-clause-works : goal.returns-in-Ok-clause-works
returns-in-Ok-clause-works g c = λ h work st next.
    has-worked g.C.Commands.awaits c.args.self.now h work st next _ _
    (record c.args.self.now.process { given = c.replace-given.new.dest; commands = c.work.new.self; met = Some c.in-Ok.need }) hear.Done refl
    (λ stands. has-come g.C.Commands.awaits c.args.self.now.process work stands c.replace-given.result c.replace-given.new.dest
    c.replace-given.ensures.value c.work.new.self c.in-Ok.need _ _ c.in-Ok.ensures.comes)

pub returns-in-Err-Failed-clause-works : goal.returns-in-Err-Failed-clause-works
returns-in-Err-Failed-clause-works g c = λ h work st next.
    has-worked g.C.Commands.awaits c.args.self.now h work st next _ _
    (record c.args.self.now.process { given = c.replace-given.new.dest; commands = c.work.new.self }) hear.Failed refl (λ stands. tt)

pub returns-in-Err-NoMemory-clause-works : goal.returns-in-Err-NoMemory-clause-works
returns-in-Err-NoMemory-clause-works g c = λ h work st next.
    has-worked g.C.Commands.awaits c.args.self.now h work st next _ _
    (record c.args.self.now.process { given = c.replace-given.new.dest; commands = c.work.new.self }) hear.NoMemory refl (λ stands. tt)

pub returns-in-Ok-clause-follows : goal.returns-in-Ok-clause-follows
returns-in-Ok-clause-follows g c = λ h work st next opening before led.
    subst (λ given. g.C.Commands.follows c.work.new.self opening (before ++ given ∷ []) c.work.new.files
    × g.C.Commands.passes opening (before ++ given ∷ []) c.work.new.files)
    (given-same g.C.Commands.awaits c.args.self.now h work st next c.replace-given.result c.replace-given.ensures.value)
    (c.in-Ok.ensures.follows opening before led)

pub returns-in-Err-NoMemory-clause-follows : goal.returns-in-Err-NoMemory-clause-follows
returns-in-Err-NoMemory-clause-follows g c = λ h work st next opening before led.
    subst (λ given. g.C.Commands.passes opening (before ++ given ∷ []) c.work.new.files)
    (given-same g.C.Commands.awaits c.args.self.now h work st next c.replace-given.result c.replace-given.ensures.value)
    (subst (λ r. LeadsSo r (g.C.Commands.follows c.work.new.self opening (before ++ given_of c.replace-given.result ∷ []) c.work.new.files)
    (g.C.Commands.passes opening (before ++ given_of c.replace-given.result ∷ []) c.work.new.files))
    (c.in-Err-NoMemory.is ∙ ap Err c.in-Err-NoMemory.field-0-is) (c.work.ensures.follows opening before led))
