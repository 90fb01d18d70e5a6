use Rattle.std.proofs.Common.{List, pos, refl, sym, ◌∙◌, ap}
use Rattle.solo_base.specs.declared.outcome.ProgResult.TheVariants as result
use Rattle.solo_base.specs.declared.system_call.SysCall.{SysCall}
use Rattle.solo_base.specs.declared.system_call.SysCall.TheVariants as calls
use Rattle.pascal_mean.specs.Situation.{Gives}
use Rattle.pascal_evaluate.specs.SeenStore.{situation, all_given}
use Rattle.pascal_evaluate.proofs.Parts.{ends_here}
use Rattle.pascal_evaluate.proofs.Answered.{done, pushed}
use Rattle.pascal_evaluate.proofs.interface.write.Goals as goal

pub returns-in_ok-push-in-Some : goal.returns-in_ok-push-in-Some
returns-in_ok-push-in-Some c text limit =
    let now = situation c.args.run.now in
    let call = calls.Write c.in-Some.code in
    rw (← c.in-Some.ensures)
    (done text call (all_given c.args.given.now) now (λ left. refl)
    ∙ ap (λ (m : List SysCall). Gives (pos 0) (record now { made = m }))
    (sym (pushed c.args.run.now.made.items c.push.new.self.items _ call c.in_ok-push-in-Some.ensures.items refl)))

pub returns-in-None : goal.returns-in-None
returns-in-None c text limit = rw (← c.in-None.ensures) (ends_here result.RangeError (situation c.args.run.now))
