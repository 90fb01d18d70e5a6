use Rattle.std.proofs.Common.{List, pos, refl, sym, ◌∙◌, ap}
use Rattle.solo_base.specs.declared.system_call.SysCall.{SysCall}
use Rattle.solo_base.specs.declared.system_call.SysCall.TheVariants as calls
use Rattle.pascal_mean.specs.Situation.{Gives}
use Rattle.pascal_mean.specs.Calls.{values_in, first_value}
use Rattle.pascal_evaluate.specs.SeenStore.{situation, all_given}
use Rattle.pascal_evaluate.proofs.Answered.{done, pushed}
use Rattle.pascal_evaluate.proofs.interface.write_number.Goals as goal

pub returns : goal.returns
returns c text limit =
    let now = situation c.args.run.now in
    let call = calls.WriteInt (first_value (values_in (all_given c.args.given.now))) in
    done text call (all_given c.args.given.now) now (λ left. refl)
    ∙ ap (λ (m : List SysCall). Gives (pos 0) (record now { made = m }))
    (sym (pushed c.args.run.now.made.items c.push.new.self.items c.number_in.result call c.in_ok-push.ensures.items c.number_in.ensures))
