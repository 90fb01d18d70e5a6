use Rattle.std.proofs.Common.{◌∙◌, None, ap, length, subst, sym}
use Rattle.real_time.specs.Answers.{StandsWithin}
use Rattle.real_time.specs.States.{Works}
use Rattle.time_net.specs.Standing.{IsWaking, behind_this, ticks_from}
use Rattle.time_net.proofs.Ticking.{refilled, woken}
use Rattle.time_net.proofs.operator.Operator.wake_at.Goals as goal

pub returns : goal.returns
returns c = λ s passing well.
    let items = c.as_mut_slice.ensures.value in
    let within = subst (StandsWithin s c.args.place) (sym items) passing.within in record {
      does = subst (λ rows. IsWaking rows c.args.place c.args.second c.pass-due.result c.args.left
          (Works (ticks_from s c.args.place c.args.left)) (behind_this c.args.left s) None)
          (sym (refilled c.args.self.now.tasks.items c.pass-due.new.tasks (c.pass-due.auto.tasks ∙ ap length items)))
          (woken c.args.self.now.tasks.items c.pass-due.new.tasks s c.args.place c.args.second c.args.left c.pass-due.result passing c.requires
          (c.pass-due.ensures.starts s passing.second_is within) (c.pass-due.ensures.stands s passing.second_is within));
      fault_is = well;
    }
