use Rattle.std.proofs.Common.{rules, ◌≡◌, Some, refl, sym, ap, ◌∙◌}
use Rattle.real_time.specs.Awaiting.{Row}
use Rattle.real_time.proofs.Due.{passes-due}
use Rattle.real_time.proofs.task.Task.passes.Goals as goal

pub returns-clause-passes : goal.returns-clause-passes
returns-clause-passes c = λ plan now at w.
    let same : c.in-Some.next ≡ c.args.second = (let no = c.if-next-second.false in search rules) in
    let next_is : c.args.self.now.next ≡ Some c.args.second = ap (λ (r : Row). r.next) (sym c.self.view_is) ∙ c.in-Some.is ∙ ap Some same in
    passes-due plan now c.args.second c.args.self.now at w _ next_is (rw (← c.self.view_is, c.next_behind-self-inside.ensures) refl)
