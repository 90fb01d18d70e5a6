use Rattle.std.proofs.Common.{rules, ◌≤◌, ◌<◌, ◌∙◌, ◌∷◌, length, subst}
use Rattle.std.proofs.lemmas.List.{take_all}
use Rattle.real_time.specs.Awaiting.{AllAwait}
use Rattle.real_time.proofs.Changing.{await-more, same-names}
use Rattle.real_time.proofs.tasks.change_named.Goals as goal

pub changing-preserved : goal.changing-preserved
changing-preserved c =
    let below : c.changing.place < length c.changing.tasks = search rules in (
      λ accepted now ahead all.
          await-more accepted _ now c.changing.tasks c.changing.place c.change_if_named.new.task c.index-tasks-place.result below
          c.change_if_named.ensures.name (c.change_if_named.ensures.awaits accepted now ahead) (c.changing.invariant.0 accepted now ahead all),
      same-names c.changing.tasks c.changing.place c.change_if_named.new.task c.index-tasks-place.result below c.change_if_named.ensures.name
          ∙ c.changing.invariant.1,
    )

pub returns-clause-awaits : goal.returns-clause-awaits
returns-clause-awaits c = λ accepted now ahead all.
    let past : length c.changing.tasks ≤ c.changing.place = search rules in
    subst (AllAwait (record { name = c.args.name.now; plan = c.args.plan } ∷ accepted) now) (take_all c.changing.place c.changing.tasks past)
    (c.changing.invariant.0 accepted now ahead all).0
