use Rattle.std.proofs.Common.{◌∙◌, inl}
use Rattle.std.proofs.lemmas.Result.{IfErr-weaker}
use Rattle.disk_system.proofs.Stores.{room_answered}
use Rattle.disk_system.proofs.storing.store.Goals as goal

pub returns-in-Ok-clause-refused : goal.returns-in-Ok-clause-refused
returns-in-Ok-clause-refused g c = λ pages told.
    IfErr-weaker c.make.result _ _ (λ fault. inl)
    (c.make.ensures.fault pages (c.in-Ok.ensures.left ∙ told) (room_answered _ _ (c.in-Ok.ensures.answer pages told)))

pub returns-in-Ok-clause-taken : goal.returns-in-Ok-clause-taken
returns-in-Ok-clause-taken g c = λ pages told.
    c.make.ensures.taken pages (c.in-Ok.ensures.left ∙ told) (room_answered _ _ (c.in-Ok.ensures.answer pages told))
