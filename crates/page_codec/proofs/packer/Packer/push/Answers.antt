use Rattle.std.proofs.Common.{refl}
use Rattle.page_codec.specs.Due.{due_alone}
use Rattle.page_codec.proofs.packer.Packer.push.Goals as goal

pub returns-clause-history : goal.returns-clause-history
returns-clause-history c =
    λ items pages packed.
    rw (c.push_into.ensures.page, due_alone c.args.self.now c.args.item.now) (c.push_into.ensures.history items pages packed)
