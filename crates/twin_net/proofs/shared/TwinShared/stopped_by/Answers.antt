use Rattle.twin_net.proofs.Finishing.{sides-are}
use Rattle.twin_net.proofs.shared.TwinShared.stopped_by.Goals as goal

pub returns : goal.returns
returns g c s st =
    sides-are _ c.args.self.now s st _ _ _ _ _ _ c.stopped_by.ensures.marked c.stopped_by-2.ensures.marked c.stopped_by-3.ensures.marked
    c.stopped_by-4.ensures.marked c.stopped_by-5.ensures.marked c.stopped_by-6.ensures.marked
