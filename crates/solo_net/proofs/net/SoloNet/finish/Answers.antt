use Rattle.std.proofs.Common.{refl}
use Rattle.solo_net.proofs.Finishing.{ends, together, faults, shows, prints, tells-plan}
use Rattle.solo_net.proofs.net.SoloNet.finish.Goals as goal

pub returns-clause-ends : goal.returns-clause-ends
returns-clause-ends g c = λ at.
    ends _ _ c.args.self _ _ _ _ c.requires.ended c.outcome.ensures c.outcome-2.ensures c.outcome-3.ensures c.stopped_by.ensures at

pub returns-clause-together : goal.returns-clause-together
returns-clause-together g c =
    together _ _ c.args.self _ _ _ _ c.requires.ended c.outcome.ensures c.outcome-2.ensures c.outcome-3.ensures c.stopped_by.ensures

pub returns-clause-faults : goal.returns-clause-faults
returns-clause-faults g c =
    faults _ _ c.args.self _ _ _ _ c.requires.ended c.outcome.ensures c.outcome-2.ensures c.outcome-3.ensures c.stopped_by.ensures

pub returns-clause-shows : goal.returns-clause-shows
returns-clause-shows g c = λ at.
    shows _ _ c.args.self _ _ _ _ c.requires.ended c.outcome.ensures c.outcome-2.ensures c.outcome-3.ensures c.stopped_by.ensures at

pub returns-clause-prints : goal.returns-clause-prints
returns-clause-prints g c = λ at.
    prints _ _ c.args.self _ _ _ _ c.requires.ended c.outcome.ensures c.outcome-2.ensures c.outcome-3.ensures c.stopped_by.ensures at

pub returns-clause-tells : goal.returns-clause-tells
returns-clause-tells g c = λ at cards keys plan c_told k_told w_told.
    tells-plan _ _ c.args.self _ _ _ _ c.requires.ended c.outcome.ensures c.outcome-2.ensures c.outcome-3.ensures c.stopped_by.ensures at _ refl refl cards
    keys plan c_told k_told w_told
