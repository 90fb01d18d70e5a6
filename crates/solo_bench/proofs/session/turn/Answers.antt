use Rattle.solo_bench.proofs.session.turn.Goals as goal

pub step-requires : goal.step-requires
step-requires g c = record { at = c.requires; may = (c.in-Some.ensures.picks c.requires).1 }
