use Rattle.session_tests.proofs.net_runs.run_on.Goals as goal

pub turn-requires : goal.turn-requires
turn-requires g c = record { at = c.loop.invariant; may = (c.in-Some.ensures.picks c.loop.invariant).1 }
