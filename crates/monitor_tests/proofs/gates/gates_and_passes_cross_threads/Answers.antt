use Rattle.monitor_tests.proofs.gates.gates_and_passes_cross_threads.Goals as goal

pub leave-requires-clause-moved : goal.leave-requires-clause-moved
leave-requires-clause-moved g c κs = (_, c.enter-inside.ensures.taken, tt)
