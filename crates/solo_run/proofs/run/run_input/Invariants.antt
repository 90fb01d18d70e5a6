use Rattle.solo_run.specs.Input.{InputRan}
use Rattle.solo_run.specs.Places.{input_at}
use Rattle.solo_run.proofs.Going.{Going}
use Rattle.solo_run.proofs.run.run_input.Given as goal

abbrev pub invariant-loop : goal.invariant-loop
invariant-loop g l = Going 1 input_at input_at l.machine (InputRan g.S.Source.left g.S.Source.taken g.S.Source.faults l.initial.side l.side)
