use Rattle.stack_machine.proofs.RunIn.{any_run_in}
use Rattle.stack_machine.proofs.laws.code_runs_in_any_world.Goals as goal

pub returns : goal.returns
returns g c = any_run_in
