use Rattle.unit_work.proofs.WholeBatch.{batch-prints, batch-bound}
use Rattle.unit_work.proofs.laws.batch_of_two_workers.Goals as goal

pub returns-clause-prints : goal.returns-clause-prints
returns-clause-prints c = batch-prints

pub returns-clause-bound : goal.returns-clause-bound
returns-clause-bound c = batch-bound
