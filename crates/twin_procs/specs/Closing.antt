-- A law.
-- The buffers that each of the six stops stand in order.
use Rattle.std.proofs.Common.{lit<}
use Rattle.batch_procs.specs.Jobs.{Jobs}
use Rattle.twin_law.specs.Sides.{Twin, A, B}
use Rattle.twin_law.specs.Ends.{card, printer}
use Rattle.twin_law.specs.Input.{input}
use Rattle.twin_law.specs.Job.{job}
use Rattle.twin_law.specs.Output.{output}
use Rattle.twin_procs.specs.Machine.{ClosesDown}

pub card-closes : (L : Type 0) → ClosesDown (card {L = L})
card-closes L = record { ascending = (tt, tt); few = lit< tt; spools_ascending = tt; spools_few = lit< tt }

pub input-closes : (L : Type 0) → ClosesDown (input {L = L})
input-closes L = record {
  ascending = ((lit< tt, (lit< tt, tt)), ((lit< tt, tt), (tt, tt)));
  few = lit< tt;
  spools_ascending = ((lit< tt, tt), (tt, tt));
  spools_few = lit< tt;
}

pub job-closes : {L : Type 0} (J : Jobs L) (side : Twin) → ClosesDown (job J side)
job-closes J A = record {
  ascending = ((lit< tt, tt), (tt, tt));
  few = lit< tt;
  spools_ascending = ((lit< tt, tt), (tt, tt));
  spools_few = lit< tt;
}
job-closes J B = record {
  ascending = ((lit< tt, tt), (tt, tt));
  few = lit< tt;
  spools_ascending = ((lit< tt, tt), (tt, tt));
  spools_few = lit< tt;
}

pub output-closes : (L : Type 0) → ClosesDown (output {L = L})
output-closes L = record {
  ascending = ((lit< tt, (lit< tt, tt)), ((lit< tt, tt), (tt, tt)));
  few = lit< tt;
  spools_ascending = ((lit< tt, tt), (tt, tt));
  spools_few = lit< tt;
}

pub printer-closes : (L : Type 0) → ClosesDown (printer {L = L})
printer-closes L = record { ascending = (tt, tt); few = lit< tt; spools_ascending = tt; spools_few = lit< tt }
