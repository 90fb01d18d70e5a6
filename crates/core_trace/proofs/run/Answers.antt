use Rattle.net_core.specs.Net.{first_place}
use Rattle.core_trace.proofs.run.Goals as goal

pub trace-requires : goal.trace-requires
trace-requires g c = first_place c.make-net.ensures.opens
