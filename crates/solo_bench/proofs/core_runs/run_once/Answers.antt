use Rattle.net_core.specs.Net.{first_place}
use Rattle.solo_bench.proofs.core_runs.run_once.Goals as goal

pub run_by-counts-requires : goal.run_by-counts-requires
run_by-counts-requires g c = record { before = first_place c.make-net.ensures.opens }
