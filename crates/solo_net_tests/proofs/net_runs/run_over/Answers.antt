use Rattle.std.proofs.Common.{None}
use Rattle.solo_net.specs.Net.{solo_first_place}
use Rattle.solo_net_tests.proofs.Fit.{none_some}
use Rattle.solo_net_tests.proofs.net_runs.run_over.Goals as goal

pub run_on-requires : goal.run_on-requires
run_on-requires g c = record { before = solo_first_place (c.make-net.ensures.opens None (λ plan told. absurd (none_some plan told))) }

pub finish-requires : goal.finish-requires
finish-requires g c = record { ended = record { at = c.in-Some.ensures.after; all = c.in-Some.ensures.ended c.in-Some.ensures.after } }
