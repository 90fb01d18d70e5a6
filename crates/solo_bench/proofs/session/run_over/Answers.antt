use Rattle.std.proofs.Common.{◌≡◌, None, Some}
use Rattle.solo_law.specs.Work.{Plan}
use Rattle.solo_net.specs.Net.{solo_first_place}
use Rattle.solo_bench.proofs.session.run_over.Goals as goal

-- no plan is told
untold : (plan : Plan) → None ≡ Some plan → ⊥
untold plan is = cc

pub run_on-requires : goal.run_on-requires
run_on-requires g c = record { before = solo_first_place (c.make-net.ensures.opens None (λ plan told. absurd (untold plan told))) }

pub finish-requires : goal.finish-requires
finish-requires g c = record { ended = record { at = c.run_on.ensures.after; all = c.run_on.ensures.ended c.run_on.ensures.after } }
