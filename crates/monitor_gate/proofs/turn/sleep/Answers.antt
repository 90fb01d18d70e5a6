use Rattle.std.proofs.Common.{rules}
use Rattle.monitor_gate.proofs.Moves.{tells}
use Rattle.monitor_gate.proofs.turn.sleep.Goals as goal

pub compare_exchange-requires : goal.compare_exchange-requires
compare_exchange-requires g c = (search rules, search rules, tells _ _ _ _ _ _ _ _ _ _ _ (search rules))
