use Rattle.std.proofs.Common.{[], ◌∷◌}
use Rattle.monitor_gate.proofs.entry.Inside+M.leave.Given as goal

abbrev pub ghosts-hand_on : goal.ghosts-hand_on
ghosts-hand_on g a = record { gained = a.entry ∷ [] }
