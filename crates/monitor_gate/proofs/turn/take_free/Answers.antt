use Rattle.std.proofs.Common.{rules, refl, ap, ◌∙◌}
use Rattle.monitor_gate.proofs.Moves.{enters}
use Rattle.monitor_gate.proofs.Held.{held}
use Rattle.monitor_gate.proofs.turn.take_free.Goals as goal

pub compare_exchange-requires : goal.compare_exchange-requires
compare_exchange-requires g c = (search rules, search rules, enters _ _ _ _ _ _ _ _ _ _ _ (search rules) refl (ap (λ m. m.0.stage) c.loop.invariant.1 ∙ c.requires.outside.0))

pub exchange-requires : goal.exchange-requires
exchange-requires g c = let took = c.compare_exchange.ensures.2.0 (search rules) in (search rules, held c.compare_exchange.new.seat.me c.loop.seat.me took.0 took.1)
