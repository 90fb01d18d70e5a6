use Rattle.std.proofs.Common.{rules, ◌≡◌, arith, ap, ◌∙◌}
use Rattle.monitor_gate.proofs.Moves.{resumes}
use Rattle.monitor_gate.proofs.Held.{held}
use Rattle.monitor_gate.proofs.turn.take_handed.Goals as goal

pub compare_exchange-requires : goal.compare_exchange-requires
compare_exchange-requires g c =
    let mine : c.from-number.result ≡ c.loop.seat.me.0.number = cc (ap (λ m. m.0.number) c.loop.invariant.1) in
    (search rules, search rules, resumes _ _ _ _ _ _ _ _ _ _ _ (grind (arith, mine)) (omega (arith, mine)) (ap (λ m. m.0.stage) c.loop.invariant.1 ∙ c.requires.delayed.0))

pub exchange-requires : goal.exchange-requires
exchange-requires g c = let took = c.compare_exchange.ensures.2.0 (search rules) in (search rules, held c.compare_exchange.new.seat.me c.loop.seat.me took.0 took.1)
