use Rattle.std.proofs.Common.{rules, ap}
use Rattle.monitor_gate.proofs.Deals.{splits}
use Rattle.monitor_gate.proofs.deal.next_pass.Goals as goal

pub split_seat-seat-requires : goal.split_seat-seat-requires
split_seat-seat-requires g c = (search rules, search rules, splits _ _ _ _ _ _ _ _ c.args.made (ap (λ m. m.0.stage) c.requires.making) c.requires.room.1)
