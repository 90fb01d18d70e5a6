use Rattle.std.proofs.Common.{◌*◌, rules, arith}
use Rattle.monitor_gate.proofs.Moves.{delays_from}
use Rattle.monitor_gate.proofs.turn.rest.Goals as goal

pub swap-found-requires : goal.swap-found-requires
swap-found-requires g c =
    let rested = c.requires.rested in let kept = c.kept_out-left.ensures in (
      search rules,
      search rules,
      delays_from _ _ _ _ _ _ _ _ c.args.seat.now.me _ rested.0 c.args.state (2 * kept.0) _ (omega (arith, kept.1)) c.put_back.ensures.1
          (λ lists tied. g.met.M.MonitorKind.suspends c.args.word.now.key.state.value rested.0 c.args.state lists c.args.seat.now.me.0.number tied rested.2) rested.1,
    )
