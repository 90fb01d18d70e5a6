use Rattle.std.specs.Prelude.{Some, None}
use Rattle.std.proofs.Common.{◌≡◌, ℕ, ◌+◌, ◌%◌, rules, subst}
use Rattle.monitor_gate.proofs.Moves.{leaves_from}
use Rattle.monitor_gate.proofs.turn.hand_on.Goals as goal

pub swap-found-requires : goal.swap-found-requires
swap-found-requires g c =
    let moved = c.requires.moved in
    let left = c.word_of-left.ensures in
    -- the word is that of the state behind the pointer
    let handed = g.M.MonitorKind.handed_to in
    let free = subst (λ s. c.word_of-left.result % 65536 ≡ 0 → handed s ≡ None) c.get.ensures left.free in
    let named = subst (λ s. (p : ℕ) → c.word_of-left.result % 65536 ≡ p + 2 → handed s ≡ Some p) c.get.ensures left.handed in (
      search rules,
      search rules,
      leaves_from _ _ _ _ _ _ _ _ c.args.seat.now.me _ moved.0 c.args.state c.args.entry _ _ c.put_back.ensures.1
          (λ lists tied. g.met.M.MonitorKind.completes c.args.word.now.key.state.value moved.0 c.args.state lists c.args.seat.now.me.0.number c.args.entry tied moved.2)
          moved.1 c.requires.alone c.requires.picked free named left.not_inside,
    )
