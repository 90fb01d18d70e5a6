use Rattle.std.proofs.Common.{◌≡◌, ◌≤◌, ◌+◌, ◌++◌, length, drop, true}
use Rattle.solo_base.specs.Card.{cards}
use Rattle.solo_devices.specs.CardUnit.{byte_limit, work_ahead}
use Rattle.solo_cli.specs.Tallies.{CountsOn}
use Rattle.solo_cli.proofs.deck_numbers.numbers_of.Given as goal

abbrev pub invariant-loop-role : goal.invariant-loop-role
invariant-loop-role l =
    (l.unit.live ≡ true)
    × (l.unit.source.taken + length (drop l.unit.source.taken l.unit.source.bytes) ≤ byte_limit)
    × CountsOn (cards l.fn.deck) (cards (l.unit.pending ++ drop l.unit.source.taken l.unit.source.bytes)) l.tally

abbrev pub decreases-loop-role : goal.decreases-loop-role
decreases-loop-role l = work_ahead l.unit.source.taken l.unit.pending l.unit.ended
