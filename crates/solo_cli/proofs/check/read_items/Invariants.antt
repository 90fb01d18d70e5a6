use Rattle.std.proofs.Common.{◌≡◌, ◌≤◌, [], List, ℕ, true}
use Rattle.solo_devices.specs.CardUnit.{StandsFor, bytes_total, work_ahead}
use Rattle.solo_cli.proofs.check.read_items.Given as goal

abbrev pub invariant-loop-items : goal.invariant-loop-items
invariant-loop-items g l =
    (l.unit.live ≡ true)
    × ((text : List ℕ) → StandsFor (g.S.Source.left l.fn.unit.source) l.fn.unit.pending text []
    → StandsFor (g.S.Source.left l.unit.source) l.unit.pending text l.items.items)
    × (bytes_total (g.S.Source.taken l.unit.source) (g.S.Source.left l.unit.source)
    ≡ bytes_total (g.S.Source.taken l.fn.unit.source) (g.S.Source.left l.fn.unit.source))
    × (g.S.Source.faults l.fn.unit.source ≤ g.S.Source.faults l.unit.source)

abbrev pub decreases-loop-items : goal.decreases-loop-items
decreases-loop-items g l = work_ahead (g.S.Source.taken l.unit.source) l.unit.pending l.unit.ended
