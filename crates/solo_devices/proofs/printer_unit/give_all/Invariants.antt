use Rattle.std.proofs.Common.{◌≤◌, length}
use Rattle.solo_devices.specs.PrinterUnit.{HasGiven}
use Rattle.solo_devices.proofs.printer_unit.give_all.Given as goal

abbrev pub invariant-giving : goal.invariant-giving
invariant-giving g l =
    HasGiven (g.K.Sink.given l.initial.sink) (g.K.Sink.given l.sink) l.piece l.rest
    × (g.K.Sink.faults l.initial.sink ≤ g.K.Sink.faults l.sink)

abbrev pub decreases-giving : goal.decreases-giving
decreases-giving g l = length l.rest
