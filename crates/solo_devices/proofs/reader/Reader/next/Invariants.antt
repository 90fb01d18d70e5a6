use Rattle.solo_devices.specs.Reader.{HasWaited, work}
use Rattle.solo_devices.proofs.reader.Reader.next.Given as goal

abbrev pub invariant-reading : goal.invariant-reading
invariant-reading g l = HasWaited g.S.Source.left g.S.Source.taken g.S.Source.faults l.initial.self l.self

abbrev pub decreases-reading : goal.decreases-reading
decreases-reading g l = work l.self
