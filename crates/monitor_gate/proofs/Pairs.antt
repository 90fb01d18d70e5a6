-- The entries of two passes, once the first has joined the second.
use Rattle.std.proofs.Common.{◌≡◌, [], refl}
use Rattle.monitor_gate.specs.Views.{entries_of}
use Rattle.monitor_gate.specs.Ends.{PassView, joined, lists_of}

pub paired : {S E : Type 0} (pass other : PassView S E) → pass.view.number ≡ 1 → other.view.number ≡ 2 → pass.view.joined ≡ []
    → (entries_of (lists_of (joined pass other)) 1 ≡ pass.view.entries) × (entries_of (lists_of (joined pass other)) 2 ≡ other.view.entries)
paired pass other one two alone = rw (one, two, alone) (refl, refl)
