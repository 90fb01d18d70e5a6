-- Which place of the law the input process stands at.
use Rattle.std.specs.Prelude.{◌≡◌, Bool, true}
use Rattle.page_codec.specs.Packing.{PageInHand}
use Rattle.solo_law.specs.InputPlaces.{InputPlace, AwaitsOrder, Reads, PutsFull, PutsLast, Reports, IsOver}
use Rattle.solo_procs.specs.declared.input_proc.InputAt.{InputAt}
use Rattle.solo_procs.specs.declared.input_proc.InputAt.TheVariants as here
use Rattle.solo_procs.specs.Hands.{Holds}

abbrev pub InputStands : InputAt → PageInHand → Bool → InputPlace → Type 0
InputStands place packer sound AwaitsOrder = place ≡ here.AwaitsOrder
InputStands place packer sound (Reads pages hand clean) =
    (place ≡ here.Reads) × (sound ≡ clean) × Holds packer pages hand
InputStands place packer sound (PutsFull page pages hand) =
    (place ≡ here.PutsFull page) × (sound ≡ true) × Holds packer pages hand
InputStands place packer sound (PutsLast page clean) = (place ≡ here.PutsLast page) × (sound ≡ clean)
InputStands place packer sound (Reports clean) = (place ≡ here.Reports) × (sound ≡ clean)
InputStands place packer sound IsOver = place ≡ here.IsOver
