-- What is known of the files that the jobs of a deck name.
use Rattle.std.specs.Prelude.{◌≡◌, ◌⊎◌, List, [], Option, IsSome}
use Rattle.solo_base.specs.declared.item.Item.{Item}
use Rattle.batch_procs.specs.Jobs.{Jobs, FilesAs}

-- The area tells what its files are loaded as, or the items name no file.
abbrev pub AreFilesKnown : {L : Type 0} → Jobs L → Option (FilesAs L) → List Item → Type 0
AreFilesKnown J files items = IsSome files ⊎ (J.named items ≡ [])
