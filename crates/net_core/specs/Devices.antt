-- What a load is to the law.
use Rattle.std.specs.Prelude.{◌≡◌, ℕ, List, [], Option}
use Rattle.batch_procs.specs.declared.actions.Action.TheVariants as act
use Rattle.batch_procs.specs.declared.actions.Reply.{Reply}
use Rattle.batch_procs.specs.Fits.{Fits}
use Rattle.batch_procs.specs.History.{Does}
use Rattle.batch_procs.specs.Jobs.{Jobs, FilesAs}
use Rattle.core_law.specs.Core.{Devices, Allows}

-- a file that is loaded, by what each file is loaded as
pub record LoadsFile {L : Type 0} (J : Jobs L) (found : Option (FilesAs L)) (file : List ℕ) (result : Reply L)
    : Type 0 where
  pub suits : Fits J (act.Load file) result
  pub allowed : (devices : Devices L) → devices.files ≡ found
      → Allows devices (Does (act.Load file) result) []
