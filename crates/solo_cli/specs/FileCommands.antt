-- What the commands do with the area of the files.
use Rattle.std.specs.Prelude.{◌≡◌, ◌≤◌, ◌⊎◌, ℕ, List, Option, Some, None}
use Rattle.std.specs.FinMap as fin
use Rattle.solo_base.specs.declared.outcome.Cause.TheVariants as cause
use Rattle.solo_devices.specs.Count.{Rose}
use Rattle.disk_layout.specs.Files.{free_count}
use Rattle.disk_layout.specs.Format.{IsBad, IsSoloDisk}
use Rattle.disk_layout.specs.Format1.{IsSoloDisk1}
use Rattle.disk_files.specs.Answers.{Holds, Told}
use Rattle.disk_system.specs.declared.migrating.MigrateFault.{MigrateFault}
use Rattle.disk_system.specs.Formatted.{IsFormatted}
use Rattle.disk_system.specs.Migrating.{IsNewer, Migrates, RefusesNewer, RefusesOlder, parts_needed}
use Rattle.solo_cli.specs.declared.refusal.Refusal.{Refusal}
use Rattle.solo_cli.specs.declared.refusal.Refusal.TheVariants.{Fault}
use Rattle.solo_cli.specs.declared.words.Command.{Command}
use Rattle.solo_cli.specs.declared.words.Command.TheVariants as command
use Rattle.solo_cli.specs.Refusals.{refusal_of}

-- An area with these pages can't be mounted: this is the least page that breaks the format. Else a read
-- failed, and was counted, or memory was refused.
abbrev pub RefusesFiles : List (List ℕ) → ℕ → ℕ → Option Refusal → Type 0
RefusesFiles pages before now answer =
    ((page : ℕ) × (answer ≡ Some (Fault (cause.NotSolo page))) × IsBad pages page)
    ⊎ ((answer ≡ Some (Fault cause.DiskFault)) × Rose before now)
    ⊎ (answer ≡ Some (Fault cause.NoMemory))

-- an area with these pages has no file now: 4,270 pages are free, and those of files stay
abbrev pub FormatsTo : List (List ℕ) → Option (List (List ℕ)) → Type 0
FormatsTo pages now = Told now (IsFormatted pages) × Holds now fin.empty 4270

-- An area with these pages has the same files now, in format 2; or the migration was refused for this reason,
-- by the format that the label chooses.
abbrev pub MigratesTo : List (List ℕ) → Option (List (List ℕ)) → Option Refusal → Type 0
MigratesTo pages now None =
    (IsNewer pages → IsSoloDisk pages × (now ≡ Some pages))
    × ((IsNewer pages → ⊥)
    → IsSoloDisk1 pages × (parts_needed pages ≤ free_count pages) × Told now (Migrates pages))
MigratesTo pages now (Some refusal) =
    (fault : MigrateFault) × (refusal ≡ refusal_of fault) × (IsNewer pages → RefusesNewer pages fault)
    × ((IsNewer pages → ⊥) → RefusesOlder pages fault)

-- the pages keep the format that the label tells
abbrev pub KeepsItsFormat : List (List ℕ) → Type 0
KeepsItsFormat pages =
    (IsNewer pages → IsSoloDisk pages) × ((IsNewer pages → ⊥) → IsSoloDisk1 pages)

-- the area of the files is one that the command can use
abbrev pub CanUse : Option Command → Option (List (List ℕ)) → Type 0
CanUse None told = Unit {0}
CanUse (Some command.Batch) told = Told told IsSoloDisk
CanUse (Some (command.Core schedule)) told = Told told IsSoloDisk
CanUse (Some (command.Make number)) told = Told told IsSoloDisk
CanUse (Some command.Format) told = Unit {0}
CanUse (Some command.Migrate) told = Told told KeepsItsFormat
CanUse (Some command.Check) told = Unit {0}
CanUse (Some (command.Times schedule)) told = Unit {0}
CanUse (Some command.Solo) told = Told told IsSoloDisk
