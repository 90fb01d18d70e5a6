-- The mount of the files, before a deck is run.
use Rattle.std.specs.Prelude.{◌≡◌, ◌≤◌, ◌⊎◌, ℕ, List, Option, Some}
use Rattle.solo_base.specs.declared.outcome.Cause.{Cause}
use Rattle.solo_base.specs.declared.outcome.Cause.TheVariants as cause
use Rattle.solo_devices.specs.Count.{Rose}
use Rattle.disk_layout.specs.Format.{IsBad, IsSoloDisk}
use Rattle.disk_files.specs.declared.fault.FileFault.{FileFault}
use Rattle.disk_files.specs.declared.fault.FileFault.TheVariants as files
use Rattle.run_report.specs.Told.{AreaTold}
use Rattle.twin_top.specs.Kit.{TwinKit}
use Rattle.twin_top.specs.Runs.{NothingRan}

-- a refused mount's fault as that of a run; no other fault is a mount's
abbrev pub mount_cause : FileFault → Cause
mount_cause (files.NotSolo page) = cause.NotSolo page
mount_cause files.NoMemory = cause.NoMemory
mount_cause files.DiskFault = cause.DiskFault
mount_cause files.NoFile = cause.DiskFault
mount_cause files.Exists = cause.DiskFault
mount_cause files.Protected = cause.DiskFault
mount_cause files.CatalogFull = cause.DiskFault
mount_cause files.DiskFull = cause.DiskFault
mount_cause files.FileFull = cause.DiskFault
mount_cause files.PageRange = cause.DiskFault

-- The files are mounted first. Where one of their pages breaks the format the least such page is named,
-- unless a read of the files failed or memory was refused, and nothing is run.
abbrev pub RefusesThem : {F : Type 0} → AreaTold F → AreaTold F → List (List ℕ) → Option Cause → Type 0
RefusesThem before after pages answer =
    ((page : ℕ) × (answer ≡ Some (cause.NotSolo page)) × IsBad pages page)
    ⊎ (((answer ≡ Some cause.DiskFault) × Rose before.faults after.faults) ⊎ (answer ≡ Some cause.NoMemory))

pub record FilesComeFirst {S K F A : Type 0} (before after : TwinKit S K F A) (answer : Option Cause) : Type 0
  where
    pub broken : (pages : List (List ℕ)) → before.files.pages ≡ Some pages → (page : ℕ) → IsBad pages page
        → RefusesThem before.files after.files pages answer × NothingRan before after
    pub not_solo : (page : ℕ) → answer ≡ Some (cause.NotSolo page)
        → ((pages : List (List ℕ)) → before.files.pages ≡ Some pages → IsBad pages page)
        × NothingRan before after

-- ---- what a mount leaves
-- The files are mounted: the area tells what it told, and its count didn't fall.
pub record HasMounted {S K F A : Type 0} (before now : TwinKit S K F A) : Type 0 where
  pub stays : now ≡ record before { files = now.files }
  pub left : now.files.pages ≡ before.files.pages
  pub size : now.files.size ≡ before.files.size
  pub later : before.files.faults ≤ now.files.faults
  pub solo : (pages : List (List ℕ)) → before.files.pages ≡ Some pages → IsSoloDisk pages

-- The area failed, and this was counted, or memory was refused, or this page is the least that breaks the
-- format.
abbrev pub WhyNotMounted : {F : Type 0} → AreaTold F → AreaTold F → Option Cause → Type 0
WhyNotMounted before after answer =
    ((answer ≡ Some cause.DiskFault) × Rose before.faults after.faults)
    ⊎ ((answer ≡ Some cause.NoMemory) ⊎ ((page : ℕ) × (answer ≡ Some (cause.NotSolo page))
    × ((pages : List (List ℕ)) → before.pages ≡ Some pages → IsBad pages page)))

pub record HasNotMounted {S K F A : Type 0} (before after : TwinKit S K F A) (answer : Option Cause) : Type 0
  where
    pub stays : after ≡ record before { files = after.files }
    pub left : after.files.pages ≡ before.files.pages
    pub size : after.files.size ≡ before.files.size
    pub why : WhyNotMounted before.files after.files answer
