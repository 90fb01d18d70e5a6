-- Why a command didn't do its whole work.
use Rattle.std.specs.Prelude.{Option, Some, None}
use Rattle.solo_base.specs.declared.outcome.Cause.{Cause}
use Rattle.solo_base.specs.declared.outcome.Cause.TheVariants as cause
use Rattle.batch_ends.specs.Ended.{TellsWhere}
use Rattle.disk_files.specs.declared.fault.FileFault.{FileFault}
use Rattle.disk_files.specs.declared.fault.FileFault.TheVariants as files
use Rattle.disk_system.specs.declared.migrating.MigrateFault.{MigrateFault}
use Rattle.disk_system.specs.declared.migrating.MigrateFault.TheVariants as migrating
use Rattle.solo_cli.specs.declared.refusal.Refusal.{Refusal}
use Rattle.solo_cli.specs.declared.refusal.Refusal.TheVariants.{Fault, NoRoom}

-- the end of a run as that of a command
abbrev pub as_refusal : Option Cause → Option Refusal
as_refusal None = None
as_refusal (Some why) = Some (Fault why)

-- a migration's fault as that of a command
abbrev pub refusal_of : MigrateFault → Refusal
refusal_of (migrating.NotSolo page) = Fault (cause.NotSolo page)
refusal_of (migrating.NoRoom needed free) = NoRoom needed free
refusal_of migrating.DiskFault = Fault cause.DiskFault
refusal_of migrating.NoMemory = Fault cause.NoMemory

-- a refused mount's fault as that of a command; no other fault is a mount's
abbrev pub mount_cause : FileFault → Cause
mount_cause (files.NotSolo page) = cause.NotSolo page
mount_cause files.NoMemory = cause.NoMemory
mount_cause files.DiskFault = cause.DiskFault
mount_cause files.NoFile = cause.DiskFault
mount_cause files.Exists = cause.DiskFault
mount_cause files.Protected = cause.DiskFault
mount_cause files.CatalogFull = cause.DiskFault
mount_cause files.DiskFull = cause.DiskFault
mount_cause files.FileFull = cause.DiskFault
mount_cause files.PageRange = cause.DiskFault

-- a cause of which this holds
abbrev pub OfFault : (Cause → Type 0) → Refusal → Type 0
OfFault holds (Fault why) = holds why
OfFault holds (NoRoom needed free) = ⊥

-- where it is a damaged page its numbers agree
abbrev pub TellsPlace : Refusal → Type 0
TellsPlace (Fault why) = TellsWhere why
TellsPlace (NoRoom needed free) = Unit {0}
