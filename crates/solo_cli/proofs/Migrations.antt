-- Which faults of the files' area there are where the command can use it.
use Rattle.std.proofs.Common.{◌≡◌, inl, inr, ℕ, List, Option, Some, None, refl, sym, ap, subst}
use Rattle.solo_base.specs.declared.outcome.Cause.TheVariants as cause
use Rattle.disk_layout.specs.Format.{IsSoloDisk}
use Rattle.disk_layout.specs.Format1.{IsSoloDisk1}
use Rattle.disk_system.specs.declared.migrating.MigrateFault.{MigrateFault}
use Rattle.disk_system.specs.declared.migrating.MigrateFault.TheVariants as migrating
use Rattle.disk_system.specs.Migrating.{IsNewer, RefusesNewer, RefusesOlder}
use Rattle.solo_cli.specs.declared.refusal.Refusal.TheVariants.{Fault}
use Rattle.solo_cli.specs.declared.words.Command.{Command}
use Rattle.solo_cli.specs.declared.words.Command.TheVariants as command
use Rattle.solo_cli.specs.Causes.{MayBeRefused}
use Rattle.solo_cli.specs.Devices.{Kit}
use Rattle.solo_cli.specs.Does.{DoesItsWork}
use Rattle.solo_cli.specs.FileCommands.{CanUse, KeepsItsFormat, MigratesTo}
use Rattle.solo_cli.specs.Refusals.{refusal_of}
use Rattle.solo_cli.proofs.Mounted.{no-solo}
use Rattle.solo_cli.proofs.Tables.{untrue}

-- ---- the page that is named breaks the format
fault-is : (it : MigrateFault) (page : ℕ) → Fault (cause.NotSolo page) ≡ refusal_of it → it ≡ migrating.NotSolo page
fault-is (migrating.NotSolo n) page is = (let same : page ≡ n = cc in ap migrating.NotSolo (sym same))
fault-is (migrating.NoRoom needed free) page is = cc
fault-is migrating.DiskFault page is = cc
fault-is migrating.NoMemory page is = cc

newer-bad : (pages : List (List ℕ)) (page : ℕ) → RefusesNewer pages (migrating.NotSolo page) → IsSoloDisk pages → ⊥
newer-bad pages page (inl is) solo = cc
newer-bad pages page (inr (inl is)) solo = cc
newer-bad pages page (inr (inr (n, is, bad))) solo = no-solo pages n solo bad

older-bad : (pages : List (List ℕ)) (page : ℕ) → RefusesOlder pages (migrating.NotSolo page) → IsSoloDisk1 pages → ⊥
older-bad pages page (inl is) solo = cc
older-bad pages page (inr (inl is)) solo = cc
older-bad pages page (inr (inr (inl (n, is, bad)))) solo = bad.breaks (solo n)
older-bad pages page (inr (inr (inr (is, old, few)))) solo = cc

neither : (pages : List (List ℕ)) (now : Option (List (List ℕ))) (page : ℕ) → KeepsItsFormat pages
    → MigratesTo pages now (Some (Fault (cause.NotSolo page))) → ⊥
neither pages now page (newer, older) (it, is, by_newer, by_older) =
    let same : it ≡ migrating.NotSolo page = fault-is it page is in
    let no : IsNewer pages → ⊥
    = λ new. newer-bad pages page (subst (RefusesNewer pages) same (by_newer new)) (newer new) in
    older-bad pages page (subst (RefusesOlder pages) same (by_older no)) (older no)

-- no page of an area that the command can use is named
pub none-named : {S Y K T F I O : Type 0} (before after : Kit S Y K T F I O) (asked : Option Command) (page : ℕ) → CanUse asked before.files.pages
    → MayBeRefused asked (Fault (cause.NotSolo page)) → DoesItsWork asked before after (Some (Fault (cause.NotSolo page))) → ⊥
none-named before after None page can known does = absurd (untrue known)
none-named before after (Some command.Batch) page (pages, is, solo) known does = no-solo pages page solo ((does.1.not_solo page refl).0 pages is)
none-named before after (Some (command.Core schedule)) page (pages, is, solo) known does = no-solo pages page solo ((does.1.not_solo page refl).0 pages is)
none-named before after (Some (command.Make number)) page (pages, is, solo) known does = no-solo pages page solo ((does.1.not_solo page refl).0 pages is)
none-named before after (Some command.Format) page can known does = absurd (untrue known)
none-named before after (Some command.Migrate) page (pages, is, keeps) known does =
    neither pages after.files.pages page keeps (does.migrated pages is)
none-named before after (Some command.Check) page can known does = absurd (untrue known)
none-named before after (Some (command.Times schedule)) page can known does = absurd (untrue known)
none-named before after (Some command.Solo) page (pages, is, solo) known does = no-solo pages page solo ((does.1.not_solo page refl).0 pages is)
