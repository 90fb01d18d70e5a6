-- What is counted and what stays through calls one after the other.
use Rattle.std.proofs.Common.{◌≡◌, ℕ, true, List, Option, Result, Ok, Err, refl, ap, ◌∙◌}
use Rattle.disk_files.specs.Answers.{FaultsOnly, FileTable, after_reading}
use Rattle.disk_files.specs.declared.fault.FileFault.{FileFault}
use Rattle.disk_files.specs.declared.fault.FileFault.TheVariants.{DiskFault as AreaFails}
use Rattle.disk_files.proofs.Kept.{faults_then}
use Rattle.disk_system.specs.declared.fault.DiskFault.{DiskFault}
use Rattle.disk_system.specs.Formatted.{KeepsFilePages, failed}

pub failed_then : (a b c : ℕ) (first last : Result (Unit {0}) DiskFault) → FaultsOnly a b (failed first) → FaultsOnly b c (failed last)
    → FaultsOnly a c (failed last)
failed_then a b c first last f l = faults_then a b c (failed first) (failed last) f l

pub kept_then : (a b c : Option (List (List ℕ))) → KeepsFilePages a b → KeepsFilePages b c → KeepsFilePages a c
kept_then a b c first second = record {
  told = λ pages told.
      let x = first.told pages told in
      let y = second.told x.0 x.1 in
      (y.0, y.1, λ n past. y.2 n past ∙ x.2 n past);
  untold = λ none. second.untold (first.untold none);
}

pub kept_so_far : (a : Option (List (List ℕ))) → KeepsFilePages a a
kept_so_far a = record { told = λ pages told. (pages, told, λ n past. refl); untold = λ none. none }

-- before a call that reads
pub read_none : {A : Type 0} (table : FileTable A) → table.sound ≡ true → table ≡ after_reading {T = Unit {0}} table table.area (Ok tt)
read_none table sound = ap (λ s. record table { sound = s }) sound

-- a call that was done, whatever it gives
pub done_counted : {T U : Type 0} (a b : ℕ) (done : T) (x : U) → FaultsOnly a b (Ok done) → FaultsOnly a b (Ok x)
done_counted {T} {U} a b done x f = record { later = f.later; stays = f.stays; cause = λ e. absurd (ok_is_err x e) }
  where
    ok_is_err : (y : U) → ◌≡◌ {A = Result U FileFault} (Ok y) (Err AreaFails) → ⊥
    ok_is_err y e = cc
