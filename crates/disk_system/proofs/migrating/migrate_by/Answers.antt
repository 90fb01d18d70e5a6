use Rattle.std.proofs.Common.{◌≡◌, ◌∙◌, Option, Some, Result, Ok, Err, List, ℕ}
use Rattle.std.specs.Prelude.{MatchResult}
use Rattle.disk_layout.specs.Format.{IsSoloDisk}
use Rattle.disk_layout.specs.Files.{name_count}
use Rattle.disk_system.specs.declared.migrating.Migrated.{Migrated}
use Rattle.disk_system.specs.declared.migrating.MigrateFault.{MigrateFault}
use Rattle.disk_system.specs.Migrating.{RefusesNewer}
use Rattle.disk_system.proofs.migrating.migrate_by.Goals as goal

stays : (pages : List (List ℕ)) (now : Option (List (List ℕ))) (r : Result Migrated MigrateFault) → now ≡ Some pages
    → MatchResult r (λ done. IsSoloDisk pages × (done.files ≡ name_count pages)) (RefusesNewer pages)
    → MatchResult r (λ done. IsSoloDisk pages × (done.files ≡ name_count pages) × (now ≡ Some pages)) (RefusesNewer pages)
stays pages now (Ok done) told found = (found.0, found.1, told)
stays pages now (Err fault) told found = found

pub returns-then-format-eq2-clause-newer : goal.returns-then-format-eq2-clause-newer
returns-then-format-eq2-clause-newer g c = λ pages told newer.
    stays pages _ c.judge_newer.result (c.judge_newer.ensures.left ∙ told) (c.judge_newer.ensures.judged pages told)
