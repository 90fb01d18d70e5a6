-- A law.
-- What holds of the jobs of a deck, and of what is found in files.
use Rattle.std.proofs.Common.{lit<, lit≤, ◌≡◌, ℕ, List, Option, None, Some, refl, subst}
use Rattle.disk_layout.specs.Files.{files as file_map}
use Rattle.disk_contents.specs.Loading.{program_of}
use Rattle.batch_job.specs.Report.{Loads}
use Rattle.batch_job.specs.Loads.{IsLoaded}
use Rattle.batch_job.proofs.NamedFiles.{files_go_on, few_files}
use Rattle.batch_job.proofs.LinesSoFar.{lines_go_on, loads_go_on, never_whole, all_loaded}
use Rattle.batch_job.proofs.ReportLines.{printable-lines}
use Rattle.batch_job.proofs.FewLines.{few-lines}
use Rattle.batch_job.proofs.GoodFiles.{files_are_good}
use Rattle.batch_procs.specs.Jobs.{AreJobs}
use Rattle.deck_work.specs.DeckJobs.{deck_jobs, files_found}

pub deck_are_jobs : AreJobs deck_jobs
deck_are_jobs = record {
  named_add = files_go_on;
  few_named = few_files;
  no_lines = refl;
  items_add = lines_go_on;
  loads_add = λ items loads later lacks. (loads_go_on items loads later).0 lacks;
  lines_stay = λ items loads later whole. ((loads_go_on items loads later).1 whole).0;
  stays_whole = λ items loads later whole. ((loads_go_on items loads later).1 whole).1;
  not_whole = never_whole;
  all_loaded = all_loaded;
  are_lines = printable-lines;
  few_lines = few-lines;
  some_lines = lit< tt;
  countable = lit≤ tt;
  missing_loads = tt;
}

-- Code that is found in files keeps the rules of code.
pub found_are_loads : (pages : Option (List (List ℕ))) (files : Loads) → files_found pages ≡ Some files → (file : List ℕ) → IsLoaded (files file)
found_are_loads None files e = absurd cc
found_are_loads (Some all) files e = λ file.
    let same : program_of (file_map all) ≡ files = some-files (program_of (file_map all)) files e in
    subst (λ found. IsLoaded (found file)) same (files_are_good (file_map all) file)
  where
    some-files : (a b : Loads) → Some a ≡ Some b → a ≡ b
    some-files a b e = cc
