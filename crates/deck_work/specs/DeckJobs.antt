-- The jobs of a deck, as the network knows them.
use Rattle.std.specs.Prelude.{◌≡◌, ◌⊎◌, ℕ, List, [], Option, Some}
use Rattle.std.specs.Option.{option_map}
use Rattle.solo_base.specs.declared.item.Item.{Item}
use Rattle.disk_layout.specs.Files.{files as file_map}
use Rattle.disk_contents.specs.Loading.{program_of}
use Rattle.disk_contents.specs.declared.loading.Loaded.{Loaded}
use Rattle.disk_contents.specs.declared.loading.Loaded.TheVariants.{NoFile}
use Rattle.batch_job.specs.Report.{Loads}
use Rattle.batch_job.specs.Loads.{files_named, IsLoaded}
use Rattle.batch_job.specs.LinesSoFar.{lines_so_far, is_whole, lines_of_an_item}
use Rattle.batch_procs.specs.Jobs.{Jobs}

-- the files that the jobs of items name, and the lines of the items so far
abbrev pub deck_jobs : Jobs Loaded
deck_jobs = record {
  named = files_named;
  lines = lines_so_far;
  whole = is_whole;
  IsLoad = IsLoaded;
  missing = NoFile;
  most = lines_of_an_item;
}

-- what the files on these pages are loaded as, where the area tells them
abbrev pub files_found : Option (List (List ℕ)) → Option Loads
files_found pages = option_map (λ all. program_of (file_map all)) pages

-- What the files are loaded as that these items name: the file area tells it, or none is named.
abbrev pub AreFound : Option Loads → Loads → List Item → Type 0
AreFound files found items = (files ≡ Some found) ⊎ (files_named items ≡ [])
