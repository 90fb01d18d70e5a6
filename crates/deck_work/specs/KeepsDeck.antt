-- What the work on the jobs of a deck keeps of what it was told.
use Rattle.std.specs.Prelude.{◌≡◌, ℕ, true, not, List, [], ◌++◌, length}
use Rattle.disk_contents.specs.declared.loading.Loaded.{Loaded}
use Rattle.batch_job.specs.Loads.{files_named}
use Rattle.batch_job.specs.JobStream.{Stream, StandsFor, IsSpent, goes_on}
use Rattle.batch_procs.specs.JobTold.{JobTold}

-- The stream of lines was fed these items and given these loads, and gave the lines that were pushed.
pub record KeepsDeck (stream : Stream) (told : JobTold Loaded) : Type 0 where
  pub stands : StandsFor stream told.items told.loads told.pushed
  pub end_is : goes_on stream.end ≡ not told.ended
  -- of the files that its items name the first are loaded, and these are wanted
  pub found : List (List ℕ)
  pub named : files_named told.items ≡ found ++ stream.wanted
  pub as_many : length found ≡ length told.loads
  -- where all lines so far are pushed, no file is wanted, and nothing is ahead
  pub spent : told.rests ≡ true → IsSpent stream
  pub none_wanted : told.rests ≡ true → stream.wanted ≡ []
