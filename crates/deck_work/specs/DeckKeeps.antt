-- What the work on the jobs of a deck keeps, by the stream of lines that it has.
use Rattle.disk_contents.specs.declared.loading.Loaded.{Loaded}
use Rattle.batch_procs.specs.JobTold.{JobTold}
use Rattle.deck_work.specs.declared.work.DeckWork.{DeckWork}
use Rattle.deck_work.specs.KeepsDeck.{KeepsDeck}

abbrev pub deck_keeps : DeckWork → JobTold Loaded → Type 0
deck_keeps work = KeepsDeck work.stream
