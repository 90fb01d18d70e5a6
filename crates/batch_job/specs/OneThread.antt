-- What one thread prints that takes the jobs of a deck one after another.
use Rattle.std.specs.Prelude.{ℕ, List, flat_map}
use Rattle.solo_base.specs.declared.item.Item.{Item}
use Rattle.solo_base.specs.Card.{cards}
use Rattle.deck_format.specs.Jobs.{jobs}
use Rattle.batch_job.specs.Report.{Loads, report}

-- the lines of the jobs of some items, in order, with these files
abbrev pub one_thread_lines : Loads → List Item → List (List ℕ)
one_thread_lines files items = flat_map (report files) (jobs items)

-- those of the deck's cards
abbrev pub one_thread_output : Loads → List ℕ → List (List ℕ)
one_thread_output files deck = one_thread_lines files (cards deck)
