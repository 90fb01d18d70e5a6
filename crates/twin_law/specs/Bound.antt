-- How long a run over told devices can be.
use Rattle.std.specs.Prelude.{◌+◌, ◌*◌, ℕ, List, length}
use Rattle.solo_base.specs.declared.item.Item.{Item}
use Rattle.batch_procs.specs.Jobs.{Jobs, FilesAs, one_thread}
use Rattle.deck_units.specs.Units.{units}

-- No run has more events: by the cards of its deck, the lines that one thread prints for them with these
-- files, and the units of the deck, each of which has a job.
abbrev pub longest_run : {L : Type 0} → Jobs L → FilesAs L → List Item → ℕ
longest_run J found items =
    40 * (length items + length (one_thread J items found) + 4) + 40 * length (units items)
