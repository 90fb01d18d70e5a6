-- Whatever became of a run, the counts of its rule are those of the one undisturbed run.
use Rattle.std.proofs.Common.{◌≡◌, inr, ℕ, List, [], Option, Some}
use Rattle.solo_base.specs.Card.{cards}
use Rattle.solo_base.specs.Text.{text}
use Rattle.solo_devices.specs.PrinterUnit.{Gains}
use Rattle.page_codec.proofs.CardItems.{card-items}
use Rattle.batch_job.specs.Loads.{files_named}
use Rattle.batch_job.specs.OneThread.{one_thread_output}
use Rattle.batch_job.specs.Report.{Loads, no_files}
use Rattle.core_law.specs.Holds.{AreTold}
use Rattle.core_law.specs.Opening.{Spools, AreInBounds, AreGoodFiles, opened}
use Rattle.deck_work.specs.DeckJobs.{AreFound, deck_jobs}
use Rattle.network_run.specs.declared.rules.Rule.{Rule}
use Rattle.solo_cli.specs.DeckNumbers.{deck_lines}
use Rattle.solo_cli.specs.DeckRuns.{GainsCounted}
use Rattle.solo_cli.specs.MakesDeck.{GainsNumbers}
use Rattle.run_report.proofs.Adding.{nothing, without}
use Rattle.solo_cli.proofs.Counted.{some-counts}

-- the lines are gained without the counts
pub uncounted : (rule : Rule) (spools : Spools) (files : Option Loads) (found : Loads) (deck : List ℕ) (paper now : Option (List ℕ)) (all : Type 0)
    → AreGoodFiles deck_jobs files → AreFound files found (cards deck) → AreInBounds spools → AreTold spools → (all → ⊥)
    → Gains paper now (text (one_thread_output found deck)) all
    → GainsCounted rule (opened spools (Some (cards deck)) paper files) paper now (one_thread_output found deck) all
uncounted rule spools files found deck paper now all good are bounds told never gains =
    let some = some-counts spools (cards deck) paper files found rule good are bounds told (card-items deck) in
    record { counts = some.0; counted = some.1; gains = without paper now (one_thread_output found deck) _ all never gains }

-- nothing is printed of a deck that names no file
pub no-numbers : (rule : Rule) (spools : Spools) (files : Option Loads) (deck : List ℕ) (paper : Option (List ℕ)) (all : Type 0)
    → AreGoodFiles deck_jobs files → files_named (cards deck) ≡ [] → AreInBounds spools → AreTold spools → (all → ⊥)
    → GainsNumbers rule (opened spools (Some (cards deck)) (Some []) files) deck paper paper all
no-numbers rule spools files deck paper all good none bounds told never =
    let some = some-counts spools (cards deck) (Some []) files no_files rule good (inr none) bounds told (card-items deck) in
    record { counts = some.0; counted = some.1; gains = λ found. nothing paper (text (deck_lines found deck some.0)) all never }
