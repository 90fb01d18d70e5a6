-- The numbers of a deck, and the lines that tell them.
use Rattle.std.specs.Prelude.{ℕ, ◌+◌, List, [], ◌∷◌, ◌++◌, length, codes}
use Rattle.std.specs.Fmt.{decimal}
use Rattle.solo_base.specs.Card.{cards}
use Rattle.deck_format.specs.Jobs.{jobs}
use Rattle.batch_job.specs.Report.{Loads}
use Rattle.batch_job.specs.OneThread.{one_thread_output}
use Rattle.network_run.specs.declared.counts.Counts.{Counts}
use Rattle.run_report.specs.CountsLine.{counts_line}

-- how many characters lines have, without their ends
abbrev pub characters_of : List (List ℕ) → ℕ
characters_of [] = 0
characters_of (line ∷ lines) = length line + characters_of lines

-- `JOBS 100`, `CARDS 569`, `LINES 598`, `CHARACTERS 3219`, and behind them the line of counts
abbrev pub five_lines : ℕ → ℕ → ℕ → ℕ → Counts → List (List ℕ)
five_lines job_count cards_in_all line_count character_count counts =
    (codes "JOBS " ++ decimal job_count)
    ∷ (codes "CARDS " ++ decimal cards_in_all)
    ∷ (codes "LINES " ++ decimal line_count)
    ∷ (codes "CHARACTERS " ++ decimal character_count)
    ∷ counts_line counts.events counts.delays counts.grants ∷ []

-- Of a deck: its jobs; all its cards, those that control it included; and the lines and characters that one
-- thread prints of it with these files. Then what a run of it counted.
abbrev pub deck_lines : Loads → List ℕ → Counts → List (List ℕ)
deck_lines found deck counts =
    five_lines (length (jobs (cards deck))) (length (cards deck)) (length (one_thread_output found deck))
    (characters_of (one_thread_output found deck)) counts
